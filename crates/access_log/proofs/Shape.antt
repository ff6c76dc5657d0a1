-- The pieces that are appended are the line's fields, or members, with what stands between them.
use Rattle.std.proofs.Common.{◌≡◌, ℕ, Bool, true, false, cond, nat_eq, List, [], ◌∷◌, ◌++◌, length, append_assoc, refl, ap, sym, ◌∙◌}
use Rattle.std.specs.Prelude.{codes, decimal}
use Rattle.std.specs.List.{join_with_byte}
use Rattle.std.proofs.lemmas.List.{append-nil}
use Rattle.access_log.specs.declared.entry.Entry.{Entry}
use Rattle.access_log.specs.declared.entry.Form.{Form}
use Rattle.access_log.specs.declared.entry.Form.TheVariants.{Common, Json}
use Rattle.access_log.specs.declared.stamp.Stamp.{Stamp}
use Rattle.access_log.specs.Escaped.{escaped, escaped_or_dash}
use Rattle.access_log.specs.Stamp.{common_time, json_time}
use Rattle.access_log.specs.Line.{shown_moment, address_text, status_text, course_text, supplier_text, quoted, request_text, common_fields, truth_text, member, text_member, json_members, line_text}
use Rattle.access_log.specs.Pieces.{common_asked, common_answered, common_course, common_pieces, named_text, member_text, json_asked, json_answered, json_course, json_pieces, pieces_of}

-- the same texts in a row, taken together in another way
common_grouped : (sep front back quote dash a t q s o r g c p d : List ℕ) → a ++ (sep ++ (dash ++ (sep ++ (dash ++ (sep ++ ((front ++ t ++ back) ++ (sep ++ ((quote ++ q ++ quote) ++ (sep ++ (s ++ (sep ++ (o ++ (sep ++ ((quote ++ r ++ quote) ++ (sep ++ ((quote ++ g ++ quote) ++ (sep ++ ((quote ++ (c ++ sep ++ p) ++ quote) ++ (sep ++ d))))))))))))))))))) ≡ (a ++ (sep ++ dash ++ sep ++ dash ++ sep ++ front) ++ t ++ (back ++ sep ++ quote) ++ q ++ (quote ++ sep)) ++ (s ++ sep ++ o ++ (sep ++ quote) ++ r ++ (quote ++ sep ++ quote) ++ g ++ (quote ++ sep)) ++ (quote ++ c ++ sep ++ p ++ (quote ++ sep) ++ d)
common_grouped sep front back quote dash a t q s o r g c p d = simp append_assoc

json_grouped : (front back quote comma k1 k2 k3 k4 k5 k6 k7 k8 k9 k10 t c m u s o l h p w e f : List ℕ) → front ++ ((k1 ++ (quote ++ t ++ quote)) ++ (comma ++ ((k2 ++ (quote ++ c ++ quote)) ++ (comma ++ ((k3 ++ (quote ++ m ++ quote)) ++ (comma ++ ((k4 ++ (quote ++ u ++ quote)) ++ (comma ++ ((k5 ++ s) ++ (comma ++ ((k6 ++ o) ++ (comma ++ ((k7 ++ l) ++ (comma ++ ((k8 ++ (quote ++ h ++ quote)) ++ (comma ++ ((k9 ++ (quote ++ p ++ quote)) ++ (comma ++ ((k10 ++ w) ++ (e ++ f)))))))))))))))))))) ++ back ≡ front ++ ((k1 ++ quote) ++ t ++ (quote ++ comma ++ k2 ++ quote) ++ c ++ quote ++ ((comma ++ k3 ++ quote) ++ m ++ quote) ++ ((comma ++ k4 ++ quote) ++ u ++ quote)) ++ ((comma ++ k5) ++ s ++ (comma ++ k6) ++ o ++ (comma ++ k7) ++ l) ++ ((comma ++ k8 ++ quote) ++ h ++ (quote ++ comma ++ k9 ++ quote) ++ p ++ (quote ++ comma ++ k10) ++ w) ++ e ++ f ++ back
json_grouped front back quote comma k1 k2 k3 k4 k5 k6 k7 k8 k9 k10 t c m u s o l h p w e f = simp append_assoc

-- the last members, of which two may be left out
last_members : (b d : Bool) (v x y : List ℕ) → join_with_byte 44 ((v ∷ cond b [] (x ∷ [])) ++ cond d [] (y ∷ [])) ≡ v ++ (cond b [] (44 ∷ x) ++ cond d [] (44 ∷ y))
last_members true true v x y = sym (append-nil v)
last_members true false v x y = refl
last_members false true v x y = ap (λ (e : List ℕ). v ++ 44 ∷ e) (sym (append-nil x))
last_members false false v x y = refl

pub line_in_pieces : (form : Form) (stamp : Stamp) (entry : Entry) → line_text form stamp entry ≡ pieces_of form stamp entry
unfolding line_text common_fields json_members pieces_of common_pieces common_asked common_answered common_course json_pieces json_asked json_answered json_course named_text member_text
line_in_pieces Common stamp entry =
    common_grouped (codes " ") (codes "[") (codes "]") (codes "\"") (codes "-") (address_text entry.client) (common_time stamp) (request_text entry)
    (status_text entry.status) (decimal entry.octets) (escaped_or_dash entry.referer.now) (escaped_or_dash entry.agent.now)
    (course_text entry.course) (supplier_text entry.supplier) (decimal entry.taken)
line_in_pieces Json stamp entry =
    ap (λ (J : List ℕ). codes "{" ++ (member (codes "time") (quoted (json_time stamp (shown_moment entry.millis))) ++ 44 ∷ (member (codes "client") (quoted (address_text entry.client)) ++ 44 ∷ (member (codes "method") (quoted (escaped Json entry.method.now)) ++ 44 ∷ (member (codes "url") (quoted (escaped Json entry.url.now)) ++ 44 ∷ (member (codes "status") (status_text entry.status) ++ 44 ∷ (member (codes "octets") (decimal entry.octets) ++ 44 ∷ (member (codes "ms") (decimal entry.taken) ++ 44 ∷ (member (codes "how") (quoted (course_text entry.course)) ++ 44 ∷ (member (codes "source") (quoted (supplier_text entry.supplier)) ++ 44 ∷ J))))))))) ++ codes "}")
    (last_members (nat_eq (length entry.referer.now) 0) (nat_eq (length entry.agent.now) 0) (member (codes "whole") (truth_text entry.is_whole)) (text_member (codes "referer") entry.referer.now) (text_member (codes "agent") entry.agent.now))
    ∙ json_grouped (codes "{") (codes "}") (codes "\"") (codes ",") (quoted (codes "time") ++ codes ":") (quoted (codes "client") ++ codes ":") (quoted (codes "method") ++ codes ":") (quoted (codes "url") ++ codes ":") (quoted (codes "status") ++ codes ":") (quoted (codes "octets") ++ codes ":") (quoted (codes "ms") ++ codes ":") (quoted (codes "how") ++ codes ":") (quoted (codes "source") ++ codes ":") (quoted (codes "whole") ++ codes ":") (json_time stamp (shown_moment entry.millis)) (address_text entry.client) (escaped Json entry.method.now) (escaped Json entry.url.now) (status_text entry.status) (decimal entry.octets) (decimal entry.taken) (course_text entry.course) (supplier_text entry.supplier) (truth_text entry.is_whole)
    (cond (nat_eq (length entry.referer.now) 0) [] (44 ∷ text_member (codes "referer") entry.referer.now))
    (cond (nat_eq (length entry.agent.now) 0) [] (44 ∷ text_member (codes "agent") entry.agent.now))
