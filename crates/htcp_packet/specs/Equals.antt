-- Proof that the boolean equality of messages decides equality. The laws of `PartialEq` and `Eq` rest on it.
use Rattle.std.proofs.Common.{◌≡◌, ℕ, Bool, true, false, eqb, List, refl, sym, ap, subst, ◌∙◌}
use Rattle.std.specs.Prelude.{◌&&◌}
use Rattle.std.specs.Bool.{Decides, beq}
use Rattle.std.specs.Str.{bytes_eq}
use Rattle.std.specs.Cmp.{IsEquivalence, booleans_Decides}
use Rattle.std.proofs.lemmas.Bool.{eq-eqb, eqb-true}
use Rattle.std.proofs.lemmas.Bool.Decides.{same_from_decides}
use Rattle.std.proofs.lemmas.Slice.Eq.{bytes_eq-Decides}
use Rattle.htcp_packet.specs.Message.{Spec, Details, Body, empty, specifier, clear, detail, cache_headers, opaque, Seal, Auth, unsigned, signed, Message}
use Rattle.htcp_packet.specs.Equality.{same_spec, same_details, same_body, same_seal, same_auth, same_message}

-- a true conjunction has two true parts
pub and_both : (a b : Bool) → (a && b) ≡ true → (a ≡ true) × (b ≡ true)
and_both true true e = (refl, refl)
and_both true false e = absurd cc
and_both false b e = absurd cc

-- soundness and reflexivity of equality of texts, numbers and flags
texts : (x y : List ℕ) → bytes_eq x y ≡ true → x ≡ y
texts x y e = (bytes_eq-Decides x y).0 e

text_itself : (x : List ℕ) → bytes_eq x x ≡ true
text_itself x = (bytes_eq-Decides x x).1 refl

number_itself : (n : ℕ) → eqb n n ≡ true
number_itself n = eq-eqb n n refl

flag_itself : (b : Bool) → beq b b ≡ true
flag_itself true = refl
flag_itself false = refl

-- the same for each part of a message
specs_same : (s t : Spec) → same_spec s t ≡ true → s ≡ t
specs_same s t e =
    let a = and_both _ _ e in
    let b = and_both _ _ a.0 in
    let c = and_both _ _ b.0 in
    let made : List ℕ → List ℕ → List ℕ → List ℕ → Spec = λ w x y z. record { method = w; uri = x; version = y; headers = z } in
    let same : made s.method s.uri s.version s.headers ≡ made t.method t.uri t.version t.headers = rw (texts s.method t.method c.0, texts s.uri t.uri c.1, texts s.version t.version b.1, texts s.headers t.headers a.1) refl in
    same

spec_itself : (s : Spec) → same_spec s s ≡ true
spec_itself s = rw (text_itself s.method, text_itself s.uri, text_itself s.version, text_itself s.headers) refl

details_same : (d e : Details) → same_details d e ≡ true → d ≡ e
details_same d e t =
    let a = and_both _ _ t in
    let b = and_both _ _ a.0 in
    let made : List ℕ → List ℕ → List ℕ → Details = λ x y z. record { response = x; entity = y; cache = z } in
    let same : made d.response d.entity d.cache ≡ made e.response e.entity e.cache = rw (texts d.response e.response b.0, texts d.entity e.entity b.1, texts d.cache e.cache a.1) refl in
    same

details_itself : (d : Details) → same_details d d ≡ true
details_itself d = rw (text_itself d.response, text_itself d.entity, text_itself d.cache) refl

bodies_same : (b c : Body) → same_body b c ≡ true → b ≡ c
bodies_same empty empty e = refl
bodies_same (specifier s) (specifier t) e = ap specifier (specs_same s t e)
bodies_same (clear r s) (clear q t) e =
    let a = and_both _ _ e in
    ap (λ (n : ℕ). clear n s) (eqb-true r q a.0) ∙ ap (clear q) (specs_same s t a.1)
bodies_same (detail d) (detail f) e = ap detail (details_same d f e)
bodies_same (cache_headers g) (cache_headers h) e = ap cache_headers (texts g h e)
bodies_same (opaque x) (opaque y) e = ap opaque (texts x y e)
bodies_same b c e = absurd cc

body_itself : (b : Body) → same_body b b ≡ true
body_itself empty = refl
body_itself (specifier s) = spec_itself s
body_itself (clear r s) = rw (number_itself r, spec_itself s) refl
body_itself (detail d) = details_itself d
body_itself (cache_headers h) = text_itself h
body_itself (opaque x) = text_itself x

seals_same : (s t : Seal) → same_seal s t ≡ true → s ≡ t
seals_same s t e =
    let a = and_both _ _ e in
    let b = and_both _ _ a.0 in
    let c = and_both _ _ b.0 in
    let made : ℕ → ℕ → List ℕ → List ℕ → Seal = λ w x y z. record { time = w; expire = x; key_name = y; signature = z } in
    let same : made s.time s.expire s.key_name s.signature ≡ made t.time t.expire t.key_name t.signature = rw (eqb-true s.time t.time c.0, eqb-true s.expire t.expire c.1, texts s.key_name t.key_name b.1, texts s.signature t.signature a.1) refl in
    same

auths_same : (a b : Auth) → same_auth a b ≡ true → a ≡ b
auths_same unsigned unsigned e = refl
auths_same (signed s) (signed t) e = ap signed (seals_same s t e)
auths_same a b e = absurd cc

auth_itself : (a : Auth) → same_auth a a ≡ true
auth_itself unsigned = refl
auth_itself (signed s) = rw (number_itself s.time, number_itself s.expire, text_itself s.key_name, text_itself s.signature) refl

messages_same : (m n : Message) → same_message m n ≡ true → m ≡ n
messages_same m n e =
    let a = and_both _ _ e in
    let b = and_both _ _ a.0 in
    let c = and_both _ _ b.0 in
    let d = and_both _ _ c.0 in
    let f = and_both _ _ d.0 in
    let g = and_both _ _ f.0 in
    let h = and_both _ _ g.0 in
    let made : ℕ → ℕ → ℕ → Bool → Bool → ℕ → Body → Auth → Message = λ q r s t u v w x. record { minor = q; opcode = r; response = s; f1 = t; rr = u; trans = v; body = w; auth = x } in
    let same : made m.minor m.opcode m.response m.f1 m.rr m.trans m.body m.auth ≡ made n.minor n.opcode n.response n.f1 n.rr n.trans n.body n.auth =
    rw (eqb-true m.minor n.minor h.0, eqb-true m.opcode n.opcode h.1, eqb-true m.response n.response g.1, (booleans_Decides m.f1 n.f1).0 f.1, (booleans_Decides m.rr n.rr).0 d.1, eqb-true m.trans n.trans c.1, bodies_same m.body n.body b.1, auths_same m.auth n.auth a.1) refl in
    same

message_itself : (m : Message) → same_message m m ≡ true
message_itself m =
    rw (number_itself m.minor, number_itself m.opcode, number_itself m.response, flag_itself m.f1, flag_itself m.rr, number_itself m.trans, body_itself m.body, auth_itself m.auth) refl

-- `same_message` decides equality
pub same_message-Decides : (m n : Message) → Decides (same_message m n) (m ≡ n)
same_message-Decides m n = (messages_same m n, λ e. subst (λ (x : Message). same_message m x ≡ true) e (message_itself m))

-- hence it is an equivalence
pub messages_equiv : IsEquivalence same_message
messages_equiv = record {
  refl = message_itself;
  symm = λ m n. same_from_decides (same_message m n) (same_message n m) (same_message-Decides m n) (turned n m);
  congr = λ m n o e. ap (λ (x : Message). same_message x o) (messages_same m n e);
}
  where
    turned : (n m : Message) → Decides (same_message n m) (m ≡ n)
    turned n m = (λ e. sym ((same_message-Decides n m).0 e), λ e. (same_message-Decides n m).1 (sym e))
