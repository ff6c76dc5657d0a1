-- The message that octets encode is the one read from them, hence unique.
use Rattle.std.proofs.Common.{◌≡◌, ℕ, zero, suc, ◌+◌, ◌<◌, ◌≤◌, ◌^◌, ◌%◌, List, [], ◌∷◌, ◌++◌, length, take, drop, Option, Some, None, true, false, refl, sym, ap, subst, ◌∙◌, arith, Bool, cond}
use Rattle.std.proofs.Math.Nat.{mod-lt}
use Rattle.std.specs.Prelude.{slice_index, nat_lt}
use Rattle.std.specs.Option.{option_and_then}
use Rattle.std.specs.Str.{bytes_eq}
use Rattle.std.proofs.lemmas.Bool.{le-ltb, ltb-false}
use Rattle.std.proofs.lemmas.List.{take_at, drop_at, drop-drop, length-drop, length-take, length-append}
use Rattle.std.proofs.lemmas.Slice.Eq.{bytes_eq-Decides}
use Rattle.byteorder.specs.Endian.{big_bytes, big_number}
use Rattle.byteorder.specs.Numbers.{big_from-bytes}
use Rattle.icp_packet.specs.declared.message.Opcode.{Opcode}
use Rattle.icp_packet.specs.declared.message.Opcode.TheVariants.{Query, Hit, Miss, Error, Secho, Decho, MissNoFetch, Denied, HitObject}
use Rattle.icp_packet.specs.Message.{Message, Body, query, url_only, object, code, payload, spelling, HasNoZero, FitsOpcode, Spells}
use Rattle.icp_packet.specs.Reading.{opcode_of, before_zero, body_at, message_at, if_spelled, message_of}
use Rattle.icp_packet.proofs.Texts.{HasNoZero-rest}
use Rattle.icp_packet.proofs.Headers.{header_is, fields_are}

-- ---- completeness: an encoded message is read

found : (op : Opcode) → opcode_of (code op) ≡ Some op
found Query = refl
found Hit = refl
found Miss = refl
found Error = refl
found Secho = refl
found Decho = refl
found MissNoFetch = refl
found Denied = refl
found HitObject = refl

pub one_opcode : (a b : Opcode) → code a ≡ code b → a ≡ b
one_opcode a b e =
    let same : Some a ≡ Some b = sym (found a) ∙ ap opcode_of e ∙ found b in
    cc

before_zero-is : (url rest : List ℕ) → HasNoZero url → before_zero (url ++ 0 ∷ rest) ≡ url
before_zero-is [] rest h = refl
before_zero-is (zero ∷ xs) rest h = absurd (h 0 (omega arith) refl)
before_zero-is (suc x ∷ xs) rest h =
    ap (λ (r : List ℕ). suc x ∷ r) (before_zero-is xs rest (HasNoZero-rest (suc x) xs h))

-- the octets after a text, its zero octet and two more
behind_size : (url : List ℕ) (a b : ℕ) (rest : List ℕ) → drop (length url + 3) (url ++ (0 ∷ a ∷ b ∷ rest)) ≡ rest
behind_size url a b rest =
    sym (drop-drop 3 (length url) (url ++ (0 ∷ a ∷ b ∷ rest))) ∙ ap (drop 3) (drop_at url (0 ∷ a ∷ b ∷ rest) (length url) refl)

body_at-is : (op : Opcode) (body : Body) → FitsOpcode op body → body_at op (payload body) ≡ body
body_at-is Query (query requester url) fits =
    rw (take_at requester (url ++ 0 ∷ []) 4 fits.0, drop_at requester (url ++ 0 ∷ []) 4 fits.0, before_zero-is url [] fits.1) refl
body_at-is Query (url_only url) fits = absurd fits
body_at-is Query (object url octets) fits = absurd fits
body_at-is HitObject (object url octets) fits =
    let url-is = before_zero-is url (big_bytes 2 (length octets) ++ octets) fits in
    let object-is = behind_size url (slice_index (big_bytes 2 (length octets)) 0) (slice_index (big_bytes 2 (length octets)) 1) octets in
    rw (url-is, object-is) refl
body_at-is HitObject (query requester url) fits = absurd fits
body_at-is HitObject (url_only url) fits = absurd fits
body_at-is op (url_only url) fits = rw (before_zero-is url [] fits) refl
body_at-is op (query requester url) fits = absurd fits
body_at-is op (object url octets) fits = absurd fits

same_message : (m n : Message) → m.op ≡ n.op → m.number ≡ n.number → m.options ≡ n.options → m.option_data ≡ n.option_data → m.sender ≡ n.sender → m.body ≡ n.body → m ≡ n
same_message m n op number options option_data sender body =
    let made : Opcode → ℕ → ℕ → ℕ → List ℕ → Body → Message = λ o a b c d e. record { op = o; number = a; options = b; option_data = c; sender = d; body = e } in
    let same : made m.op m.number m.options m.option_data m.sender m.body ≡ made n.op n.number n.options n.option_data n.sender n.body = rw (op, number, options, option_data, sender, body) refl in
    same

message_at-is : (octets : List ℕ) (m : Message) → Spells octets m → message_at m.op octets ≡ m
message_at-is octets m s =
    let p = fields_are octets m s in
    let body : body_at m.op (drop 20 octets) ≡ m.body = ap (body_at m.op) p.payload_is ∙ body_at-is m.op m.body s.message.body in
    same_message (message_at m.op octets) m refl (sym p.number) (sym p.options) (sym p.option_data) (sym p.sender) body

if_spelled-is : (octets : List ℕ) (m : Message) → length octets ≤ 16384 → octets ≡ spelling m → if_spelled octets m ≡ Some m
if_spelled-is octets m within spelled =
    let short : nat_lt 16384 (length octets) ≡ false = le-ltb 16384 (length octets) within in
    let same : bytes_eq octets (spelling m) ≡ true = (bytes_eq-Decides octets (spelling m)).1 spelled in
    rw (short, same) refl

pub message_of-is : (octets : List ℕ) (m : Message) → Spells octets m → message_of octets ≡ Some m
unfolding message_of
message_of-is octets m s =
    ap (λ (o : ℕ). option_and_then (λ op. if_spelled octets (message_at op octets)) (opcode_of o)) (header_is octets m s).opcode
    ∙ ap (option_and_then (λ op. if_spelled octets (message_at op octets))) (found m.op)
    ∙ ap (if_spelled octets) (message_at-is octets m s)
    ∙ if_spelled-is octets m s.within s.spelled

pub one_message : (octets : List ℕ) (m n : Message) → Spells octets m → Spells octets n → m ≡ n
one_message octets m n s t =
    let same : Some m ≡ Some n = sym (message_of-is octets m s) ∙ message_of-is octets n t in
    cc

-- ---- soundness: a message that is read is encoded

HasNoZero-before : (xs : List ℕ) → HasNoZero (before_zero xs)
HasNoZero-before [] k lt e = omega arith
HasNoZero-before (zero ∷ xs) k lt e = omega arith
HasNoZero-before (suc x ∷ xs) zero lt e = omega arith
HasNoZero-before (suc x ∷ xs) (suc k) lt e = HasNoZero-before xs k (omega arith) e

length-before_zero : (xs : List ℕ) → length (before_zero xs) ≤ length xs
length-before_zero [] = omega arith
length-before_zero (zero ∷ xs) = omega arith
length-before_zero (suc x ∷ xs) = let h = length-before_zero xs in omega arith

-- a number that is read back from its four octets is under 2 ^ 32
in_range : (x : ℕ) (at rest : List ℕ) → x ≡ big_number 4 at → at ≡ big_bytes 4 x ++ rest → x < 2 ^ 32
in_range x at rest read spelled =
    let same : x ≡ x % 256 ^ 4 = read ∙ ap (big_number 4) spelled ∙ big_from-bytes 4 x rest in
    let small : x % 256 ^ 4 < 256 ^ 4 = mod-lt x (omega arith) in
    omega arith

has_payload : (body : Body) → 0 < length (payload body)
has_payload (query requester url) = omega (arith, length-append requester (url ++ 0 ∷ []), length-append url (0 ∷ []))
has_payload (url_only url) = omega (arith, length-append url (0 ∷ []))
has_payload (object url octets) = omega (arith, length-append url (0 ∷ big_bytes 2 (length octets) ++ octets))

fits_at : (op : Opcode) (octets : List ℕ) → octets ≡ payload (body_at op octets) → FitsOpcode op (body_at op octets)
fits_at Query octets e =
    let url = before_zero (drop 4 octets) in
    (omega (arith, ap length e, length-append (take 4 octets) (url ++ 0 ∷ []), length-append url (0 ∷ []), length-take 4 octets, length-drop 4 octets, length-before_zero (drop 4 octets)), HasNoZero-before (drop 4 octets))
fits_at HitObject octets e = HasNoZero-before octets
fits_at op octets e = HasNoZero-before octets

spells_at : (octets : List ℕ) (op : Opcode) → length octets ≤ 16384 → octets ≡ spelling (message_at op octets) → Spells octets (message_at op octets)
spells_at octets op within spelled =
    let m = message_at op octets in
    let whole : 20 ≤ length octets = omega (arith, ap length spelled, length-append m.sender (payload m.body), length-take 4 (drop 16 octets), length-drop 16 octets, has_payload m.body) in
    let sender : length m.sender ≡ 4 = omega (arith, length-take 4 (drop 16 octets), length-drop 16 octets) in
    let payload_is : drop 20 octets ≡ payload m.body = ap (drop 20) spelled ∙ drop_at m.sender (payload m.body) 4 sender in
    record {
      message = record {
        number = in_range m.number (drop 4 octets) (drop 8 (spelling m)) refl (ap (drop 4) spelled);
        options = in_range m.options (drop 8 octets) (drop 12 (spelling m)) refl (ap (drop 8) spelled);
        option_data = in_range m.option_data (drop 12 octets) (drop 16 (spelling m)) refl (ap (drop 12) spelled);
        sender = sender;
        body = fits_at op (drop 20 octets) payload_is;
      };
      spelled = spelled;
      within = within;
    }

if_spelled-parts : (octets : List ℕ) (m n : Message) → if_spelled octets m ≡ Some n → (length octets ≤ 16384) × (octets ≡ spelling m) × (m ≡ n)
if_spelled-parts octets m n e = go (nat_lt 16384 (length octets)) (bytes_eq octets (spelling m)) refl refl e
  where
    go : (long same : Bool) → nat_lt 16384 (length octets) ≡ long → bytes_eq octets (spelling m) ≡ same → cond long None (cond same (Some m) None) ≡ Some n → (length octets ≤ 16384) × (octets ≡ spelling m) × (m ≡ n)
    go true same p q e = absurd cc
    go false false p q e = absurd cc
    go false true p q e = (ltb-false 16384 (length octets) p, (bytes_eq-Decides octets (spelling m)).0 q, cc)

read_opcode : (octets : List ℕ) (o : Option Opcode) (m : Message) → option_and_then (λ op. if_spelled octets (message_at op octets)) o ≡ Some m → Spells octets m
read_opcode octets None m e = absurd cc
read_opcode octets (Some op) m e =
    let p = if_spelled-parts octets (message_at op octets) m e in
    subst (Spells octets) p.2 (spells_at octets op p.0 p.1)

pub is_spelled : (octets : List ℕ) (m : Message) → message_of octets ≡ Some m → Spells octets m
unfolding message_of
is_spelled octets m e = read_opcode octets (opcode_of (slice_index octets 0)) m e
