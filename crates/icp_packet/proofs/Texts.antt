-- Texts terminated by their first zero octet, and what follows.
use Rattle.std.proofs.Common.{◌≡◌, ℕ, suc, ◌+◌, ◌<◌, ◌^◌, List, [], ◌∷◌, ◌++◌, length, refl, sym, ap, ◌∙◌, subst, inl, inr, arith}
use Rattle.std.specs.Prelude.{slice_index}
use Rattle.std.proofs.lemmas.List.{get_or_at, get_or_append_left, drop_at, length-append}
use Rattle.byteorder.specs.Endian.{big_bytes, big_number}
use Rattle.byteorder.specs.Numbers.{big_number-reads_back}
use Rattle.icp_packet.specs.declared.message.Opcode.{Opcode}
use Rattle.icp_packet.specs.declared.message.Opcode.TheVariants.{Query, HitObject}
use Rattle.icp_packet.specs.Message.{Body, query, url_only, object, HasNoZero, FitsOpcode, payload}
use Rattle.icp_packet.specs.Fault.{IsNotEnded, IsNotSized, HasUrlFault, HasObjectFault}

-- the octets after the first zero octet
pub ended_early : (text url rest : List ℕ) → text ≡ url ++ 0 ∷ rest → 0 < length rest → IsNotEnded text
ended_early text url rest parts more =
    inr (length url, omega (arith, ap length parts, length-append url (0 ∷ rest)), rw parts (get_or_at url 0 rest 0 (length url) refl))

pub HasNoZero-rest : (x : ℕ) (xs : List ℕ) → HasNoZero (x ∷ xs) → HasNoZero xs
HasNoZero-rest x xs h k lt = h (suc k) (omega arith)

-- the first zero octet is unique
pub one_split : (a b : List ℕ) (x y : List ℕ) → HasNoZero a → HasNoZero b → a ++ 0 ∷ x ≡ b ++ 0 ∷ y → (a ≡ b) × (x ≡ y)
one_split [] [] x y ha hb e = (refl, cc)
one_split [] (b ∷ bs) x y ha hb e = absurd (hb 0 (omega arith) cc)
one_split (a ∷ as') [] x y ha hb e = absurd (ha 0 (omega arith) cc)
one_split (a ∷ as') (b ∷ bs) x y ha hb e =
    let head : a ≡ b = cc in
    let tail : as' ++ 0 ∷ x ≡ bs ++ 0 ∷ y = cc in
    let rest = one_split as' bs x y (HasNoZero-rest a as' ha) (HasNoZero-rest b bs hb) tail in
    (let e1 = rest.0 in cc, rest.1)

has_zero : (url rest : List ℕ) → HasNoZero (url ++ 0 ∷ rest) → ⊥
has_zero url rest h = h (length url) (omega (arith, length-append url (0 ∷ rest))) (get_or_at url 0 rest 0 (length url) refl)

is_ended : (url : List ℕ) → HasNoZero url → IsNotEnded (url ++ 0 ∷ []) → ⊥
is_ended url h (inl none) = has_zero url [] none
is_ended url h (inr early) = h early.0 (omega (arith, early.1, length-append url (0 ∷ []))) (early_in url early.0 (omega (arith, early.1, length-append url (0 ∷ []))) early.2)
  where
    early_in : (url : List ℕ) (k : ℕ) → k < length url → slice_index (url ++ 0 ∷ []) k ≡ 0 → slice_index url k ≡ 0
    early_in url k lt e = sym (get_or_append_left url (0 ∷ []) 0 k lt) ∙ e

is_sized : (url octets : List ℕ) → HasNoZero url → length octets < 2 ^ 16 → IsNotSized (url ++ (0 ∷ big_bytes 2 (length octets) ++ octets)) → ⊥
is_sized url octets h small bad =
    let same = one_split url bad.url (big_bytes 2 (length octets) ++ octets) bad.rest h bad.url_ends bad.parts in
    let len : length bad.rest ≡ length octets + 2 = omega (arith, ap length same.1) in
    let size : big_number 2 bad.rest ≡ length octets = ap (big_number 2) (sym same.1) ∙ big_number-reads_back 2 (length octets) octets small in
    elim bad.wrong [ inl short ↦ omega arith | inr other ↦ other (omega arith) ]

-- an object fault is reported only if the URL has none
pub url_before_object : (op : Opcode) (octets : List ℕ) → HasObjectFault op octets → HasUrlFault op octets → ⊥
url_before_object HitObject octets bad none = has_zero bad.url bad.rest (subst HasNoZero bad.parts none)
url_before_object op octets bad none = bad

-- an encoded payload has no fault
pub no_url_fault : (op : Opcode) (body : Body) → FitsOpcode op body → HasUrlFault op (payload body) → ⊥
no_url_fault Query (query requester url) fits (inl short) = omega (arith, fits.0, length-append requester (url ++ 0 ∷ []))
no_url_fault Query (query requester url) fits (inr bad) = is_ended url fits.1 (subst IsNotEnded (drop_at requester (url ++ 0 ∷ []) 4 fits.0) bad)
no_url_fault Query (url_only url) fits bad = fits
no_url_fault Query (object url octets) fits bad = fits
no_url_fault HitObject (object url octets) fits bad = has_zero url (big_bytes 2 (length octets) ++ octets) bad
no_url_fault HitObject (query requester url) fits bad = fits
no_url_fault HitObject (url_only url) fits bad = fits
no_url_fault op (url_only url) fits bad = is_ended url fits bad
no_url_fault op (query requester url) fits bad = fits
no_url_fault op (object url octets) fits bad = fits

pub no_object_fault : (op : Opcode) (body : Body) → FitsOpcode op body → length (payload body) < 2 ^ 16 → HasObjectFault op (payload body) → ⊥
no_object_fault HitObject (object url octets) fits small bad =
    is_sized url octets fits (omega (arith, length-append url (0 ∷ big_bytes 2 (length octets) ++ octets))) bad
no_object_fault HitObject (query requester url) fits small bad = fits
no_object_fault HitObject (url_only url) fits small bad = fits
no_object_fault op body fits small bad = bad
