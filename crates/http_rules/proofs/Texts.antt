-- Texts in UTF-8, as a test.
use Rattle.std.proofs.Common.{◌≡◌, ℕ, List, true, false, inl, inr}
use Rattle.std.specs.Str.{IsUtf8, is_utf8}
use Rattle.std.proofs.lemmas.Bool.{cases_Bool}
use Rattle.std.proofs.lemmas.Str.{IsUtf8-from_is_utf8, is_utf8-from_IsUtf8}

pub is_utf8_text : (octets : List ℕ) → IsUtf8 octets → is_utf8 octets ≡ true
is_utf8_text octets h = is_utf8-from_IsUtf8 octets h

pub is_no_text : (octets : List ℕ) → (IsUtf8 octets → ⊥) → is_utf8 octets ≡ false
is_no_text octets h = elim (cases_Bool (is_utf8 octets)) [ inl t ↦ absurd (h (IsUtf8-from_is_utf8 octets t)) | inr f ↦ f ]
