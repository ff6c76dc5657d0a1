-- What a reader of a line takes a text for that stands in quotes there. In JSON it is the grammar of a string (RFC 8259, section 7),
-- as far as it is used: an octet that stands for itself, or `\u00` and two hexadecimal digits. A reader in the common form takes
-- `\x` and two digits.
use Rattle.std.specs.Prelude.{◌≡◌, ℕ, ◌+◌, ◌*◌, ◌<◌, ◌≤◌, ◌⊎◌, List, [], ◌∷◌, get_or, codes}
use Rattle.access_log.specs.declared.entry.Form.{Form}
use Rattle.access_log.specs.declared.entry.Form.TheVariants.{Common, Json}

-- RFC 8259's `unescaped` within ASCII: %x20-21, %x23-5B and %x5D-7E. So no quote (%x22), no backslash (%x5C), nothing that a
-- terminal acts on.
abbrev pub StandsForItself : ℕ → Type 0
StandsForItself octet = ((32 ≤ octet) × (octet ≤ 33)) ⊎ ((35 ≤ octet) × (octet ≤ 91)) ⊎ ((93 ≤ octet) × (octet ≤ 126))

-- a hexadecimal digit and its value, which is the digit's place among all of them
abbrev pub IsDigit : ℕ → ℕ → Type 0
IsDigit digit value = (value < 16) × (digit ≡ get_or (codes "0123456789ABCDEF") value 0)

-- What is written so reads as this text. The first octet of what is written decides the case, so it reads in one way at most.
-- 92 is the backslash; 120 is `x`, 117 `u` and 48 `0`.
pub data Reads : Form → List ℕ → List ℕ → Type 0 where
  end : {form : Form} → Reads form [] []
  itself : {form : Form} {octet : ℕ} {written text : List ℕ} → StandsForItself octet → Reads form written text → Reads form (octet ∷ written) (octet ∷ text)
  common_digits : {high low a b : ℕ} {written text : List ℕ} → IsDigit high a → IsDigit low b → Reads Common written text → Reads Common (92 ∷ 120 ∷ high ∷ low ∷ written) ((16 * a + b) ∷ text)
  json_digits : {high low a b : ℕ} {written text : List ℕ} → IsDigit high a → IsDigit low b → Reads Json written text → Reads Json (92 ∷ 117 ∷ 48 ∷ 48 ∷ high ∷ low ∷ written) ((16 * a + b) ∷ text)
