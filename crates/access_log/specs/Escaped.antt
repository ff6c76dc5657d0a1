-- Texts that a client wrote, in a line of the log: an octet that could end the line or a field, or that a terminal would act on,
-- is replaced by four or six that can't.
use Rattle.std.specs.Prelude.{ℕ, ◌+◌, ◌/◌, ◌%◌, ◌==◌, ◌&&◌, nat_le, nat_lt, not, Bool, if◌then◌else◌, List, [], ◌∷◌, ◌++◌, length, take, codes}
use Rattle.std.specs.List.{flat_map}
use Rattle.access_log.specs.declared.entry.Form.{Form}
use Rattle.access_log.specs.declared.entry.Form.TheVariants.{Common, Json}

-- printable ASCII
abbrev pub is_printable : ℕ → Bool
is_printable octet = nat_le 32 octet && nat_le octet 126

-- stands for itself: printable, and neither a quote nor a backslash
abbrev pub is_plain : ℕ → Bool
is_plain octet = is_printable octet && not (octet == 34) && not (octet == 92)

-- the last hexadecimal digit of a number: 0 to 9, A to F
abbrev pub hex_digit : ℕ → ℕ
hex_digit n = if nat_lt (n % 16) 10 then 48 + n % 16 else 55 + n % 16

-- what stands before the two digits: `\x`, and in JSON `\u00`
abbrev pub mark : Form → List ℕ
mark Common = 92 ∷ 120 ∷ []
mark Json = 92 ∷ 117 ∷ 48 ∷ 48 ∷ []

abbrev pub escaped_octet : Form → ℕ → List ℕ
escaped_octet form octet =
    if is_plain octet then octet ∷ [] else mark form ++ hex_digit (octet / 16) ∷ hex_digit octet ∷ []

-- the first 8192 octets of a text: those that are plain as they are, the others escaped
unfoldable pub escaped : Form → List ℕ → List ℕ
escaped form text = flat_map (escaped_octet form) (take 8192 text)

-- the same, and `-` for no text
unfoldable pub escaped_or_dash : List ℕ → List ℕ
escaped_or_dash text = if length text == 0 then codes "-" else escaped Common text
