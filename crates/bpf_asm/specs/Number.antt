-- Numbers: how a word writes one, and its value.
use Rattle.std.specs.Prelude.{◌≡◌, ℕ, ◌+◌, ◌-◌, ◌*◌, ◌<◌, ◌^◌, List, [], ◌∷◌, ◌++◌, length, min, take, drop, true, codes, decimal, nat_lt, ◌==◌, if◌then◌else◌}
use Rattle.std.specs.Char.{is_ascii_digit, is_ascii_hexdigit}
use Rattle.std.specs.List.{list_all, list_any}
use Rattle.std.specs.Str.{bytes_eq}
use Rattle.bpf_asm.specs.declared.number.Notation.{Notation}
use Rattle.bpf_asm.specs.declared.number.Notation.TheVariants.{Decimal, Hexadecimal, Address}

-- the value of a digit; `a` and `A` are ten
abbrev pub digit_value : ℕ → ℕ
digit_value c = if is_ascii_digit c then c - 48 else (if nat_lt c 97 then c - 55 else c - 87)

-- the value of the digits, when n is the value of the digits before them
abbrev pub value_in_base : ℕ → ℕ → List ℕ → ℕ
value_in_base base n [] = n
value_in_base base n (c ∷ cs) = value_in_base base (n * base + digit_value c) cs

-- there is a digit, and the digits have this value
abbrev pub Spells : ℕ → List ℕ → ℕ → Type 0
Spells base digits n = (0 < length digits) × (value_in_base base 0 digits ≡ n)

-- the word is an IPv4 address in dotted form, four decimal numbers below 256 without leading zeros, and n is its value
pub record IsAddress (word : List ℕ) (n : ℕ) : Type 0 where
  pub a : ℕ
  pub b : ℕ
  pub c : ℕ
  pub d : ℕ
  pub fit : (a < 256) × (b < 256) × (c < 256) × (d < 256)
  pub written : word ≡ decimal a ++ codes "." ++ decimal b ++ codes "." ++ decimal c ++ codes "." ++ decimal d
  pub value : n ≡ a * 2 ^ 24 + b * 2 ^ 16 + c * 2 ^ 8 + d

-- the first two octets of a word, or fewer if it is shorter
abbrev pub first_two : List ℕ → List ℕ
first_two word = take (min 2 (length word)) word

-- the octets after these
abbrev pub after_two : List ℕ → List ℕ
after_two word = drop (min 2 (length word)) word

-- a number is written as an IPv4 address (if it has a dot), in hexadecimal (after `0x`), or in decimal
abbrev pub notation : List ℕ → Notation
notation word =
    if list_any (λ c. c == 46) word then Address
    else (if bytes_eq (first_two word) (codes "0x") then Hexadecimal else Decimal)

-- the word is a numeral of this notation; decimal and hexadecimal ones may lack digits
abbrev pub IsWritten : Notation → List ℕ → Type 0
IsWritten Decimal word = list_all is_ascii_digit word ≡ true
IsWritten Hexadecimal word = list_all is_ascii_hexdigit (after_two word) ≡ true
IsWritten Address word = (n : ℕ) × IsAddress word n

-- the word has this value in this notation
abbrev pub HasValue : Notation → List ℕ → ℕ → Type 0
HasValue Decimal word n = Spells 10 word n
HasValue Hexadecimal word n = Spells 16 (after_two word) n
HasValue Address word n = IsAddress word n

-- the word is a numeral
unfoldable pub IsNumeral : List ℕ → Type 0
IsNumeral word = IsWritten (notation word) word

-- the numeral has a digit, and its value is n and fits 32 bits
unfoldable pub IsNumber : List ℕ → ℕ → Type 0
IsNumber word n = HasValue (notation word) word n × (n < 2 ^ 32)
