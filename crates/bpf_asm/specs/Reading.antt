-- Intermediate definitions for reading tokens, step by step as the code does it. No public contract depends on them.
use Rattle.std.specs.Prelude.{ℕ, ◌+◌, List, [], ◌∷◌, Bool, true, false, not, Option, Some, None, option_and_then, if◌then◌else◌}
use Rattle.std.specs.Char.{is_ascii_digit, is_ascii_hexdigit}
use Rattle.std.specs.List.{list_all}
use Rattle.std.specs.Net.Reader.{read_ipv4, whole_value}
use Rattle.std.specs.Option.{is_some, option_map}
use Rattle.std.specs.Str.{bytes_eq}
use Rattle.bpf_check.specs.declared.operation.Operation.{Operation}
use Rattle.bpf_asm.specs.Form.{mnemonic}
use Rattle.bpf_asm.specs.declared.number.Notation.{Notation}
use Rattle.bpf_asm.specs.declared.number.Notation.TheVariants.{Decimal, Hexadecimal, Address}
use Rattle.bpf_asm.specs.Token.{goes_on, starts_word, is_label}
use Rattle.bpf_asm.specs.Number.{notation, after_two}
use Rattle.bpf_asm.specs.Spelling.{Kind, a_number, a_label, exactly, kinds}

-- an octet that doesn't go on with this word
abbrev pub ends_word : List ℕ → ℕ → Bool
ends_word word c = not (goes_on word c)

-- whether the word is an IPv4 address and nothing else
abbrev pub is_address : List ℕ → Bool
is_address word = is_some (whole_value (read_ipv4 word))

-- whether the word is a numeral of this notation
abbrev pub is_written : Notation → List ℕ → Bool
is_written Decimal word = list_all is_ascii_digit word
is_written Hexadecimal word = list_all is_ascii_hexdigit (after_two word)
is_written Address word = is_address word

-- whether the word is a numeral
unfoldable pub is_numeral : List ℕ → Bool
is_numeral word = is_written (notation word) word

-- the word for a placeholder, and the tokens after it
pub record Front : Type 0 where
  pub word : List ℕ
  pub left : List (List ℕ)

-- the number at the front of the tokens, the empty word if it is missing, or None if another word is there
abbrev pub number_front : List (List ℕ) → Option Front
number_front [] = Some (record { word = []; left = [] })
number_front ([] ∷ ts) = None
number_front ((c ∷ cs) ∷ ts) =
    if is_numeral (c ∷ cs) then Some (record { word = c ∷ cs; left = ts })
    else (if starts_word (c ∷ cs) then None else Some (record { word = []; left = (c ∷ cs) ∷ ts }))

-- the label at the front of the tokens
abbrev pub label_front : List (List ℕ) → Option Front
label_front [] = None
label_front (t ∷ ts) = if is_label t then Some (record { word = t; left = ts }) else None

-- the tokens after this token, or None if the first token is another one
abbrev pub left_of : List ℕ → List (List ℕ) → Option (List (List ℕ))
left_of token [] = None
left_of token (t ∷ ts) = if bytes_eq t token then Some ts else None

-- no token is left
abbrev pub none_left : List (List ℕ) → Option (List (List ℕ))
none_left [] = Some []
none_left (t ∷ ts) = None

-- the words for the placeholders, or None if the tokens don't match
abbrev pub fill : List Kind → List (List ℕ) → Option (List (List ℕ))
fill [] ts = none_left ts
fill (a_number ∷ ks) ts = option_and_then (λ x. option_map (λ ws. x.word ∷ ws) (fill ks x.left)) (number_front ts)
fill (a_label ∷ ks) ts = option_and_then (λ x. option_map (λ ws. x.word ∷ ws) (fill ks x.left)) (label_front ts)
fill (exactly token ∷ ks) ts = option_and_then (λ left. fill ks left) (left_of token ts)

-- the number of placeholders
abbrev pub open_places : List Kind → ℕ
open_places [] = 0
open_places (a_number ∷ ks) = 1 + open_places ks
open_places (a_label ∷ ks) = 1 + open_places ks
open_places (exactly token ∷ ks) = open_places ks

-- a row of the table of codes, with the words for its placeholders
pub record Row : Type 0 where
  pub code : ℕ
  pub operation : Operation
  pub words : List (List ℕ)

-- the words for the placeholders of an operation, or None if the line doesn't match it
abbrev pub row_words : Operation → List ℕ → List (List ℕ) → Option (List (List ℕ))
row_words operation word ts = if bytes_eq word (mnemonic operation) then fill (kinds operation) ts else None

-- this row if its words were read, otherwise the later one
abbrev pub row_or : ℕ → Operation → Option (List (List ℕ)) → Option Row → Option Row
row_or code operation None later = later
row_or code operation (Some ws) later = Some (record { code = code; operation = operation; words = ws })

-- the first row that the tokens match
abbrev pub find_row : List (ℕ × Operation) → List ℕ → List (List ℕ) → Option Row
find_row [] word ts = None
find_row (row ∷ rows) word ts = row_or row.0 row.1 (row_words row.1 word ts) (find_row rows word ts)

-- whether a row has the mnemonic
abbrev pub has_mnemonic : List (ℕ × Operation) → List ℕ → Bool
has_mnemonic [] word = false
has_mnemonic (row ∷ rows) word = if bytes_eq word (mnemonic row.1) then true else has_mnemonic rows word
