-- Listings: which text represents which program, and which faults a text has.
-- A text is a list of lines, indexed from 0. Faults number lines from 1.
use Rattle.std.specs.Prelude.{◌≡◌, ◌≢◌, ℕ, ◌+◌, ◌-◌, ◌*◌, ◌<◌, ◌≤◌, ◌^◌, ◌⊎◌, List, [], ◌∷◌, length, map, Option, Some, None, Bool, true, ◌||◌, not, slice_get, ◌==◌}
use Rattle.std.specs.List.{slice_split, filter, list_all}
use Rattle.std.specs.Char.{is_ascii_digit}
use Rattle.wire_octets.specs.Decimal.{value_after}
use Rattle.bpf_check.specs.declared.insn.Insn.{Insn}
use Rattle.bpf_check.specs.Insn.{InRange}
use Rattle.bpf_check.specs.Accepted.{most_insns}
use Rattle.bpf_check.specs.declared.listing.ListingFault.{ListingFault}
use Rattle.bpf_check.specs.declared.listing.ListingFault.TheVariants.{BadCount, BadLine, OutOfRange, TooLong, Missing, Extra, NoMemory}

-- a space or a tab
abbrev pub is_blank : ℕ → Bool
is_blank c = (c == 32) || (c == 9)

-- the part is not empty
abbrev pub is_some_word : List ℕ → Bool
is_some_word part = not (length part == 0)

-- the words of a line, separated by spaces and tabs
abbrev pub words : List ℕ → List (List ℕ)
words line = filter is_some_word (slice_split is_blank line)

-- the value of a word of decimal digits
abbrev pub value : List ℕ → ℕ
value word = value_after 0 word

-- every octet is a decimal digit
abbrev pub are_digits : List ℕ → Bool
are_digits word = list_all is_ascii_digit word

-- the line consists of exactly these numbers
pub record Says (line : List ℕ) (ns : List ℕ) : Type 0 where
  pub numerals : list_all are_digits (words line) ≡ true
  pub values : map value (words line) ≡ ns

-- the line at index `at` consists of exactly these numbers
abbrev pub SaysAt : List (List ℕ) → ℕ → List ℕ → Type 0
SaysAt ls at ns = (l : List ℕ) × (slice_get ls at ≡ Some l) × Says l ns

-- the fields of an instruction, in the order of a listing line
abbrev pub fields : Insn → List ℕ
fields i = i.code ∷ i.jt ∷ i.jf ∷ i.k ∷ []

-- the lines are a listing of the program
pub record IsListing (ls : List (List ℕ)) (p : List Insn) : Type 0 where
  pub count : SaysAt ls 0 (length p ∷ [])
  pub short : length p ≤ most_insns
  pub each : (place : ℕ) (i : Insn) → slice_get p place ≡ Some i → SaysAt ls (place + 1) (fields i) × InRange i
  pub rest : (at : ℕ) (l : List ℕ) → length p < at → slice_get ls at ≡ Some l → words l ≡ []

-- one of the numbers is out of range for its field
abbrev pub IsTooLarge : ℕ → ℕ → ℕ → ℕ → Type 0
IsTooLarge code jt jf k = (2 ^ 16 ≤ code) ⊎ (2 ^ 8 ≤ jt) ⊎ (2 ^ 8 ≤ jf) ⊎ (2 ^ 32 ≤ k)

-- the line is not exactly four numbers
abbrev pub NotFour : List ℕ → Type 0
NotFour line = (code jt jf k : ℕ) → Says line (code ∷ jt ∷ jf ∷ k ∷ []) → ⊥

-- the line is four numbers, one of them out of range for its field
abbrev pub FourTooLarge : List ℕ → Type 0
FourTooLarge line = (code : ℕ) × (jt : ℕ) × (jf : ℕ) × (k : ℕ) × Says line (code ∷ jt ∷ jf ∷ k ∷ []) × IsTooLarge code jt jf k

-- line number `line` (from 1) belongs to one of the counted instructions, and P holds of its text
pub record FaultIn (ls : List (List ℕ)) (line : ℕ) (P : List ℕ → Type 0) : Type 0 where
  pub count : ℕ
  pub counted : SaysAt ls 0 (count ∷ [])
  pub after : 2 ≤ line
  pub below : line < count + 2
  pub text : List ℕ
  pub found : slice_get ls (line - 1) ≡ Some text
  pub fault : P text

-- the text has this fault, whatever other faults it has
abbrev pub HasFault : List (List ℕ) → ListingFault → Type 0
HasFault ls BadCount = (n : ℕ) → SaysAt ls 0 (n ∷ []) → ⊥
HasFault ls TooLong = (n : ℕ) × SaysAt ls 0 (n ∷ []) × (most_insns < n)
HasFault ls Missing = (n : ℕ) × SaysAt ls 0 (n ∷ []) × (length ls ≤ n)
HasFault ls (BadLine line) = FaultIn ls line NotFour
HasFault ls (OutOfRange line) = FaultIn ls line FourTooLarge
HasFault ls (Extra line) = (n : ℕ) × SaysAt ls 0 (n ∷ []) × (n + 2 ≤ line) × (l : List ℕ) × (slice_get ls (line - 1) ≡ Some l) × (words l ≢ [])
HasFault ls NoMemory = ⊥

-- the order of faults: by line number, where a missing line counts at the first line number that is absent
abbrev pub rank : List (List ℕ) → ListingFault → ℕ
rank ls BadCount = 0
rank ls TooLong = 1
rank ls (BadLine line) = line
rank ls (OutOfRange line) = line
rank ls Missing = length ls + 1
rank ls (Extra line) = line
rank ls NoMemory = 0

-- every fault of the text has this rank or a higher one
abbrev pub NoneBefore : List (List ℕ) → ℕ → Type 0
NoneBefore ls r = (other : ListingFault) → HasFault ls other → r ≤ rank ls other

-- the text has this fault and no earlier one
pub record IsFirstFault (ls : List (List ℕ)) (fault : ListingFault) : Type 0 where
  pub has : HasFault ls fault
  pub first : NoneBefore ls (rank ls fault)

-- the errors that a reader may return: the first fault, or `NoMemory` if the text has no fault
abbrev pub IsListingFault : List (List ℕ) → ListingFault → Type 0
IsListingFault ls NoMemory = (other : ListingFault) → HasFault ls other → ⊥
IsListingFault ls fault = IsFirstFault ls fault

-- the number of a fault in printed messages
abbrev pub fault_number : ListingFault → ℕ
fault_number BadCount = 1
fault_number (BadLine line) = 2
fault_number (OutOfRange line) = 3
fault_number TooLong = 4
fault_number Missing = 5
fault_number (Extra line) = 6
fault_number NoMemory = 7

-- the line number of a fault, if it has one
abbrev pub fault_line : ListingFault → Option ℕ
fault_line (BadLine line) = Some line
fault_line (OutOfRange line) = Some line
fault_line (Extra line) = Some line
fault_line fault = None
