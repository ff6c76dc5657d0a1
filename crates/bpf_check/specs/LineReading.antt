-- Intermediate definitions for reading lines, step by step as the code does it. No public contract depends on them.
use Rattle.std.specs.Prelude.{◌≡◌, ◌≢◌, ℕ, ◌-◌, ◌<◌, ◌^◌, List, [], ◌∷◌, min, Some, Bool, true, false, not, slice_get, ◌==◌}
use Rattle.bpf_check.specs.declared.listing.ListingFault.{ListingFault}
use Rattle.bpf_check.specs.declared.listing.ListingFault.TheVariants.{BadCount, BadLine, OutOfRange, TooLong}
use Rattle.bpf_check.specs.Accepted.{most_insns}
use Rattle.bpf_check.specs.Listing.{is_blank, are_digits, value, words, Says, NotFour, FourTooLarge}

-- a line feed
abbrev pub is_line_feed : ℕ → Bool
is_line_feed c = c == 10

-- not a blank
abbrev pub is_text : ℕ → Bool
is_text c = not (is_blank c)

-- the value of a word, saturated at 2^64 - 1
abbrev pub capped : List ℕ → ℕ
capped word = min (value word) (2 ^ 64 - 1)

-- there is no first word, or it is not a number
abbrev pub NoNumber : List (List ℕ) → Type 0
NoNumber [] = Unit {0}
NoNumber (word ∷ more) = are_digits word ≡ false

-- the first word is a number of value n (saturated), and `more` are the words after it
pub record Begins (ws : List (List ℕ)) (n : ℕ) (more : List (List ℕ)) : Type 0 where
  pub word : List ℕ
  pub first : ws ≡ word ∷ more
  pub numeral : are_digits word ≡ true
  pub number : n ≡ capped word

-- the line is exactly one number, of value n (saturated)
pub record IsOne (line : List ℕ) (n : ℕ) : Type 0 where
  pub value : ℕ
  pub says : Says line (value ∷ [])
  pub number : n ≡ min value (2 ^ 64 - 1)

-- the line is not exactly one number
abbrev pub NotOne : List ℕ → Type 0
NotOne line = (n : ℕ) → Says line (n ∷ []) → ⊥

-- the line is exactly four numbers, of values a, b, c and d (each saturated)
pub record AreFour (line : List ℕ) (a b c d : ℕ) : Type 0 where
  pub code : ℕ
  pub jt : ℕ
  pub jf : ℕ
  pub k : ℕ
  pub says : Says line (code ∷ jt ∷ jf ∷ k ∷ [])
  pub first : a ≡ min code (2 ^ 64 - 1)
  pub second : b ≡ min jt (2 ^ 64 - 1)
  pub third : c ≡ min jf (2 ^ 64 - 1)
  pub fourth : d ≡ min k (2 ^ 64 - 1)

-- the fault of one instruction's line, where `at` is the line number
abbrev pub LineFault : List ℕ → ℕ → ListingFault → Type 0
LineFault line at (BadLine n) = (n ≡ at) × NotFour line
LineFault line at (OutOfRange n) = (n ≡ at) × FourTooLarge line
LineFault line at _ = ⊥

-- the fault of the first line
abbrev pub CountFault : List ℕ → ListingFault → Type 0
CountFault line BadCount = NotOne line
CountFault line TooLong = (n : ℕ) × Says line (n ∷ []) × (most_insns < n)
CountFault line _ = ⊥

-- the line at index `at` has a word, and no line before it has one
pub record IsFirstText (ls : List (List ℕ)) (at : ℕ) : Type 0 where
  pub line : List ℕ
  pub found : slice_get ls at ≡ Some line
  pub some : words line ≢ []
  pub before : (n : ℕ) (l : List ℕ) → n < at → slice_get ls n ≡ Some l → words l ≡ []

-- no line has a word
abbrev pub NoText : List (List ℕ) → Type 0
NoText ls = (n : ℕ) (l : List ℕ) → slice_get ls n ≡ Some l → words l ≡ []
