-- What a failed run has read and written, for readers and writers whose contents are known to contracts.
use Rattle.std.specs.Prelude.{◌≡◌, ℕ, ◌≤◌, ◌⊎◌, ◌==◌, false, List, [], ◌∷◌, ◌++◌, Option, None, take, length}
use Rattle.std.specs.Io.KnownBytes.{Appends, Consumes}
use Rattle.feed_script.specs.Script.{text, first_wrong}

-- octets without a line break
abbrev pub NoBreak : List ℕ → Type 0
NoBreak [] = Unit {0}
NoBreak (c ∷ cs) = ((c == 10) ≡ false) × NoBreak cs

-- no octets, or octets that end with a line break
abbrev pub EndsWithBreak : List ℕ → Type 0
EndsWithBreak xs = (xs ≡ []) ⊎ ((front : List ℕ) × (xs ≡ front ++ 10 ∷ []))

-- At most 1,000,000,001 octets were read, and a prefix of their text was written.
pub record WritesPrefix (input_old input_new output_old output_new : Option (List ℕ)) : Type 0 where
  pub read : List ℕ
  pub few : length read ≤ 1000000001
  pub consumed : Consumes input_old input_new read
  pub count : ℕ
  pub appended : Appends output_old output_new (take count (text read))

-- Complete lines were read, and the beginning of the next one: none of the complete lines is wrong, and their text was written.
pub record WritesWhole (input_old input_new output_old output_new : Option (List ℕ)) : Type 0 where
  pub whole : List ℕ
  pub begun : List ℕ
  pub consumed : Consumes input_old input_new (whole ++ begun)
  pub ended : EndsWithBreak whole
  pub partial : NoBreak begun
  pub right : first_wrong whole ≡ None
  pub appended : Appends output_old output_new (text whole)
