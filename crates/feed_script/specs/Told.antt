-- What the steps of the engine have written, for writers whose contents are known to contracts.
-- Only contracts of private functions use these definitions.
use Rattle.std.specs.Prelude.{◌≡◌, ℕ, List, [], ◌++◌, Option}
use Rattle.std.specs.Io.KnownBytes.{Appends}
use Rattle.feed_script.specs.declared.engine.Engine.{Engine}
use Rattle.feed_script.specs.declared.engine.Stop.TheVariants.{Line}
use Rattle.feed_script.specs.Ahead.{text_left, Takes, StopsBy, Ends, EndsBy}

-- A prefix of the output of a chunk was written.
pub record WritesFront (old : Engine) (piece : List ℕ) (output_old output_new : Option (List ℕ)) : Type 0 where
  pub shown : List ℕ
  pub more : List ℕ
  pub parts : text_left old piece ≡ shown ++ more
  pub appended : Appends output_old output_new shown

-- A chunk was taken, and its output was written.
pub record TakesOut (old : Engine) (piece : List ℕ) (new : Engine) (output_old output_new : Option (List ℕ)) : Type 0 where
  pub printed : List ℕ
  pub takes : Takes old piece [] new printed
  pub appended : Appends output_old output_new printed

-- Line n of the script is wrong, and the output of all lines before it was written.
pub record StopsOut (old : Engine) (piece : List ℕ) (n : ℕ) (output_old output_new : Option (List ℕ)) : Type 0 where
  pub printed : List ℕ
  pub stops : StopsBy old piece [] printed (Line n)
  pub appended : Appends output_old output_new printed

-- The script ended without a wrong line, and the rest of its output was written.
pub record EndsOut (old : Engine) (output_old output_new : Option (List ℕ)) : Type 0 where
  pub printed : List ℕ
  pub ends : Ends old [] printed
  pub appended : Appends output_old output_new printed

-- The script ended, and its last line, line n, is wrong; the output before it was written.
pub record EndsWrong (old : Engine) (n : ℕ) (output_old output_new : Option (List ℕ)) : Type 0 where
  pub printed : List ℕ
  pub ends : EndsBy old [] printed (Line n)
  pub appended : Appends output_old output_new printed
