-- The results of polling a body: its octets in order, in frames.
use Rattle.std.specs.Prelude.{◌≡◌, ◌≤◌, ◌<◌, ◌++◌, ◌⊎◌, ℕ, List, [], ◌∷◌, length, Some, None, Result, Ok, Err}
use Rattle.std.specs.declared.alloc.AllocError.{AllocError}
use Rattle.http_body.specs.declared.frame.Frame.{Frame}
use Rattle.http_body.specs.Frame.{data_frame}
use Rattle.futures.specs.Runs.{Runs}

-- a frame, or an allocation failure
abbrev pub Answer : Type 0
Answer = Result (Frame (List ℕ)) AllocError

-- what remains of a body: its octets, and the most of them that a frame may hold
pub record Rest : Type 0 where
  pub most : ℕ
  pub octets : List ℕ

-- a frame holds the first of the octets, one at least and no more than it may, and the others remain
pub record IsPiece (left : Rest) (answer : Answer) (rest : Rest) : Type 0 where
  pub piece : List ℕ
  pub given : answer ≡ Ok (data_frame piece)
  pub first : left.octets ≡ piece ++ rest.octets
  pub some : 0 < length piece
  pub most : length piece ≤ left.most
  pub same : rest.most ≡ left.most

-- after an allocation failure all octets remain
pub record IsWant (left : Rest) (answer : Answer) (rest : Rest) : Type 0 where
  pub error : AllocError
  pub given : answer ≡ Err error
  pub same : rest ≡ left

abbrev pub Gives : Rest → Answer → Rest → Type 0
Gives left answer rest = IsPiece left answer rest ⊎ IsWant left answer rest

-- a body of which this was left returned these results in turn; it ends only when no octet remains
abbrev pub in_pieces : Rest → Runs Answer
in_pieces left [] None = left.octets ≡ []
in_pieces left [] (Some answer) = (rest : Rest) × Gives left answer rest
in_pieces left (answer ∷ answers) last = (rest : Rest) × Gives left answer rest × in_pieces rest answers last
