use Rattle.std.proofs.Common.{◌≡◌, length}
use Rattle.neighbours.specs.Faults.{has_double}
use Rattle.neighbours.proofs.checking.shares_end.Given as goal

-- the rest has a duplicate exactly if the whole list has one
abbrev pub invariant-loop-left : goal.invariant-loop-left
invariant-loop-left l = has_double l.left ≡ has_double l.neighbours

abbrev pub decreases-loop-left : goal.decreases-loop-left
decreases-loop-left l = length l.left
