use Rattle.std.proofs.Common.{◌≡◌, length}
use Rattle.neighbours.specs.Faults.{has_double_name}
use Rattle.neighbours.proofs.checking.shares_name.Given as goal

-- the rest has a duplicate exactly if the whole list has one
abbrev pub invariant-loop-left : goal.invariant-loop-left
invariant-loop-left l = has_double_name l.left ≡ has_double_name l.keys

abbrev pub decreases-loop-left : goal.decreases-loop-left
decreases-loop-left l = length l.left
