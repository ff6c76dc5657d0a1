use Rattle.std.proofs.Common.{◌≡◌, ◌+◌, ◌≤◌, min, length}
use Rattle.fair_use.specs.Room.{wanted_of}
use Rattle.fair_use.proofs.room.wanted_of.Given as goal

-- what was added and what is left are the whole
abbrev pub invariant-loop-left : goal.invariant-loop-left
invariant-loop-left l = (min (l.wanted + wanted_of l.left) 18446744073709551615 ≡ wanted_of l.holders) × (l.wanted ≤ 18446744073709551615)

abbrev pub decreases-loop-left : goal.decreases-loop-left
decreases-loop-left l = length l.left
