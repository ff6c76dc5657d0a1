use Rattle.std.proofs.Common.{◌≡◌, ◌+◌, ◌≤◌, length}
use Rattle.fair_use.specs.Room.{held_from, held_of}
use Rattle.fair_use.proofs.room.held_from.Given as goal

-- what was added and what is left are the whole, and no more than all hold
abbrev pub invariant-loop-left : goal.invariant-loop-left
invariant-loop-left l = (l.held + held_from l.server l.left ≡ held_from l.server l.holders) × (l.held + held_of l.left ≤ held_of l.holders)

abbrev pub decreases-loop-left : goal.decreases-loop-left
decreases-loop-left l = length l.left
