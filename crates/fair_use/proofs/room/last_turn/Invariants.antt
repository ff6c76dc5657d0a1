use Rattle.std.proofs.Common.{◌≡◌, max, length}
use Rattle.fair_use.specs.Room.{last_turn}
use Rattle.fair_use.proofs.room.last_turn.Given as goal

-- the last turn is the one so far, or one of those that are left
abbrev pub invariant-loop-left : goal.invariant-loop-left
invariant-loop-left l = max l.last (last_turn l.left) ≡ last_turn l.holders

abbrev pub decreases-loop-left : goal.decreases-loop-left
decreases-loop-left l = length l.left
