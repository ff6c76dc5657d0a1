use Rattle.std.proofs.Common.{◌≡◌, ◌+◌, length}
use Rattle.fair_use.specs.Room.{place_from}
use Rattle.fair_use.proofs.room.place_of.Given as goal

-- none of those before has the number
abbrev pub invariant-loop-left : goal.invariant-loop-left
invariant-loop-left l = (place_from l.place l.number l.left ≡ place_from 0 l.number l.holders) × (l.place + length l.left ≡ length l.holders)

abbrev pub decreases-loop-left : goal.decreases-loop-left
decreases-loop-left l = length l.left
