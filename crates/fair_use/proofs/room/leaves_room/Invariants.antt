use Rattle.std.proofs.Common.{◌≡◌, length}
use Rattle.fair_use.specs.Room.{held_of, IsKept, leaves_room}
use Rattle.fair_use.proofs.room.leaves_room.Given as goal

-- what those hold that are left, and whether they are left their room
abbrev pub invariant-loop-left : goal.invariant-loop-left
invariant-loop-left l = (l.after ≡ held_of l.left) × IsKept l.size l.left × (leaves_room l.size l.octets l.before l.left ≡ leaves_room l.size l.octets l.place l.holders)

abbrev pub decreases-loop-left : goal.decreases-loop-left
decreases-loop-left l = length l.left
