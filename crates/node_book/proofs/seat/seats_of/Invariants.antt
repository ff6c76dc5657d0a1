use Rattle.std.proofs.Common.{◌≡◌, ◌+◌}
use Rattle.node_book.specs.Seats.{opened_with_room}
use Rattle.node_book.proofs.seat.seats_of.Given as goal

abbrev pub invariant-loop-place : goal.invariant-loop-place
invariant-loop-place g l = record {
  parts : l.spare.parts + l.place ≡ l.count;
  amount : l.spare.amount ≡ 0;
  seats : l.seats.items ≡ opened_with_room l.room l.place;
}
