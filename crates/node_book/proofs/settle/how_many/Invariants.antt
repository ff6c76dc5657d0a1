use Rattle.std.proofs.Common.{◌≡◌, ◌≤◌, ◌*◌, take}
use Rattle.node_book.specs.Good.{numbered}
use Rattle.node_book.proofs.settle.how_many.Given as goal

abbrev pub invariant-loop-seat : goal.invariant-loop-seat
invariant-loop-seat g l = record {
  sum_is : l.all ≡ numbered l.number (take l.seat-index l.seats);
  small : l.all ≤ 1024 * l.seat-index;
}
