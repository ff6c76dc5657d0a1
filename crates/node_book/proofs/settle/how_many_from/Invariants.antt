use Rattle.std.proofs.Common.{◌≡◌, ◌≤◌, ◌*◌, take}
use Rattle.node_book.specs.Good.{kept_from}
use Rattle.node_book.proofs.settle.how_many_from.Given as goal

abbrev pub invariant-loop-seat : goal.invariant-loop-seat
invariant-loop-seat g l = record {
  sum_is : l.all ≡ kept_from l.base (take l.seat-index l.seats);
  small : l.all ≤ 1024 * l.seat-index;
}
