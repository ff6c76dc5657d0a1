use Rattle.std.proofs.Common.{◌≡◌, ◌+◌, length}
use Rattle.std.specs.Prelude.{sum_by}
use Rattle.node_book.proofs.settle.gather.Given as goal

abbrev pub invariant-loop-seat : goal.invariant-loop-seat
invariant-loop-seat g l = record {
  parts : l.all.parts ≡ l.initial.all.parts + length l.yielded;
  amount : l.all.amount ≡ l.initial.all.amount + sum_by (λ s. s.share) l.yielded;
}
