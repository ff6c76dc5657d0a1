use Rattle.std.proofs.Common.{◌≡◌, ◌-◌, length}
use Rattle.pending_fetch.specs.Numbers.{nth_after, free_from, next_of}
use Rattle.pending_fetch.proofs.order.Order.free_number.Given as goal

abbrev pub invariant-loop-tried : goal.invariant-loop-tried
invariant-loop-tried l = record {
  place : l.n ≡ nth_after l.last l.tried;
  rest : free_from l.self l.last l.tried (length l.self - l.tried) ≡ next_of l.self l.last;
}
