use Rattle.std.proofs.Common.{◌≡◌, true, Some, take}
use Rattle.pending_fetch.specs.Numbers.{rises_to}
use Rattle.pending_fetch.proofs.order.top_of.Given as goal

abbrev pub invariant-loop-number : goal.invariant-loop-number
invariant-loop-number l = rises_to (Some l.top) (take l.number-index l.list) ≡ true
