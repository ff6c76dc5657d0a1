use Rattle.std.proofs.Common.{ℕ, ◌<◌}
use Rattle.node_book.specs.Audited.{IsAstrayAt}
use Rattle.node_book.specs.Good.{IsLeastOf}
use Rattle.node_book.proofs.settle.astray.Given as goal

abbrev pub invariant-loop-j : goal.invariant-loop-j
invariant-loop-j g l = IsLeastOf (λ n. (i : ℕ) × (i < l.j) × IsAstrayAt l.booked l.seat.receipts i n) l.least
