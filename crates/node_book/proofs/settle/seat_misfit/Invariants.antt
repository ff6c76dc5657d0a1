use Rattle.std.proofs.Common.{◌≡◌, ℕ, ◌<◌}
use Rattle.std.specs.Prelude.{None}
use Rattle.node_book.specs.Good.{IsGoodAt, IsLeastOf, IsMisfitAt}
use Rattle.node_book.proofs.settle.seat_misfit.Given as goal

abbrev pub invariant-loop-j : goal.invariant-loop-j
invariant-loop-j g l = record {
  least : IsLeastOf (λ n. (i : ℕ) × (i < l.j) × IsMisfitAt l.booked l.seats l.seat.receipts i n) l.least;
  good : l.least ≡ None → (i : ℕ) → i < l.j → IsGoodAt l.booked l.seats l.seat.receipts i;
}
