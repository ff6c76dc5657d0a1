use Rattle.std.proofs.Common.{◌≡◌, ℕ, ◌<◌}
use Rattle.std.specs.Prelude.{None, Some, slice_get}
use Rattle.node_book.specs.Seats.{Held}
use Rattle.node_book.specs.Good.{IsGoodAt, IsLeastOf, IsMisfitOf}
use Rattle.node_book.proofs.settle.least_misfit.Given as goal

abbrev pub invariant-loop-seat : goal.invariant-loop-seat
invariant-loop-seat g l = record {
  least : IsLeastOf (λ n. (i : ℕ) × (i < l.seat-index) × IsMisfitOf l.booked l.seats i n) l.least;
  good : l.least ≡ None → (i : ℕ) → i < l.seat-index → (s : Held) → slice_get l.seats i ≡ Some s → (j : ℕ) → IsGoodAt l.booked l.seats s.receipts j;
}
