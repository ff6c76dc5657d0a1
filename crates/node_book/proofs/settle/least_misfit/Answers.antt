use Rattle.std.proofs.Common.{◌≡◌, ℕ, ◌∙◌, sym, subst, refl, arith}
use Rattle.std.specs.Prelude.{Some, slice_get}
use Rattle.std.proofs.lemmas.Option.{slice_get_within, slice_get_read}
use Rattle.node_book.specs.Seats.{Held}
use Rattle.node_book.specs.Good.{IsGoodAt, IsLeastOf, IsMisfitOf}
use Rattle.node_book.proofs.Least.{least-below, least-all, least-of-seat, none-below, good-of-seat}
use Rattle.node_book.proofs.settle.least_misfit.Goals as goal

pub loop-seat-preserved : goal.loop-seat-preserved
loop-seat-preserved g c =
    let b = c.args.booked.now in
    let seats = c.args.seats.now in
    let at = slice_get_read seats _ c.loop-seat.seat-index c.seat-item.result refl c.loop-seat-test.true c.seat-item.is in
    record {
      least =
          subst (IsLeastOf _) (sym c.lesser-least.ensures)
          (least-below (IsMisfitOf b seats) _ _ _ c.loop-seat.invariant.least (least-of-seat _ _ _ _ _ at c.seat_misfit.ensures.least));
      good = λ e.
          none-below (λ i. (s : Held) → slice_get seats i ≡ Some s → (j : ℕ) → IsGoodAt b seats s.receipts j) _ _ _ c.loop-seat.invariant.good
          (λ n. good-of-seat b seats _ _ at (c.seat_misfit.ensures.good n)) (sym c.lesser-least.ensures ∙ e);
    }

pub returns-clause-least : goal.returns-clause-least
returns-clause-least g c =
    least-all (IsMisfitOf c.args.booked.now c.args.seats.now) c.loop-seat.seat-index c.loop-seat.least
    (λ i n m. let h = slice_get_within c.args.seats.now i m.0 m.1 in omega arith) c.loop-seat.invariant.least

pub returns-clause-good : goal.returns-clause-good
returns-clause-good g c =
    λ e i seat at. let h = slice_get_within c.args.seats.now i seat at in c.loop-seat.invariant.good e i (omega arith) seat at
