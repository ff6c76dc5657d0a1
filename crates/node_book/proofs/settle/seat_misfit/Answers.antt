use Rattle.std.proofs.Common.{◌∙◌, sym, subst, arith}
use Rattle.std.proofs.lemmas.Option.{slice_get_within}
use Rattle.node_book.specs.Good.{IsGoodAt, IsLeastOf, IsMisfitAt}
use Rattle.node_book.proofs.Least.{least-below, least-all, none-below}
use Rattle.node_book.proofs.settle.seat_misfit.Goals as goal

pub loop-j-preserved : goal.loop-j-preserved
loop-j-preserved g c = record {
  least =
      subst (IsLeastOf _) (sym c.lesser-least.ensures)
      (least-below (IsMisfitAt c.args.booked.now c.args.seats.now c.args.seat.now.receipts) _ _ _ c.loop-j.invariant.least c.misfit_at.ensures.least);
  good = λ e. none-below (IsGoodAt c.args.booked.now c.args.seats.now c.args.seat.now.receipts) _ _ _ c.loop-j.invariant.good c.misfit_at.ensures.good (sym c.lesser-least.ensures ∙ e);
}

pub returns-clause-least : goal.returns-clause-least
returns-clause-least g c =
    least-all (IsMisfitAt c.args.booked.now c.args.seats.now c.args.seat.now.receipts) c.loop-j.j c.loop-j.least
    (λ i n m. let h = slice_get_within c.args.seat.now.receipts i m.receipt m.is in omega arith) c.loop-j.invariant.least

pub returns-clause-good : goal.returns-clause-good
returns-clause-good g c =
    λ e j receipt at. let h = slice_get_within c.args.seat.now.receipts j receipt at in c.loop-j.invariant.good e j (omega arith) receipt at
