use Rattle.std.proofs.Common.{List, subst}
use Rattle.std.specs.Prelude.{Some, None}
use Rattle.node_book.specs.Seats.{Held, Counted, AreAllOpened}
use Rattle.node_book.specs.Good.{AreAllGood, IsLeastOf, IsMisfit}
use Rattle.node_book.proofs.Settled.{misfit_some, misfit_none}
use Rattle.node_book.proofs.ledgered.Ledgered.settle.Goals as goal

pub returns-in-Some-clause-misfit : goal.returns-in-Some-clause-misfit
returns-in-Some-clause-misfit g c =
    let number = c.in-Some.number in
    let opens : Counted → Type 0 = λ s. AreAllOpened s.seats c.as_slice.result.now in
    let on_slice : Counted → Type 0 = λ s. IsLeastOf (IsMisfit s.book c.as_slice-2.result.now) (Some number) in
    let on_seats : List Held → Type 0 = λ v. IsLeastOf (IsMisfit c.args.self.book v) (Some number) in
    misfit_some (AreAllOpened c.args.self.seats c.args.seats.items) (IsMisfit c.args.self.book c.args.seats.items) number
    (subst (AreAllOpened c.args.self.seats) c.as_slice.ensures.value (subst opens c.self.view_is (c.all_opened.ensures.0 c.if-not-all_opened.false)))
    (subst on_seats c.as_slice-2.ensures.value (subst on_slice c.self.view_is c.in-Some.ensures.least))

pub returns-clause-good : goal.returns-clause-good
returns-clause-good g c =
    let on_slice : Counted → Type 0 = λ s. AreAllGood s.book c.as_slice-2.result.now in
    let on_seats : List Held → Type 0 = λ v. AreAllGood c.args.self.book v in
    subst on_seats c.as_slice-2.ensures.value (subst on_slice c.self.view_is (c.least_misfit.ensures.good c.in-None.is))

pub returns-clause-misfit : goal.returns-clause-misfit
returns-clause-misfit g c =
    let on_slice : Counted → Type 0 = λ s. IsLeastOf (IsMisfit s.book c.as_slice-2.result.now) None in
    let on_seats : List Held → Type 0 = λ v. IsLeastOf (IsMisfit c.args.self.book v) None in
    misfit_none (AreAllOpened c.args.self.seats c.args.seats.items) (IsMisfit c.args.self.book c.args.seats.items) _
    (subst on_seats c.as_slice-2.ensures.value (subst on_slice c.self.view_is c.in-None.ensures.least))
