use Rattle.std.proofs.Common.{subst}
use Rattle.node_book.specs.Settled.{Settles}
use Rattle.node_book.proofs.desk.Desk.settle.Goals as goal

pub returns-clause-book : goal.returns-clause-book
returns-clause-book g c =
    let e = c.settle.ensures in
    let l = c.close.result in
    let settled : Settles l.seats c.args.seats.items l.book c.settle.result =
    record { refused = e.seats; misfit = e.misfit; good = e.good; told = e.told } in (
      l.book,
      c.close.ensures.legal,
      subst (λ k. Settles k c.args.seats.items l.book c.settle.result) c.close.ensures.seats settled,
    )
