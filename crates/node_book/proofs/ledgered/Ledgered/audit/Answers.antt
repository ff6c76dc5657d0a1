use Rattle.std.proofs.Common.{subst}
use Rattle.node_book.specs.Seats.{Counted}
use Rattle.node_book.specs.Audited.{IsAstray}
use Rattle.node_book.specs.Good.{IsLeastOf}
use Rattle.node_book.proofs.ledgered.Ledgered.audit.Goals as goal

pub returns : goal.returns
returns g c = subst (λ (s : Counted). IsLeastOf (IsAstray s.book c.args.seat.now.receipts) c.astray.result) c.self.view_is c.astray.ensures
