use Rattle.std.proofs.Common.{◌<◌, sym, subst, length, arith}
use Rattle.std.proofs.lemmas.Option.{slice_get_within}
use Rattle.node_book.specs.Audited.{IsAstray, IsAstrayAt}
use Rattle.node_book.specs.Good.{IsLeastOf}
use Rattle.node_book.proofs.Least.{least-below, least-map}
use Rattle.node_book.proofs.settle.astray.Goals as goal

pub loop-j-preserved : goal.loop-j-preserved
loop-j-preserved g c =
    subst (IsLeastOf _) (sym c.lesser-least.ensures)
    (least-below (IsAstrayAt c.args.booked.now c.args.seat.now.receipts) _ _ _ c.loop-j.invariant c.astray_at.ensures)

pub returns : goal.returns
returns g c =
    least-map _ (IsAstray c.args.booked.now c.args.seat.now.receipts) c.loop-j.least
    (λ n p. let below = p.1 in (p.0, (omega arith), p.2))
    (λ n p. let within = slice_get_within c.args.seat.now.receipts p.0 p.2.receipt p.2.is in let few = p.1 in (p.0, (omega arith), p.2))
    c.loop-j.invariant
