use Rattle.std.proofs.Common.{ap, sym, ◌∙◌}
use Rattle.pending_fetch.specs.Numbers.{rises_to}
use Rattle.pending_fetch.proofs.Rising.{rises_more}
use Rattle.pending_fetch.proofs.order.top_with.Goals as goal

pub returns-then-top-number : goal.returns-then-top-number
returns-then-top-number c = λ list h. rises_more list c.in-Some.top c.args.number (ap (λ t. rises_to t list) (sym c.in-Some.is) ∙ h) c.if-top-number.true
