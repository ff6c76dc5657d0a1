use Rattle.std.proofs.Common.{ap, ◌∙◌}
use Rattle.std.specs.Prelude.{is_some}
use Rattle.pending_fetch.proofs.Rising.{placed-taken}
use Rattle.pending_fetch.proofs.order.Order.has.Goals as goal

pub returns : goal.returns
returns c = c.is_some.ensures ∙ ap is_some c.fetch_index.ensures ∙ placed-taken c.args.number c.args.self.now
