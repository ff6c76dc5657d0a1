use Rattle.std.proofs.Common.{sym, ◌∙◌}
use Rattle.pending_fetch.proofs.Sorted.{gap_past}
use Rattle.pending_fetch.proofs.clients.WaitingClients.is_past.Goals as goal

pub returns : goal.returns
returns c = λ under.
    rw (← c.self.view_is) (gap_past c.self.inside.list.items c.args.client c.len-len.result c.index.result.now c.self.invariant.1 (c.len-len.ensures ∙ c.self.inside.list.ok.0) c.if-len-eq0.false c.index.ensures under)
