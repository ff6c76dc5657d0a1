use Rattle.std.proofs.Common.{sym, ◌∙◌}
use Rattle.pending_fetch.proofs.Queues.{first_is}
use Rattle.pending_fetch.proofs.queue.is_first.Goals as goal

pub returns : goal.returns
returns c = λ same.
    first_is c.args.queue.now.items c.index.result.now c.args.number c.args.queue.now.len c.args.queue.now.ok.0 (sym c.is_empty.ensures ∙ c.if-is_empty.false) c.index.ensures same
