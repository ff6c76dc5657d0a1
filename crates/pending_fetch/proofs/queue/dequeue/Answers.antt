use Rattle.std.proofs.Common.{◌∙◌}
use Rattle.pending_fetch.proofs.Queues.{cut_dequeued}
use Rattle.pending_fetch.proofs.queue.dequeue.Goals as goal

pub returns-in-Some-clause-items : goal.returns-in-Some-clause-items
returns-in-Some-clause-items c =
    c.remove_at.ensures.items ∙ cut_dequeued c.args.queue.now.items c.args.number c.in-Some.place c.in-Some.ensures.0 c.in-Some.ensures.1 c.requires
