use Rattle.std.proofs.Common.{ℕ, None, Some, refl, length, ap, sym, ◌∙◌, arith, vec_capacity}
use Rattle.pending_fetch.specs.Fetches.{Fetches, PendingFetch, first_due}
use Rattle.pending_fetch.specs.Queue.{first_of_queue}
use Rattle.pending_fetch.proofs.Queues.{first-is}
use Rattle.pending_fetch.proofs.pending.Pending.due.Goals as goal

pub returns : goal.returns
returns c =
    c.due_in.ensures ∙ ap (first_of_queue c.args.now) c.self.invariant.1.queue_is
    ∙ first-is c.args.now c.self.inside.slots c.self.invariant.0.legal.in_order ∙ ap (λ (w : Fetches). first_due c.args.now w.list) c.self.view_is
