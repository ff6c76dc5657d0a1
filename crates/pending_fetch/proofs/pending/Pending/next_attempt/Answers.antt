use Rattle.std.proofs.Common.{ℕ, None, Some, refl, length, ap, sym, ◌∙◌, arith}
use Rattle.std.specs.VecDeque.{deque_capacity}
use Rattle.pending_fetch.specs.Fetches.{Fetches, PendingFetch, changed, with_next, fetch_of}
use Rattle.pending_fetch.specs.Calls.{may_advance}
use Rattle.pending_fetch.specs.Queue.{queue_of}
use Rattle.pending_fetch.proofs.Keeping.{Keeps-next, next_number, next_round}
use Rattle.pending_fetch.proofs.Queues.{queue_kept, queue-same}
use Rattle.pending_fetch.proofs.Calling.{put_view, KeepsKey-next, indexed_changed, order_changed}
use Rattle.pending_fetch.proofs.pending.Pending.next_attempt.Goals as goal

pub invariant_of-self : goal.invariant_of-self
invariant_of-self c = (
  indexed_changed with_next c.args.number c.self.inside.slots c.advance_in.new.slots c.self.inside.keys c.self.inside.clients Keeps-next KeepsKey-next c.self.invariant.0 c.advance_in.ensures.list,
  queue_kept (deque_capacity c.self.inside.undecided) c.self.inside.slots c.advance_in.new.slots c.self.inside.undecided.items c.self.invariant.1
      (ap queue_of c.advance_in.ensures.list ∙ queue-same with_next next_number next_round c.args.number c.self.inside.slots),
  order_changed with_next next_number c.args.number c.self.inside.order c.self.inside.slots c.advance_in.new.slots c.self.invariant.2 c.advance_in.ensures.list,
)

pub returns-clause-list : goal.returns-clause-list
returns-clause-list c =
    put_view c.self.inside.last c.advance_in.new.slots c.self.inside.slots (changed with_next c.args.number) c.args.self.now c.advance_in.ensures.list c.self.view_is

pub returns-clause-found : goal.returns-clause-found
returns-clause-found c = c.advance_in.ensures.found ∙ ap (λ (w : Fetches). may_advance (fetch_of c.args.number w.list)) c.self.view_is
