use Rattle.std.proofs.Common.{ℕ, None, Some, refl, length, ap, sym, ◌∙◌, arith}
use Rattle.std.specs.VecDeque.{deque_capacity}
use Rattle.pending_fetch.specs.Fetches.{Fetches, PendingFetch, left}
use Rattle.pending_fetch.specs.Queue.{queue_of}
use Rattle.pending_fetch.proofs.Queues.{queue_kept, queue-left}
use Rattle.pending_fetch.proofs.Waiting.{dropped}
use Rattle.pending_fetch.proofs.Calling.{put_view, nobody_is, left_is, indexed_absent, indexed_left, order_changed}
use Rattle.pending_fetch.proofs.pending.Pending.leave.Goals as goal

pub returns-in_default : goal.returns-in_default
returns-in_default c =
    put_view c.self.inside.last c.self.inside.slots c.self.inside.slots (left c.args.client) c.args.self.now (nobody_is c.args.client c.self.inside.slots c.self.inside.keys c.self.inside.clients c.self.invariant.0 (sym c.leave.ensures.number ∙ c.in_default.is)) c.self.view_is

pub invariant_of-self : goal.invariant_of-self
invariant_of-self c = (
  indexed_absent c.args.client c.self.inside.slots c.self.inside.keys c.self.inside.clients c.leave.new.self c.self.invariant.0 (sym c.leave.ensures.number ∙ c.in_default.is) c.leave.ensures.others,
  c.self.invariant.1,
  c.self.invariant.2,
)

pub invariant_of-self-2 : goal.invariant_of-self-2
invariant_of-self-2 c = (
  indexed_left c.args.client c.in-Some.number c.self.inside.slots c.leave_in.new.slots c.self.inside.keys c.self.inside.clients c.leave.new.self c.self.invariant.0 (sym c.leave.ensures.number ∙ c.in-Some.is) c.leave_in.ensures c.leave.ensures.others,
  queue_kept (deque_capacity c.self.inside.undecided) c.self.inside.slots c.leave_in.new.slots c.self.inside.undecided.items c.self.invariant.1
      (ap queue_of (left_is c.args.client c.in-Some.number c.self.inside.slots c.leave_in.new.slots c.self.inside.keys c.self.inside.clients c.self.invariant.0 (sym c.leave.ensures.number ∙ c.in-Some.is) c.leave_in.ensures) ∙ queue-left c.args.client c.self.inside.slots),
  order_changed (dropped c.args.client) (λ f. refl) c.in-Some.number c.self.inside.order c.self.inside.slots c.leave_in.new.slots c.self.invariant.2 c.leave_in.ensures,
)

pub returns : goal.returns
returns c =
    put_view c.self.inside.last c.leave_in.new.slots c.self.inside.slots (left c.args.client) c.args.self.now
    (left_is c.args.client c.in-Some.number c.self.inside.slots c.leave_in.new.slots c.self.inside.keys c.self.inside.clients c.self.invariant.0 (sym c.leave.ensures.number ∙ c.in-Some.is) c.leave_in.ensures) c.self.view_is
