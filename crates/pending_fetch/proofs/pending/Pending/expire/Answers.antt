use Rattle.std.proofs.Common.{ℕ, None, Some, refl, length, ap, sym, ◌∙◌, arith}
use Rattle.std.specs.VecDeque.{deque_capacity}
use Rattle.pending_fetch.specs.Fetches.{Fetches, PendingFetch, changed, with_end, has_number}
use Rattle.std.proofs.Common.{true, if◌then◌else◌}
use Rattle.pending_fetch.proofs.Keeping.{Keeps-end}
use Rattle.pending_fetch.proofs.Queues.{queue_after, entries_distinct, ended_found}
use Rattle.pending_fetch.proofs.Calling.{put_view, KeepsKey-end, indexed_changed, order_changed}
use Rattle.pending_fetch.proofs.pending.Pending.expire.Goals as goal

pub settle-requires : goal.settle-requires
settle-requires c = entries_distinct (deque_capacity c.self.inside.undecided) c.self.inside.undecided.items c.self.inside.slots c.self.invariant.1 c.self.invariant.0.legal.numbered

pub invariant_of-self : goal.invariant_of-self
invariant_of-self c = (
  indexed_changed with_end c.args.number c.self.inside.slots c.expire_in-found.new.slots c.self.inside.keys c.self.inside.clients (Keeps-end c.matching_law.ensures.start_ended) KeepsKey-end c.self.invariant.0 c.expire_in-found.ensures.list,
  queue_after with_end c.args.number (deque_capacity c.self.inside.undecided) (deque_capacity c.settle.new.queue) c.self.inside.slots c.expire_in-found.new.slots c.self.inside.undecided.items c.settle.new.queue.items c.decided_where.result
      (Keeps-end c.matching_law.ensures.start_ended) (λ f d. c.unchanged_law.ensures.expired f.round)
      c.self.invariant.0.legal.numbered c.self.invariant.1 c.settle.ensures.room c.expire_in-found.ensures.list
      (c.decided_where.ensures ∙ ap (λ b. if b then Some true else None) c.expire_in-found.ensures.found ∙ ended_found c.unchanged_law.ensures.expired c.args.number c.self.inside.slots)
      c.settle.ensures.items,
  order_changed with_end (λ f. refl) c.args.number c.self.inside.order c.self.inside.slots c.expire_in-found.new.slots c.self.invariant.2 c.expire_in-found.ensures.list,
)

pub returns-clause-list : goal.returns-clause-list
returns-clause-list c =
    put_view c.self.inside.last c.expire_in-found.new.slots c.self.inside.slots (changed with_end c.args.number) c.args.self.now c.expire_in-found.ensures.list c.self.view_is

pub returns-clause-found : goal.returns-clause-found
returns-clause-found c = c.expire_in-found.ensures.found ∙ ap (λ (w : Fetches). has_number c.args.number w.list) c.self.view_is
