use Rattle.std.proofs.Common.{ℕ, None, Some, refl, length, ap, sym, ◌∙◌, arith, ◌==◌, if◌then◌else◌}
use Rattle.std.specs.VecDeque.{deque_capacity}
use Rattle.pending_fetch.specs.Fetches.{Fetches, PendingFetch, without, numbers}
use Rattle.std.specs.List.{list_any}
use Rattle.pending_fetch.specs.Queue.{queue_of}
use Rattle.pending_fetch.specs.Indexes.{number_beside}
use Rattle.pending_fetch.proofs.Queues.{queue_kept, queue_gone, entries_distinct}
use Rattle.pending_fetch.proofs.Calling.{put_view, gone_already, indexed_kept, indexed_closed, own_are}
use Rattle.pending_fetch.proofs.pending.Pending.close.Goals as goal

pub invariant_of-self : goal.invariant_of-self
invariant_of-self c =
    let same = gone_already c.args.number c.self.inside.slots c.take_out.new.slots c.take_out.ensures.list (sym c.take_out.ensures.taken ∙ c.in_default.is) in (
      indexed_kept c.self.inside.slots c.take_out.new.slots c.self.inside.keys c.self.inside.keys c.self.inside.clients c.self.invariant.0 same (λ k. refl),
      queue_kept (deque_capacity c.self.inside.undecided) c.self.inside.slots c.take_out.new.slots c.self.inside.undecided.items c.self.invariant.1 (ap queue_of same),
      c.take_out.ensures.order,
    )

pub returns-in_default : goal.returns-in_default
returns-in_default c =
    put_view c.self.inside.last c.take_out.new.slots c.self.inside.slots (without c.args.number) c.args.self.now c.take_out.ensures.list c.self.view_is

pub close-requires-2 : goal.close-requires-2
close-requires-2 c = λ other.
    own_are c.args.number c.in-Some.fetch c.self.inside.slots c.self.inside.keys c.self.inside.clients c.self.invariant.0 (sym c.take_out.ensures.taken ∙ c.in-Some.is) other
    ∙ sym (ap (list_any (λ waiter. waiter == other)) c.waiters.ensures)

pub close_entry-requires : goal.close_entry-requires
close_entry-requires c = entries_distinct (deque_capacity c.self.inside.undecided) c.self.inside.undecided.items c.self.inside.slots c.self.invariant.1 c.self.invariant.0.legal.numbered

pub invariant_of-self-2 : goal.invariant_of-self-2
invariant_of-self-2 c = (
  indexed_closed c.args.number c.in-Some.fetch c.self.inside.slots c.take_out.new.slots c.self.inside.keys c.close.new.self c.self.inside.clients c.close-2.new.self c.self.invariant.0 (sym c.take_out.ensures.taken ∙ c.in-Some.is) c.take_out.ensures.list c.close.ensures
      (λ other. c.close-2.ensures other ∙ ap (λ w. if list_any (λ waiter. waiter == other) w then None else number_beside c.self.inside.clients other) c.waiters.ensures),
  queue_gone c.args.number (deque_capacity c.self.inside.undecided) (deque_capacity c.close_entry.new.queue) c.in-Some.fetch c.self.inside.slots c.take_out.new.slots c.self.inside.undecided.items c.close_entry.new.queue.items
      c.is_decided.result c.self.invariant.1 c.close_entry.ensures.room c.self.invariant.0.legal.numbered (sym c.take_out.ensures.taken ∙ c.in-Some.is) c.is_decided.ensures c.take_out.ensures.list c.close_entry.ensures.items,
  c.take_out.ensures.order,
)

pub returns : goal.returns
returns c =
    put_view c.self.inside.last c.take_out.new.slots c.self.inside.slots (without c.args.number) c.args.self.now c.take_out.ensures.list c.self.view_is
