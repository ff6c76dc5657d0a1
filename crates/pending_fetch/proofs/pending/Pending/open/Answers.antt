use Rattle.std.proofs.Common.{ℕ, None, Some, refl, length, ap, sym, ◌∙◌, arith}
use Rattle.std.specs.VecDeque.{deque_capacity}
use Rattle.pending_fetch.specs.Fetches.{Fetches, PendingFetch, numbers, opened_fetch}
use Rattle.std.proofs.Common.{◌++◌, ◌∷◌, []}
use Rattle.pending_fetch.specs.Queue.{queue_of, entry_at, listed, entry_of}
use Rattle.pending_fetch.proofs.Queues.{queue_opened, queue_seen, queue_room, queue_kept, entry_listed}
use Rattle.pending_fetch.proofs.Calling.{on_ok, on_err, not_full, room_left, many_wait, nobody_beside, indexed_kept, indexed_opened, fetch_opened, order_opened, order_room}
use Rattle.pending_fetch.proofs.pending.Pending.open.Goals as goal

pub invariant_of-self : goal.invariant_of-self
invariant_of-self c = (
  indexed_kept c.self.inside.slots c.open.new.self c.self.inside.keys c.open.new.keys c.self.inside.clients c.self.invariant.0 (on_err _ _ _ c.open.result c.open.ensures.err (sym c.is_err.ensures.value ∙ c.if-is_err.true))
      (on_err _ _ _ c.open.result c.open.ensures.unkeyed (sym c.is_err.ensures.value ∙ c.if-is_err.true)),
  queue_kept (deque_capacity c.self.inside.undecided) c.self.inside.slots c.open.new.self c.self.inside.undecided.items c.self.invariant.1 (ap queue_of (on_err _ _ _ c.open.result c.open.ensures.err (sym c.is_err.ensures.value ∙ c.if-is_err.true))),
  c.self.invariant.2 ∙ ap numbers (sym (on_err _ _ _ c.open.result c.open.ensures.err (sym c.is_err.ensures.value ∙ c.if-is_err.true))),
)

pub join-requires-clause-few : goal.join-requires-clause-few
join-requires-clause-few c =
    let all = many_wait c.self.inside.slots c.self.inside.keys c.self.inside.clients c.self.invariant.0 c.facts.ensures in
    let few = room_left c.self.inside.slots c.args.self.now.list (ap (λ (w : Fetches). w.list) c.self.view_is) (not_full c.args.self.now.list (sym c.is_full.ensures ∙ c.if-is_full.false)).1 in
    omega (arith, all, few)

pub join-requires-clause-absent : goal.join-requires-clause-absent
join-requires-clause-absent c = nobody_beside c.args.client c.self.inside.slots c.args.self.now.list c.self.inside.keys c.self.inside.clients c.self.invariant.0 (ap (λ (w : Fetches). w.list) c.self.view_is) c.requires.absent

pub enqueue-requires-clause-few : goal.enqueue-requires-clause-few
enqueue-requires-clause-few c =
    queue_room (deque_capacity c.self.inside.undecided) c.self.inside.undecided.items c.args.self.now.list
    (queue_seen (deque_capacity c.self.inside.undecided) c.self.inside.undecided.items c.self.inside.slots c.args.self.now.list (ap (λ (w : Fetches). w.list) c.self.view_is) c.self.invariant.1)
    (not_full c.args.self.now.list (sym c.is_full.ensures ∙ c.if-is_full.false)).0

pub push-requires : goal.push-requires
push-requires c = order_room c.self.inside.order c.self.inside.slots c.args.self.now.list c.self.invariant.2 (ap (λ (w : Fetches). w.list) c.self.view_is) (not_full c.args.self.now.list (sym c.is_full.ensures ∙ c.if-is_full.false)).0

pub invariant_of-self-2 : goal.invariant_of-self-2
invariant_of-self-2 c =
    let is = (on_ok _ _ _ c.open.result c.open.ensures.ok (sym c.is_err.ensures.value ∙ c.if-is_err.false)) in (
      indexed_opened c.next_number-number.result c.self.inside.last c.self.inside.slots c.open.new.self c.self.inside.keys c.open.new.keys c.self.inside.clients c.join.new.self c.in-Ok.fetch c.args.key c.args.client c.args.shared c.args.round c.args.self.now
          c.self.view_is c.self.invariant.0 is c.in-Ok.ensures c.next_number-number.ensures (sym c.is_full.ensures ∙ c.if-is_full.false) c.requires.absent c.requires.later c.requires.unshared
          (on_ok _ _ _ c.open.result c.open.ensures.keyed (sym c.is_err.ensures.value ∙ c.if-is_err.false)) c.join.ensures,
      queue_opened (deque_capacity c.self.inside.undecided) (deque_capacity c.enqueue.new.queue) c.self.inside.slots c.open.new.self c.in-Ok.fetch (listed c.entry_for-entry.result)
          c.self.inside.undecided.items c.enqueue.new.queue.items c.self.invariant.1 c.enqueue.ensures.room is
          (ap listed c.entry_for-entry.ensures ∙ entry_listed c.next_number-number.result c.args.key c.args.client c.args.shared c.args.round ∙ ap entry_of (sym c.in-Ok.ensures))
          c.enqueue.ensures.items,
      order_opened c.next_number-number.result c.self.inside.order c.push.new.self c.self.inside.slots c.open.new.self c.in-Ok.fetch c.self.invariant.2 c.push.ensures is
          (ap (λ (f : PendingFetch). f.number) c.in-Ok.ensures),
    )

pub returns-clause-ok : goal.returns-clause-ok
returns-clause-ok c =
    fetch_opened c.next_number-number.result c.self.inside.last c.self.inside.slots c.open.new.self c.in-Ok.fetch c.args.key c.args.client c.args.shared c.args.round c.args.self.now
    c.self.view_is (on_ok _ _ _ c.open.result c.open.ensures.ok (sym c.is_err.ensures.value ∙ c.if-is_err.false)) c.in-Ok.ensures c.next_number-number.ensures
