use Rattle.std.proofs.Common.{ℕ, None, Some, refl, length, ap, sym, ◌∙◌, arith}
use Rattle.std.specs.VecDeque.{deque_capacity}
use Rattle.pending_fetch.specs.Fetches.{Fetches, PendingFetch, with_waiter}
use Rattle.pending_fetch.specs.Calls.{join_fault, join_answer, join_list}
use Rattle.pending_fetch.specs.Queue.{queue_of}
use Rattle.pending_fetch.proofs.Queues.{queue_kept, queue-same}
use Rattle.pending_fetch.proofs.Calling.{key_seen, may_join, room_left, few_wait, many_wait, nobody_beside, indexed_joined, join_told, join_seen, order_changed}
use Rattle.pending_fetch.proofs.pending.Pending.join.Goals as goal

pub returns-in_default-clause-answer : goal.returns-in_default-clause-answer
returns-in_default-clause-answer c =
    sym (ap (λ o. join_answer o (join_fault c.args.client c.args.self.now.list)) (key_seen c.args.key.now c.as_slice.result.now c.self.inside.slots c.args.self.now.list c.self.inside.keys c.self.inside.clients c.number_of.result None c.self.invariant.0 (ap (λ (w : Fetches). w.list) c.self.view_is) c.number_of.ensures c.as_slice.ensures.value c.in_default.is))

pub returns-in_default-clause-list : goal.returns-in_default-clause-list
returns-in_default-clause-list c =
    sym (ap (λ o. join_list c.args.client c.args.self.now.list o (join_fault c.args.client c.args.self.now.list)) (key_seen c.args.key.now c.as_slice.result.now c.self.inside.slots c.args.self.now.list c.self.inside.keys c.self.inside.clients c.number_of.result None c.self.invariant.0 (ap (λ (w : Fetches). w.list) c.self.view_is) c.number_of.ensures c.as_slice.ensures.value c.in_default.is))

pub returns-in-Some-join_fault-clause-answer : goal.returns-in-Some-join_fault-clause-answer
returns-in-Some-join_fault-clause-answer c =
    join_told c.args.client c.in-Some.number c.args.key.now c.args.self.now.list (Some c.in-Some-join_fault.fault)
    (key_seen c.args.key.now c.as_slice.result.now c.self.inside.slots c.args.self.now.list c.self.inside.keys c.self.inside.clients c.number_of.result (Some c.in-Some.number) c.self.invariant.0 (ap (λ (w : Fetches). w.list) c.self.view_is) c.number_of.ensures c.as_slice.ensures.value c.in-Some.is)
    (sym c.join_fault.ensures ∙ c.in-Some-join_fault.is)

pub returns-in-Some-join_fault-clause-list : goal.returns-in-Some-join_fault-clause-list
returns-in-Some-join_fault-clause-list c =
    sym (ap (λ o. join_list c.args.client c.args.self.now.list o (join_fault c.args.client c.args.self.now.list))
    (key_seen c.args.key.now c.as_slice.result.now c.self.inside.slots c.args.self.now.list c.self.inside.keys c.self.inside.clients c.number_of.result (Some c.in-Some.number) c.self.invariant.0 (ap (λ (w : Fetches). w.list) c.self.view_is) c.number_of.ensures c.as_slice.ensures.value c.in-Some.is)
    ∙ ap (join_list c.args.client c.args.self.now.list (Some c.in-Some.number)) (sym c.join_fault.ensures ∙ c.in-Some-join_fault.is))

pub join_in-requires-clause-few : goal.join_in-requires-clause-few
join_in-requires-clause-few c =
    few_wait c.in-Some.number c.self.inside.slots c.self.invariant.0.legal
    (room_left c.self.inside.slots c.args.self.now.list (ap (λ (w : Fetches). w.list) c.self.view_is) (may_join c.args.client c.args.self.now.list (sym c.join_fault.ensures ∙ c.in_default-join_fault.is)).0)

pub join-requires-clause-few : goal.join-requires-clause-few
join-requires-clause-few c =
    let all = many_wait c.self.inside.slots c.self.inside.keys c.self.inside.clients c.self.invariant.0 c.facts.ensures in
    let few = room_left c.self.inside.slots c.args.self.now.list (ap (λ (w : Fetches). w.list) c.self.view_is) (may_join c.args.client c.args.self.now.list (sym c.join_fault.ensures ∙ c.in_default-join_fault.is)).0 in
    omega (arith, all, few)

pub join-requires-clause-absent : goal.join-requires-clause-absent
join-requires-clause-absent c =
    nobody_beside c.args.client c.self.inside.slots c.args.self.now.list c.self.inside.keys c.self.inside.clients c.self.invariant.0 (ap (λ (w : Fetches). w.list) c.self.view_is) (may_join c.args.client c.args.self.now.list (sym c.join_fault.ensures ∙ c.in_default-join_fault.is)).1

pub invariant_of-self : goal.invariant_of-self
invariant_of-self c = (
  indexed_joined c.args.client c.in-Some.number c.as_slice.result.now c.self.inside.slots c.join_in.new.slots c.args.self.now.list c.self.inside.keys c.self.inside.clients c.join.new.self c.self.invariant.0 (ap (λ (w : Fetches). w.list) c.self.view_is)
      (sym c.number_of.ensures ∙ c.in-Some.is) (sym c.join_fault.ensures ∙ c.in_default-join_fault.is) c.join_in.ensures c.join.ensures,
  queue_kept (deque_capacity c.self.inside.undecided) c.self.inside.slots c.join_in.new.slots c.self.inside.undecided.items c.self.invariant.1
      (ap queue_of c.join_in.ensures ∙ queue-same (with_waiter c.args.client) (λ f. refl) (λ f. refl) c.in-Some.number c.self.inside.slots),
  order_changed (with_waiter c.args.client) (λ f. refl) c.in-Some.number c.self.inside.order c.self.inside.slots c.join_in.new.slots c.self.invariant.2 c.join_in.ensures,
)

pub returns-clause-answer : goal.returns-clause-answer
returns-clause-answer c =
    join_told c.args.client c.in-Some.number c.args.key.now c.args.self.now.list None
    (key_seen c.args.key.now c.as_slice.result.now c.self.inside.slots c.args.self.now.list c.self.inside.keys c.self.inside.clients c.number_of.result (Some c.in-Some.number) c.self.invariant.0 (ap (λ (w : Fetches). w.list) c.self.view_is) c.number_of.ensures c.as_slice.ensures.value c.in-Some.is) (sym c.join_fault.ensures ∙ c.in_default-join_fault.is)

pub returns-clause-list : goal.returns-clause-list
returns-clause-list c =
    join_seen c.args.client c.in-Some.number c.args.key.now c.self.inside.slots c.join_in.new.slots c.args.self.now.list (ap (λ (w : Fetches). w.list) c.self.view_is)
    (key_seen c.args.key.now c.as_slice.result.now c.self.inside.slots c.args.self.now.list c.self.inside.keys c.self.inside.clients c.number_of.result (Some c.in-Some.number) c.self.invariant.0 (ap (λ (w : Fetches). w.list) c.self.view_is) c.number_of.ensures c.as_slice.ensures.value c.in-Some.is) (sym c.join_fault.ensures ∙ c.in_default-join_fault.is) c.join_in.ensures
