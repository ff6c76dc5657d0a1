use Rattle.std.proofs.Common.{refl, None, Some, ap, sym, ◌∙◌, length, arith}
use Rattle.pending_fetch.specs.Fetches.{PendingFetch, with_waiter, without_client, with_reply, with_end, with_next, waiters_in}
use Rattle.pending_fetch.proofs.Spots.{none_changed, set_changed, waiters_at}
use Rattle.pending_fetch.specs.Cells.{nothing}
use Rattle.pending_fetch.proofs.slots.join_in.Goals as goal

pub returns-in_default : goal.returns-in_default
returns-in_default c = none_changed (with_waiter c.args.client) c.args.number c.args.slots.now (sym c.fetch_index.ensures ∙ c.in_default.is)

pub returns : goal.returns
returns c =
    c.join.ensures ∙ set_changed (with_waiter c.args.client) c.args.number c.args.slots.now c.in-Some.place nothing _ (sym c.fetch_index.ensures ∙ c.in-Some.is) refl

pub join-requires-clause-few : goal.join-requires-clause-few
join-requires-clause-few c =
    let own = waiters_at c.args.number c.args.slots.now c.in-Some.place nothing (sym c.fetch_index.ensures ∙ c.in-Some.is) in
    let few = c.requires.few in
    omega (arith, ap length own, few)
