use Rattle.std.proofs.Common.{refl, nat_lt, None, Some, ap, sym, ◌∙◌, length, arith}
use Rattle.pending_fetch.specs.Fetches.{PendingFetch, with_waiter, without_client, with_reply, with_end, with_next, waiters_in}
use Rattle.pending_fetch.specs.Calls.{may_advance}
use Rattle.pending_fetch.proofs.Spots.{none_changed, set_changed, no_fetch, fetch_at}
use Rattle.pending_fetch.specs.Cells.{nothing}
use Rattle.pending_fetch.proofs.slots.advance_in.Goals as goal

pub returns-in_default-clause-list : goal.returns-in_default-clause-list
returns-in_default-clause-list c = none_changed with_next c.args.number c.args.slots.now (sym c.fetch_index.ensures ∙ c.in_default.is)

pub returns-clause-list : goal.returns-clause-list
returns-clause-list c =
    c.advance.ensures.list ∙ set_changed with_next c.args.number c.args.slots.now c.in-Some.place nothing _ (sym c.fetch_index.ensures ∙ c.in-Some.is) refl

pub returns-in_default-clause-found : goal.returns-in_default-clause-found
returns-in_default-clause-found c = sym (ap may_advance (no_fetch c.args.number c.args.slots.now (sym c.fetch_index.ensures ∙ c.in_default.is)))

pub returns-clause-found : goal.returns-clause-found
returns-clause-found c =
    c.advance.ensures.may
    ∙ sym (ap may_advance (fetch_at c.args.number c.args.slots.now c.in-Some.place nothing (sym c.fetch_index.ensures ∙ c.in-Some.is)))
