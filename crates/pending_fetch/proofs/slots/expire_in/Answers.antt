use Rattle.std.proofs.Common.{refl, None, Some, ap, sym, ◌∙◌, length, arith}
use Rattle.pending_fetch.specs.Fetches.{PendingFetch, with_waiter, without_client, with_reply, with_end, with_next, waiters_in}
use Rattle.pending_fetch.proofs.Spots.{none_changed, set_changed, absent, present}
use Rattle.pending_fetch.specs.Cells.{nothing}
use Rattle.pending_fetch.proofs.slots.expire_in.Goals as goal

pub returns-in_default-clause-list : goal.returns-in_default-clause-list
returns-in_default-clause-list c = none_changed with_end c.args.number c.args.slots.now (sym c.fetch_index.ensures ∙ c.in_default.is)

pub returns-clause-list : goal.returns-clause-list
returns-clause-list c =
    c.expire.ensures ∙ set_changed with_end c.args.number c.args.slots.now c.in-Some.place nothing _ (sym c.fetch_index.ensures ∙ c.in-Some.is) refl

pub returns-in_default-clause-found : goal.returns-in_default-clause-found
returns-in_default-clause-found c = sym (absent c.args.number c.args.slots.now (sym c.fetch_index.ensures ∙ c.in_default.is))

pub returns-clause-found : goal.returns-clause-found
returns-clause-found c = sym (present c.args.number c.args.slots.now c.in-Some.place (sym c.fetch_index.ensures ∙ c.in-Some.is))
