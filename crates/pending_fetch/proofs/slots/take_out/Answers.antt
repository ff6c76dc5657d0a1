use Rattle.std.proofs.Common.{◌+◌, ◌++◌, take, drop, None, Some, ap, sym, ◌∙◌}
use Rattle.pending_fetch.specs.Fetches.{PendingFetch, numbers}
use Rattle.pending_fetch.proofs.Spots.{none_without, no_fetch, fetch_at, cut_without, numbers-cut}
use Rattle.pending_fetch.specs.Cells.{nothing}
use Rattle.pending_fetch.proofs.slots.take_out.Goals as goal

pub returns-in_default-clause-list : goal.returns-in_default-clause-list
returns-in_default-clause-list c = none_without c.args.number c.args.slots.now (sym c.fetch_index.ensures ∙ c.in_default.is)

pub returns-in_default-clause-taken : goal.returns-in_default-clause-taken
returns-in_default-clause-taken c = sym (no_fetch c.args.number c.args.slots.now (sym c.fetch_index.ensures ∙ c.in_default.is))

pub returns-clause-list : goal.returns-clause-list
returns-clause-list c = c.remove-2.ensures.list ∙ cut_without c.args.number c.args.slots.now c.in-Some.place (sym c.fetch_index.ensures ∙ c.in-Some.is) c.requires.apart

pub returns-clause-order : goal.returns-clause-order
returns-clause-order c =
    c.remove.ensures ∙ ap (λ l. take c.in-Some.place l ++ drop (c.in-Some.place + 1) l) c.requires.order
    ∙ numbers-cut c.in-Some.place (c.in-Some.place + 1) c.args.slots.now ∙ sym (ap numbers c.remove-2.ensures.list)

pub returns-clause-taken : goal.returns-clause-taken
returns-clause-taken c = ap (λ f. Some f) c.remove-2.ensures.fetch ∙ sym (fetch_at c.args.number c.args.slots.now c.in-Some.place nothing (sym c.fetch_index.ensures ∙ c.in-Some.is))
