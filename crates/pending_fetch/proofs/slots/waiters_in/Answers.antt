use Rattle.std.proofs.Common.{None, Some, ap, sym, ◌∙◌}
use Rattle.pending_fetch.specs.Fetches.{PendingFetch, waiters_in}
use Rattle.pending_fetch.proofs.Spots.{no_fetch, waiters_at}
use Rattle.pending_fetch.specs.Cells.{nothing}
use Rattle.pending_fetch.proofs.slots.waiters_in.Goals as goal

pub returns-in_default : goal.returns-in_default
returns-in_default c = sym (ap waiters_in (no_fetch c.args.number c.args.slots.now (sym c.fetch_index.ensures ∙ c.in_default.is)))

pub returns : goal.returns
returns c =
    c.waiters.ensures ∙ ap (λ (f : PendingFetch). f.waiters) c.get.ensures
    ∙ sym (waiters_at c.args.number c.args.slots.now c.in-Some.place nothing (sym c.fetch_index.ensures ∙ c.in-Some.is))
