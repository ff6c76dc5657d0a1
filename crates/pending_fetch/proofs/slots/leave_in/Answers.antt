use Rattle.std.proofs.Common.{refl, None, Some, ap, sym, ◌∙◌, length, arith}
use Rattle.pending_fetch.specs.Fetches.{PendingFetch, with_waiter, without_client, with_reply, with_end, with_next, waiters_in}
use Rattle.pending_fetch.proofs.Spots.{none_changed, set_changed}
use Rattle.pending_fetch.specs.Cells.{nothing}
use Rattle.pending_fetch.proofs.slots.leave_in.Goals as goal

pub returns-in_default : goal.returns-in_default
returns-in_default c = none_changed (λ (fetch : PendingFetch). record fetch { waiters = without_client c.args.client fetch.waiters }) c.args.number c.args.slots.now (sym c.fetch_index.ensures ∙ c.in_default.is)

pub returns : goal.returns
returns c =
    c.leave.ensures ∙ set_changed (λ (fetch : PendingFetch). record fetch { waiters = without_client c.args.client fetch.waiters }) c.args.number c.args.slots.now c.in-Some.place nothing _ (sym c.fetch_index.ensures ∙ c.in-Some.is) refl
