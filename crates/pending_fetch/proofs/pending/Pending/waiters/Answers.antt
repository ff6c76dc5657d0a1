use Rattle.std.proofs.Common.{ℕ, None, Some, refl, length, ap, sym, ◌∙◌, arith, vec_capacity}
use Rattle.pending_fetch.specs.Fetches.{Fetches, PendingFetch, waiters_of, numbers}
use Rattle.pending_fetch.proofs.pending.Pending.waiters.Goals as goal

pub waiters_in-requires : goal.waiters_in-requires
waiters_in-requires c = c.self.invariant.2

pub returns : goal.returns
returns c =
    c.waiters_in.ensures ∙ ap (λ (w : Fetches). waiters_of c.args.number w.list) c.self.view_is
