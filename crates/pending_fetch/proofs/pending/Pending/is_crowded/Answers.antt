use Rattle.std.proofs.Common.{ℕ, None, Some, refl, length, ap, sym, ◌∙◌, arith, vec_capacity}
use Rattle.pending_fetch.specs.Fetches.{Fetches, PendingFetch}
use Rattle.std.proofs.Common.{nat_le}
use Rattle.pending_fetch.specs.Calls.{is_crowded}
use Rattle.pending_fetch.proofs.Calling.{many_wait}
use Rattle.pending_fetch.proofs.pending.Pending.is_crowded.Goals as goal
use Rattle.pending_fetch.specs.Bounds.{most_waiters}

pub returns : goal.returns
returns c =
    c.are_crowded.ensures ∙ ap (nat_le most_waiters) (many_wait c.self.inside.slots c.self.inside.keys c.self.inside.clients c.self.invariant.0 c.facts.ensures)
    ∙ ap (λ (w : Fetches). is_crowded w.list) c.self.view_is
