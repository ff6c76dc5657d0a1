use Rattle.std.proofs.Common.{ℕ, None, Some, refl, length, ap, sym, ◌∙◌, arith, vec_capacity}
use Rattle.pending_fetch.specs.Fetches.{Fetches, PendingFetch}
use Rattle.std.proofs.Common.{nat_le}
use Rattle.pending_fetch.proofs.pending.Pending.is_many.Goals as goal
use Rattle.pending_fetch.specs.Bounds.{most_fetches}

pub returns : goal.returns
returns c = c.are_many.ensures ∙ ap (λ (w : Fetches). nat_le most_fetches (length w.list)) c.self.view_is
