use Rattle.std.proofs.Common.{ℕ, None, Some, refl, length, ap, sym, ◌∙◌, arith, vec_capacity}
use Rattle.pending_fetch.specs.Fetches.{Fetches, PendingFetch, next_number}
use Rattle.pending_fetch.specs.Numbers.{next_of}
use Rattle.pending_fetch.proofs.pending.Pending.next_number.Goals as goal

pub returns : goal.returns
returns c = c.free_number.ensures ∙ ap (λ l. next_of l c.self.inside.last) c.self.invariant.2 ∙ ap next_number c.self.view_is
