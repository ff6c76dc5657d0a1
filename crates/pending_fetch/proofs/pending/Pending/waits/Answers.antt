use Rattle.std.proofs.Common.{ℕ, None, Some, refl, length, ap, sym, ◌∙◌, arith, vec_capacity}
use Rattle.pending_fetch.specs.Fetches.{Fetches, PendingFetch, waits}
use Rattle.std.specs.Prelude.{is_some}
use Rattle.pending_fetch.proofs.Waiting.{some_number}
use Rattle.pending_fetch.proofs.pending.Pending.waits.Goals as goal

pub returns : goal.returns
returns c =
    c.is_some.ensures ∙ ap is_some (c.number_of.ensures ∙ c.self.invariant.0.waiting c.args.client) ∙ some_number c.args.client c.self.inside.slots
    ∙ ap (λ (w : Fetches). waits c.args.client w.list) c.self.view_is
