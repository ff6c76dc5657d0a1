use Rattle.std.proofs.Common.{ℕ, None, ap, sym, ◌∙◌, arith, not, ◌==◌, if◌then◌else◌}
use Rattle.pending_fetch.specs.Indexes.{is_sorted, number_beside, is_number}
use Rattle.pending_fetch.proofs.Sorted.{sorted-filter, beside_forgotten}
use Rattle.pending_fetch.proofs.clients.WaitingClients.forget.Goals as goal

pub invariant_of-self : goal.invariant_of-self
invariant_of-self c = (
  omega (arith, c.retain_others.ensures.room, c.self.invariant.0),
  ap is_sorted c.retain_others.ensures.items ∙ sorted-filter (λ (pair : ℕ × ℕ). not (pair.1 == c.args.number)) c.self.inside.list.items c.self.invariant.1,
)

pub returns : goal.returns
returns c = λ other.
    ap (λ l. number_beside l other) c.retain_others.ensures.items
    ∙ beside_forgotten c.args.number c.self.inside.list.items c.self.invariant.1 other
    ∙ ap (λ l. if is_number c.args.number (number_beside l other) then None else number_beside l other) c.self.view_is
