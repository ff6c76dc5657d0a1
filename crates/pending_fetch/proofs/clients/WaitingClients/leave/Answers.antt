use Rattle.std.proofs.Common.{None, Some, get_or, ap, sym, ◌∙◌, arith}
use Rattle.pending_fetch.specs.Indexes.{Waiting, is_sorted, number_beside}
use Rattle.pending_fetch.proofs.Sorted.{sorted-cut, sorted_seen, beside_at, beside_gap, beside_left, beside_gone, beside_view, at_seen}
use Rattle.pending_fetch.proofs.clients.WaitingClients.leave.Goals as goal

pub invariant_of-self : goal.invariant_of-self
invariant_of-self c = (
  omega (arith, c.remove_from.ensures.room, c.self.invariant.0),
  ap is_sorted c.remove_from.ensures.items ∙ sorted-cut c.self.inside.list.items c.in-Ok.at c.self.invariant.1,
)

pub returns-in-Ok-clause-number : goal.returns-in-Ok-clause-number
returns-in-Ok-clause-number c =
    ap (λ n. Some n) (c.remove_from.ensures.number ∙ ap (λ (l : Waiting). (get_or l c.in-Ok.at (0, 0)).1) c.self.view_is)
    ∙ sym (beside_at c.args.self.now c.args.client c.in-Ok.at (sorted_seen c.self.inside.list.items c.args.self.now c.self.view_is c.self.invariant.1) c.in-Ok.ensures.found)

pub returns-in-Ok-clause-others : goal.returns-in-Ok-clause-others
returns-in-Ok-clause-others c = λ other.
    ap (λ l. number_beside l other) c.remove_from.ensures.items
    ∙ beside_left c.self.inside.list.items c.args.client c.in-Ok.at c.self.invariant.1 (at_seen c.self.inside.list.items c.args.self.now c.args.client c.in-Ok.at c.self.view_is c.in-Ok.ensures.found) other
    ∙ ap (λ l. beside_view l c.args.client other None) c.self.view_is

pub returns-in-Err-clause-number : goal.returns-in-Err-clause-number
returns-in-Err-clause-number c = sym (beside_gap c.args.self.now c.args.client c.in-Err.field-0 c.in-Err.ensures.absent)

pub returns-in-Err-clause-others : goal.returns-in-Err-clause-others
returns-in-Err-clause-others c = beside_gone c.args.self.now c.args.client c.in-Err.field-0 c.in-Err.ensures.absent
