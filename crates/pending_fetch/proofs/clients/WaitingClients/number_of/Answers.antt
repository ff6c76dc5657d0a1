use Rattle.std.proofs.Common.{◌≡◌, true, sym, subst, ap, ◌∙◌, arith}
use Rattle.std.proofs.lemmas.List.{get_or_default}
use Rattle.pending_fetch.specs.Indexes.{is_sorted}
use Rattle.pending_fetch.proofs.Sorted.{beside_at, beside_gap}
use Rattle.pending_fetch.proofs.clients.WaitingClients.number_of.Goals as goal

pub returns-in-Ok : goal.returns-in-Ok
returns-in-Ok c =
    let value = beside_at _ _ _ (ap is_sorted (sym c.self.view_is) ∙ c.self.invariant.1) c.in-Ok.ensures.found in
    let read = get_or_default _ _ c.index.result.now (0, 0) c.in-Ok.ensures.found.in_range in
    grind (arith, c.self.view_is)

pub returns-in-Err : goal.returns-in-Err
returns-in-Err c = sym (beside_gap _ _ _ c.in-Err.ensures.absent)
