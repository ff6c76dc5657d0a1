use Rattle.std.proofs.Common.{◌≡◌, ℕ, ◌+◌, Some, None, Option, ap, sym, ◌∙◌, if◌then◌else◌}
use Rattle.pending_fetch.specs.Indexes.{Waiting, is_sorted, number_beside, IsGapFor, IsAt}
use Rattle.pending_fetch.proofs.Sorted.{sorted-insert, beside_joined, found_not_absent, beside_view, gap_seen, at_seen, sorted_seen}
use Rattle.pending_fetch.proofs.clients.WaitingClients.join.Goals as goal

pub invariant_of-self : goal.invariant_of-self
invariant_of-self c = (
  c.insert_into.ensures.room,
  ap is_sorted c.insert_into.ensures.items ∙ sorted-insert c.self.inside.list.items c.args.client c.args.number c.in-Err.at c.self.invariant.1 (gap_seen c.self.inside.list.items c.args.self.now c.args.client c.in-Err.at c.self.view_is c.in-Err.ensures.absent),
)

pub returns-in-Ok : goal.returns-in-Ok
returns-in-Ok c = found_not_absent c.args.self.now c.args.client c.in-Ok.field-0 c.args.number (sorted_seen c.self.inside.list.items c.args.self.now c.self.view_is c.self.invariant.1) c.in-Ok.ensures.found c.requires.absent

pub returns-in-Err : goal.returns-in-Err
returns-in-Err c = λ other.
    ap (λ l. number_beside l other) c.insert_into.ensures.items
    ∙ beside_joined c.self.inside.list.items c.args.client c.args.number c.in-Err.at (gap_seen c.self.inside.list.items c.args.self.now c.args.client c.in-Err.at c.self.view_is c.in-Err.ensures.absent) other
    ∙ ap (λ l. beside_view l c.args.client other (Some c.args.number)) c.self.view_is
