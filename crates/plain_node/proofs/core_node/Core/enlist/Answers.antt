use Rattle.pending_fetch.specs.Fetches.{shared_number}
use Rattle.pending_fetch.specs.Calls.{join_fault}
use Rattle.plain_node.proofs.Joins.{fitting_joined}
use Rattle.plain_node.proofs.core_node.Core.enlist.Goals as goal

pub invariant_of-self : goal.invariant_of-self
invariant_of-self c =
    let list = c.self.inside.pending.list in
    rw c.join.ensures.list (fitting_joined c.self.inside.table.neighbours c.self.inside.clock c.args.client list (shared_number c.args.key.now list) (join_fault c.args.client list) c.self.invariant)
