use Rattle.plain_node.proofs.Keeps.{all_left}
use Rattle.plain_node.proofs.core_node.Core.leave.Goals as goal

pub invariant_of-self : goal.invariant_of-self
invariant_of-self c = rw c.leave.ensures (all_left c.self.inside.table.neighbours c.self.inside.clock c.args.client c.self.inside.pending.list c.self.invariant)
