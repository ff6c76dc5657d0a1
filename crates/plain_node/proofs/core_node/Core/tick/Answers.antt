use Rattle.plain_node.proofs.Keeps.{all_later}
use Rattle.plain_node.proofs.core_node.Core.tick.Goals as goal

pub invariant_of-self : goal.invariant_of-self
invariant_of-self c = rw c.later-self-inside.ensures (all_later c.self.inside.table.neighbours c.self.inside.clock c.args.now c.self.inside.pending.list c.self.invariant)
