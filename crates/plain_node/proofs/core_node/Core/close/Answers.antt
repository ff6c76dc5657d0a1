use Rattle.plain_node.specs.Fitting.{is_of}
use Rattle.plain_node.proofs.Keeps.{all_filtered}
use Rattle.plain_node.proofs.core_node.Core.close.Goals as goal

pub invariant_of-self : goal.invariant_of-self
invariant_of-self c = rw c.close.ensures (all_filtered (is_of c.self.inside.table.neighbours c.self.inside.clock) _ c.self.inside.pending.list c.self.invariant)
