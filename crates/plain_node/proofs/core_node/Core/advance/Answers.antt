use Rattle.plain_node.proofs.Keeps.{fitting_next}
use Rattle.plain_node.proofs.core_node.Core.advance.Goals as goal

pub invariant_of-self : goal.invariant_of-self
invariant_of-self c = rw c.next_attempt.ensures.list (fitting_next c.self.inside.table.neighbours c.self.inside.clock c.args.number c.self.inside.pending.list c.self.invariant)
