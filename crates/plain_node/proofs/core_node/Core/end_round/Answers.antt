use Rattle.plain_node.proofs.RoundLemmas.{fitting_end}
use Rattle.plain_node.proofs.core_node.Core.end_round.Goals as goal

pub invariant_of-self : goal.invariant_of-self
invariant_of-self c = rw c.expire.ensures.list (fitting_end c.self.inside.table.neighbours c.self.inside.clock c.args.number c.self.inside.pending.list c.self.invariant)
