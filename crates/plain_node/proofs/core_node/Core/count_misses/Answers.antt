use Rattle.plain_node.proofs.core_node.Core.count_misses.Goals as goal

pub invariant_of-self : goal.invariant_of-self
invariant_of-self c = rw c.miss_silent.ensures c.self.invariant
