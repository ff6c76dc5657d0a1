use Rattle.node_core.proofs.Swaps.{senders-filters_after, senders-configured}
use Rattle.node_core.proofs.laws.slots_law.Goals as goal

pub returns-clause-unmoved : goal.returns-clause-unmoved
returns-clause-unmoved c = senders-filters_after

pub returns-clause-configured : goal.returns-clause-configured
returns-clause-configured c = senders-configured
