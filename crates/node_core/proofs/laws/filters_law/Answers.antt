use Rattle.node_core.proofs.Swaps.{slot-filters_after, has-filters_after}
use Rattle.node_core.proofs.laws.filters_law.Goals as goal

pub returns-clause-programs : goal.returns-clause-programs
returns-clause-programs c = slot-filters_after

pub returns-clause-slots : goal.returns-clause-slots
returns-clause-slots c = has-filters_after
