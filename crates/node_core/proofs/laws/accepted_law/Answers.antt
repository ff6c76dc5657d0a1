use Rattle.node_core.proofs.Swaps.{accepted-after, accepted-joined}
use Rattle.node_core.proofs.laws.accepted_law.Goals as goal

pub returns-clause-after : goal.returns-clause-after
returns-clause-after c = accepted-after

pub returns-clause-joined : goal.returns-clause-joined
returns-clause-joined c = accepted-joined
