use Rattle.std.proofs.Common.{◌∷◌, []}
use Rattle.node_core.proofs.Runs.{counted-append}
use Rattle.node_core.proofs.laws.step_law.Goals as goal

pub returns-clause-stats : goal.returns-clause-stats
returns-clause-stats c = λ old event events. counted-append old.stats old.filters (event ∷ []) events
