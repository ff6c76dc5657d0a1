use Rattle.node_core.proofs.Runs.{kept_places-between}
use Rattle.node_core.proofs.laws.kept_law.Goals as goal

pub returns : goal.returns
returns c = kept_places-between
