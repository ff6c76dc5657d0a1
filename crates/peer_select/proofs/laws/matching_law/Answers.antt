use Rattle.peer_select.proofs.Shapes.{matches_begun}
use Rattle.peer_select.proofs.laws.matching_law.Goals as goal

pub returns-clause-begun : goal.returns-clause-begun
returns-clause-begun c = λ rows asked start. matches_begun rows 0 rows.neighbours
