use Rattle.neighbours.proofs.Distinct.{distinct_ends, no_double, distinct_names, no_double_name}
use Rattle.neighbours.proofs.laws.distinct_law.Goals as goal

pub returns-clause-ends : goal.returns-clause-ends
returns-clause-ends c = λ neighbours. (distinct_ends neighbours, no_double neighbours)

pub returns-clause-names : goal.returns-clause-names
returns-clause-names c = λ keys. (distinct_names keys, no_double_name keys)
