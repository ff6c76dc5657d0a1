use Rattle.node_core.proofs.Runs.{kept_rejected, filters_rejected, answers_rejected}
use Rattle.node_core.proofs.laws.rejected_law.Goals as goal

pub returns-clause-kept : goal.returns-clause-kept
returns-clause-kept c = kept_rejected

pub returns-clause-filters : goal.returns-clause-filters
returns-clause-filters c = filters_rejected

pub returns-clause-answers : goal.returns-clause-answers
returns-clause-answers c = answers_rejected
