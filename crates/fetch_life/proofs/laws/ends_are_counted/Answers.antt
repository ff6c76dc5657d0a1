use Rattle.fetch_life.proofs.Whole.{end_is_counted, success_by, refusal_by, failure_by, want_by}
use Rattle.fetch_life.proofs.laws.ends_are_counted.Goals as goal

pub returns-clause-each : goal.returns-clause-each
returns-clause-each c = end_is_counted

pub returns-clause-success : goal.returns-clause-success
returns-clause-success c = success_by

pub returns-clause-refusal : goal.returns-clause-refusal
returns-clause-refusal c = refusal_by

pub returns-clause-failure : goal.returns-clause-failure
returns-clause-failure c = failure_by

pub returns-clause-want : goal.returns-clause-want
returns-clause-want c = want_by
