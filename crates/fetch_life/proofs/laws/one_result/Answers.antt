use Rattle.fetch_life.proofs.Whole.{hands_in_once, is_counted_once, does_no_more, runs_out}
use Rattle.fetch_life.proofs.laws.one_result.Goals as goal

pub returns-clause-once : goal.returns-clause-once
returns-clause-once c = hands_in_once

pub returns-clause-counted : goal.returns-clause-counted
returns-clause-counted c = is_counted_once

pub returns-clause-ends : goal.returns-clause-ends
returns-clause-ends c = does_no_more

pub returns-clause-over : goal.returns-clause-over
returns-clause-over c = runs_out
