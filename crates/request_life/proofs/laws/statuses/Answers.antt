use Rattle.request_life.proofs.Whole.{late_by, unserved_by, back_by, forbidden_by, long_by, large_by, error_by}
use Rattle.request_life.proofs.laws.statuses.Goals as goal

pub returns-clause-back : goal.returns-clause-back
returns-clause-back c = back_by

pub returns-clause-forbidden : goal.returns-clause-forbidden
returns-clause-forbidden c = forbidden_by

pub returns-clause-long : goal.returns-clause-long
returns-clause-long c = long_by

pub returns-clause-large : goal.returns-clause-large
returns-clause-large c = large_by

pub returns-clause-errors : goal.returns-clause-errors
returns-clause-errors c = error_by

pub returns-clause-late : goal.returns-clause-late
returns-clause-late c = late_by

pub returns-clause-unserved : goal.returns-clause-unserved
returns-clause-unserved c = unserved_by
