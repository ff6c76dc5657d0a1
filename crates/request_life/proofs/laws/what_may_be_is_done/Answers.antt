use Rattle.request_life.proofs.Served.{is_begun, is_submitted_so, is_passed_so, is_opened_so, is_set_apart}
use Rattle.request_life.proofs.laws.what_may_be_is_done.Goals as goal

pub returns-clause-begun : goal.returns-clause-begun
returns-clause-begun c = is_begun

pub returns-clause-asked : goal.returns-clause-asked
returns-clause-asked c = is_submitted_so

pub returns-clause-passed : goal.returns-clause-passed
returns-clause-passed c = is_passed_so

pub returns-clause-opened : goal.returns-clause-opened
returns-clause-opened c = is_opened_so

pub returns-clause-apart : goal.returns-clause-apart
returns-clause-apart c = is_set_apart
