use Rattle.request_life.proofs.Whole.{barred_goes_nowhere, stored_is_not_fetched, stored_is_not_passed, unsendable_is_not_submitted}
use Rattle.request_life.proofs.laws.refusals.Goals as goal

pub returns-clause-barred : goal.returns-clause-barred
returns-clause-barred c = barred_goes_nowhere

pub returns-clause-stored : goal.returns-clause-stored
returns-clause-stored c = stored_is_not_fetched

pub returns-clause-passed : goal.returns-clause-passed
returns-clause-passed c = stored_is_not_passed

pub returns-clause-options : goal.returns-clause-options
returns-clause-options c = unsendable_is_not_submitted
