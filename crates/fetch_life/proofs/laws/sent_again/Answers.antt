use Rattle.fetch_life.proofs.Orders.{sent_by_cause, sent_thrice, kept_is_made_anew, new_goes_on}
use Rattle.fetch_life.proofs.laws.sent_again.Goals as goal

pub returns-clause-caused : goal.returns-clause-caused
returns-clause-caused c = sent_by_cause

pub returns-clause-most : goal.returns-clause-most
returns-clause-most c = sent_thrice

pub returns-clause-kept : goal.returns-clause-kept
returns-clause-kept c = kept_is_made_anew

pub returns-clause-fresh : goal.returns-clause-fresh
returns-clause-fresh c = new_goes_on
