use Rattle.fetch_life.proofs.Landed.{unmet_is_given_up, bad_is_given_up, change_is_noted}
use Rattle.fetch_life.proofs.laws.what_is_noted.Goals as goal

pub returns-clause-unmet : goal.returns-clause-unmet
returns-clause-unmet c = unmet_is_given_up

pub returns-clause-unanswered : goal.returns-clause-unanswered
returns-clause-unanswered c = bad_is_given_up

pub returns-clause-changed : goal.returns-clause-changed
returns-clause-changed c = change_is_noted
