use Rattle.fetch_life.proofs.Whole.{left_is_given_up, unwanted_is_not_begun, private_is_not_given_up, renewed_is_left, renewed_in_vain}
use Rattle.fetch_life.proofs.laws.want_of_clients.Goals as goal

pub returns-clause-ended : goal.returns-clause-ended
returns-clause-ended c = left_is_given_up

pub returns-clause-unbegun : goal.returns-clause-unbegun
returns-clause-unbegun c = unwanted_is_not_begun

pub returns-clause-shared : goal.returns-clause-shared
returns-clause-shared c = private_is_not_given_up

pub returns-clause-renewed : goal.returns-clause-renewed
returns-clause-renewed c = renewed_is_left

pub returns-clause-vain : goal.returns-clause-vain
returns-clause-vain c = renewed_in_vain
