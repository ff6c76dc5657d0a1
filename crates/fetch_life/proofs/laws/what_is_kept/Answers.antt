use Rattle.fetch_life.proofs.Orders.{unstorable_is_unkept}
use Rattle.fetch_life.proofs.Whole.{shelf_stays}
use Rattle.fetch_life.proofs.Whole.{kept_is_unchanged, private_is_unkept, neighbour_is_unshelved, changed_is_unkept}
use Rattle.fetch_life.proofs.laws.what_is_kept.Goals as goal

pub returns-clause-overtaken : goal.returns-clause-overtaken
returns-clause-overtaken c = kept_is_unchanged

pub returns-clause-private : goal.returns-clause-private
returns-clause-private c = private_is_unkept

pub returns-clause-shelf : goal.returns-clause-shelf
returns-clause-shelf c = neighbour_is_unshelved

pub returns-clause-changed : goal.returns-clause-changed
returns-clause-changed c = changed_is_unkept

pub returns-clause-stays : goal.returns-clause-stays
returns-clause-stays c = shelf_stays

pub returns-clause-allowed : goal.returns-clause-allowed
returns-clause-allowed c = unstorable_is_unkept
