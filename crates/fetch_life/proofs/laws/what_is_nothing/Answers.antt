use Rattle.fetch_life.proofs.Landed.{unmet_is_nothing, odd_is_no_object, unasked_is_nothing, loop_is_nothing}
use Rattle.fetch_life.proofs.laws.what_is_nothing.Goals as goal

pub returns-clause-unmet : goal.returns-clause-unmet
returns-clause-unmet c = unmet_is_nothing

pub returns-clause-other : goal.returns-clause-other
returns-clause-other c = odd_is_no_object

pub returns-clause-unasked : goal.returns-clause-unasked
returns-clause-unasked c = unasked_is_nothing

pub returns-clause-returned : goal.returns-clause-returned
returns-clause-returned c = loop_is_nothing
