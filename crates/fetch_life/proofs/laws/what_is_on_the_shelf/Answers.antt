use Rattle.fetch_life.proofs.Landed.{new_takes_place, confirmed_takes_place, odd_takes_away, long_takes_away, page_is_shelved, confirmed_is_shelved}
use Rattle.fetch_life.proofs.laws.what_is_on_the_shelf.Goals as goal

pub returns-clause-replaced : goal.returns-clause-replaced
returns-clause-replaced c = new_takes_place

pub returns-clause-confirmed : goal.returns-clause-confirmed
returns-clause-confirmed c = confirmed_takes_place

pub returns-clause-other : goal.returns-clause-other
returns-clause-other c = odd_takes_away

pub returns-clause-long : goal.returns-clause-long
returns-clause-long c = long_takes_away

pub returns-clause-put : goal.returns-clause-put
returns-clause-put c = page_is_shelved

pub returns-clause-put_back : goal.returns-clause-put_back
returns-clause-put_back c = confirmed_is_shelved
