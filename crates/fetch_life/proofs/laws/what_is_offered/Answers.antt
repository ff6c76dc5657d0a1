use Rattle.fetch_life.proofs.Orders.{offer_is_made, offered_once}
use Rattle.fetch_life.proofs.laws.what_is_offered.Goals as goal

pub returns-clause-offered : goal.returns-clause-offered
returns-clause-offered c = offer_is_made

pub returns-clause-once : goal.returns-clause-once
returns-clause-once c = offered_once
