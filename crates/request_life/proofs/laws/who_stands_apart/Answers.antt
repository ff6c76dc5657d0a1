use Rattle.request_life.proofs.Due.{apart_by, apart_is_fetched}
use Rattle.request_life.proofs.laws.who_stands_apart.Goals as goal

pub returns-clause-only : goal.returns-clause-only
returns-clause-only c = apart_by

pub returns-clause-fetched : goal.returns-clause-fetched
returns-clause-fetched c = apart_is_fetched
