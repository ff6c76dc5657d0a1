use Rattle.fetch_life.proofs.Orders.{asking_is_ordered, streaming_is_ordered, shelf_is_ordered}
use Rattle.fetch_life.proofs.Whole.{source_is_ordered, shared_is_ordered, fetch_stays}
use Rattle.fetch_life.proofs.laws.one_fetch.Goals as goal

pub returns-clause-source : goal.returns-clause-source
returns-clause-source c = source_is_ordered

pub returns-clause-shared : goal.returns-clause-shared
returns-clause-shared c = shared_is_ordered

pub returns-clause-stays : goal.returns-clause-stays
returns-clause-stays c = fetch_stays

pub returns-clause-asking : goal.returns-clause-asking
returns-clause-asking c = asking_is_ordered

pub returns-clause-streamed : goal.returns-clause-streamed
returns-clause-streamed c = streaming_is_ordered

pub returns-clause-shelf : goal.returns-clause-shelf
returns-clause-shelf c = shelf_is_ordered
