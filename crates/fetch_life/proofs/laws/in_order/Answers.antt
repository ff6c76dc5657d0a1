use Rattle.fetch_life.proofs.Orders.{all_in_order}
use Rattle.fetch_life.proofs.laws.in_order.Goals as goal

pub returns : goal.returns
returns c = all_in_order
