use Rattle.fetch_life.proofs.Orders.{all_in_touch}
use Rattle.fetch_life.proofs.laws.in_touch.Goals as goal

pub returns : goal.returns
returns c = all_in_touch
