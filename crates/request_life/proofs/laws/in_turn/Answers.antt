use Rattle.request_life.proofs.Orders.{all_in_turn}
use Rattle.request_life.proofs.laws.in_turn.Goals as goal

pub returns : goal.returns
returns c = all_in_turn
