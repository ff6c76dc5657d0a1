use Rattle.request_life.proofs.Whole.{asks_and_waits}
use Rattle.request_life.proofs.laws.questions.Goals as goal

pub returns : goal.returns
returns c = asks_and_waits
