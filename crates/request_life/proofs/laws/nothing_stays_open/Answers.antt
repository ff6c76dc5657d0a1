use Rattle.request_life.proofs.Whole.{opens_and_ends}
use Rattle.request_life.proofs.laws.nothing_stays_open.Goals as goal

pub returns : goal.returns
returns c = opens_and_ends
