use Rattle.pending_fetch.proofs.Nexts.{next_is}
use Rattle.pending_fetch.proofs.laws.next_law.Goals as goal

pub returns : goal.returns
returns c = next_is
