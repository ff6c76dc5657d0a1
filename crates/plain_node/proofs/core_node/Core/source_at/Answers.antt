use Rattle.pending_fetch.specs.Calls.{told}
use Rattle.plain_node.proofs.Lent.{none_is}
use Rattle.plain_node.proofs.core_node.Core.source_at.Goals as goal

pub returns-in_err-fetch : goal.returns-in_err-fetch
returns-in_err-fetch c = λ f found. none_is (told f) (c.in_err-fetch.ensures.held f found)
