use Rattle.pending_fetch.specs.Calls.{shown, told}
use Rattle.plain_node.proofs.Lent.{some_is, none_is}
use Rattle.plain_node.proofs.core_node.Core.attempt.Goals as goal

pub returns-in_err-fetch : goal.returns-in_err-fetch
returns-in_err-fetch c = λ f found. none_is (told f) (c.in_err-fetch.ensures.held f found)

pub returns : goal.returns
returns c = λ f found. c.attempt_of.ensures f (some_is (shown c.in_ok-fetch.fetch) (told f) (c.in_ok-fetch.ensures.held f found))
