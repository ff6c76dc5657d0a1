use Rattle.std.proofs.Common.{ap, ◌∙◌}
use Rattle.peer_select.specs.Poll.{decided}
use Rattle.pending_fetch.specs.Calls.{FetchFacts, shown, told}
use Rattle.plain_node.proofs.Lent.{some_is, none_is}
use Rattle.plain_node.proofs.core_node.Core.is_decided.Goals as goal

pub returns-in-Some : goal.returns-in-Some
returns-in-Some c = λ f found. c.decided.ensures ∙ ap (λ (t : FetchFacts). decided t.round) (some_is (shown c.in-Some.fetch) (told f) (c.in-Some.ensures.held f found))

pub returns-in-None : goal.returns-in-None
returns-in-None c = λ f found. none_is (told f) (c.in-None.ensures.held f found)
