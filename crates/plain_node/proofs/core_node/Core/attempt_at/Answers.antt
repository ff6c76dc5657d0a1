use Rattle.std.proofs.Common.{ap, ◌∙◌}
use Rattle.std.specs.Option.{option_map}
use Rattle.pending_fetch.specs.Calls.{shown, told}
use Rattle.plain_node.proofs.Lent.{some_is}
use Rattle.plain_node.proofs.core_node.Core.attempt_at.Goals as goal

pub returns : goal.returns
returns c = λ f found. c.attempt_of.ensures f (some_is (shown c.held_at-fetch.result) (told f) (c.held_at-fetch.ensures.held ∙ ap (option_map told) found))
