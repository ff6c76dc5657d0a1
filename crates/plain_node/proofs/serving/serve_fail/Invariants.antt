use Rattle.node_words.specs.declared.action.Answer.TheVariants.{Fail}
use Rattle.std.proofs.Common.{◌≡◌, ◌++◌, take}
use Rattle.plain_node.specs.PlainNode.{serves}
use Rattle.plain_node.proofs.serving.serve_fail.Given as goal

abbrev pub invariant-loop-client : goal.invariant-loop-client
invariant-loop-client l = l.out ≡ l.fn.out ++ serves (Fail l.status) (take l.client-index l.clients)
