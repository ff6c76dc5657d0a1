use Rattle.std.proofs.Common.{◌≡◌, take}
use Rattle.node_words.specs.declared.action.Answer.TheVariants.{Got}
use Rattle.plain_node.specs.PlainNode.{serves}
use Rattle.plain_node.proofs.serving.serve_object.Given as goal

abbrev pub invariant-loop-client : goal.invariant-loop-client
invariant-loop-client l = l.out ≡ serves (Got l.object) (take l.client-index l.clients)
