use Rattle.node_words.specs.declared.action.Answer.TheVariants.{Fail}
use Rattle.std.proofs.Common.{refl}
use Rattle.plain_node.proofs.Servings.{served-more}
use Rattle.plain_node.proofs.serving.serve_fail.Goals as goal

pub loop-client-preserved : goal.loop-client-preserved
loop-client-preserved c =
    served-more (Fail c.args.status) c.args.out.now c.loop-client.out c.push.new.self c.args.clients.now c.loop-client.client-index _ _ c.loop-client.invariant c.loop-client-test.true refl c.push.ensures
