use Rattle.std.proofs.Common.{[], refl}
use Rattle.plain_node.proofs.Servings.{served-equal}
use Rattle.plain_node.proofs.serving.serve_object.Goals as goal

pub loop-client-preserved : goal.loop-client-preserved
loop-client-preserved c =
    served-equal [] c.loop-client.out c.push.new.self c.args.clients.now c.loop-client.client-index _ _ c.args.object.now _ c.loop-client.invariant c.loop-client-test.true refl c.push.ensures c.in-Ok.ensures
