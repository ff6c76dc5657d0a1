use Rattle.std.proofs.Common.{arith}
use Rattle.peer_select.proofs.Keeps.{up_at, up_more, up_whole}
use Rattle.peer_select.proofs.choice.up_of.Goals as goal

pub loop-n-preserved : goal.loop-n-preserved
loop-n-preserved c = up_more c.loop-n.up c.with_if-up.result c.args.peers.now c.loop-n.n _ c.loop-n.invariant c.with_if-up.ensures
    (up_at c.args.peers.now c.loop-n.n _ c.loop-n-test.true)

pub returns : goal.returns
returns c = up_whole c.loop-n.up c.args.peers.now c.loop-n.n (omega arith) c.loop-n.invariant
