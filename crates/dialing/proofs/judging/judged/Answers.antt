use Rattle.dialing.proofs.Chosen.{judged_at}
use Rattle.dialing.proofs.judging.judged.Goals as goal

pub loop-server-preserved : goal.loop-server-preserved
loop-server-preserved g c =
    judged_at (g.J.Judge.judges c.args.judge.now) c.args.servers.now _ _ c.loop-server.server-index _ _ c.loop-server-test.true
    c.in_ok-push.ensures.items c.loop-server.invariant c.admitted.ensures.judged
