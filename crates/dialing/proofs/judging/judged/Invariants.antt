use Rattle.std.proofs.Common.{take}
use Rattle.http_traffic.specs.Judged.{AreJudged}
use Rattle.dialing.proofs.judging.judged.Given as goal

abbrev pub invariant-loop-server : goal.invariant-loop-server
invariant-loop-server g l = AreJudged (g.J.Judge.judges l.judge) (take l.server-index l.servers) l.judged.items
