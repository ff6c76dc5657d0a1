use Rattle.peer_select.proofs.Polls.{step}
use Rattle.std.proofs.Common.{arith, ◌∙◌}
use Rattle.std.proofs.Math.ListN.{length-set}
use Rattle.peer_select.proofs.round.peers_in.Goals as goal

pub loop-n-preserved : goal.loop-n-preserved
loop-n-preserved c = record {
  places = length-set _ _ _ ∙ c.loop-n.invariant.places;
  done = step c.args.table.now _ _ _ (omega arith) (omega arith) c.peer_in.ensures c.loop-n.invariant.done;
}
