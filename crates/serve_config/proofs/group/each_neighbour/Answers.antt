use Rattle.std.proofs.Common.{arith}
use Rattle.serve_config.proofs.Listed.{more}
use Rattle.serve_config.proofs.group.each_neighbour.Goals as goal

pub loop-i-preserved : goal.loop-i-preserved
loop-i-preserved c =
    more _ _ c.loop-i.i c.index-items-i.result _ _ c.in_ok-neighbour.neighbour (omega arith) c.index-items-i.is c.in_ok-neighbours.ensures c.loop-i.invariant c.in_ok-neighbour.ensures.said
