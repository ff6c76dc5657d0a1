use Rattle.std.proofs.Common.{arith, rules}
use Rattle.serve_config.proofs.Listed.{more}
use Rattle.serve_config.proofs.group.keys.Goals as goal

pub loop-i-preserved : goal.loop-i-preserved
loop-i-preserved c =
    more _ _ c.loop-i.i c.index-items-i.result _ _ c.in_ok-key.key (omega arith) c.index-items-i.is (search rules) c.loop-i.invariant c.in_ok-key.ensures
