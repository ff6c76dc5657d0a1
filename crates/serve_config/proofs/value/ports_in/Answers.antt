use Rattle.std.proofs.Common.{arith, rules}
use Rattle.serve_config.proofs.Listed.{more}
use Rattle.serve_config.proofs.value.ports_in.Goals as goal

pub loop-i-preserved : goal.loop-i-preserved
loop-i-preserved c =
    more _ _ c.loop-i.i c.index-items-i.result _ _ c.in_ok-port.port (omega arith) c.index-items-i.is (search rules) c.loop-i.invariant c.in_ok-port.ensures
