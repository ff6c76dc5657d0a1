use Rattle.std.proofs.Common.{arith}
use Rattle.serve_config.proofs.Listed.{more}
use Rattle.serve_config.proofs.freshness.rules.Goals as goal

pub loop-i-preserved : goal.loop-i-preserved
loop-i-preserved c =
    more _ _ c.loop-i.i c.index-items-i.result _ _ c.in_ok-rule.rule (omega arith) c.index-items-i.is c.in_ok-rules.ensures c.loop-i.invariant c.in_ok-rule.ensures.said
