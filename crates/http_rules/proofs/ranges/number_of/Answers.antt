use Rattle.std.proofs.Common.{◌∙◌, ◌-◌, ◌^◌, arith}
use Rattle.http_rules.proofs.Numerals.{value_step}
use Rattle.http_rules.proofs.ranges.number_of.Goals as goal

pub loop-c-preserved : goal.loop-c-preserved
loop-c-preserved c =
    record {
      same = value_step (2 ^ 64 - 1) c.saturating_add-n.result c.loop-c.n c.args.digits.now c.loop-c.c-index (omega arith) (omega arith)
          ∙ c.loop-c.invariant.same;
      small = omega arith;
    }
