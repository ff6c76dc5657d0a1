use Rattle.std.proofs.Common.{◌∙◌, arith}
use Rattle.serve_config.proofs.Listed.{denied_more}
use Rattle.serve_config.proofs.origins.denied.Goals as goal

pub loop-i-preserved : goal.loop-i-preserved
loop-i-preserved c = record {
  said = denied_more c.in_ok-items.items.now c.loop-i.i c.index-items-i.result c.loop-i.networks.four.items c.loop-i.networks.six.items c.in_ok-networks.networks.four.items c.in_ok-networks.networks.six.items (omega arith) c.index-items-i.is c.loop-i.invariant.said c.in_ok-networks.ensures.said;
  six = λ none. c.in_ok-networks.ensures.six none ∙ c.loop-i.invariant.six none;
}
