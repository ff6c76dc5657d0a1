use Rattle.std.proofs.Common.{refl}
use Rattle.pending_fetch.proofs.Rising.{rises_next}
use Rattle.pending_fetch.proofs.order.top_of.Goals as goal

pub loop-number-preserved : goal.loop-number-preserved
loop-number-preserved c = rises_next c.args.list.now c.loop-number.top _ c.loop-number.number-index _ c.loop-number.invariant c.loop-number-test.true refl c.if-number-top.false
