use Rattle.std.proofs.Common.{true, ap, ◌∙◌, arith}
use Rattle.pending_fetch.specs.Numbers.{rises_to}
use Rattle.pending_fetch.proofs.Rising.{rises_less}
use Rattle.pending_fetch.proofs.order.Order.remove.Goals as goal

pub invariant_of-self-else-is_none : goal.invariant_of-self-else-is_none
invariant_of-self-else-is_none c = (
  omega (arith, c.remove_from.ensures.room, c.self.invariant.0),
  ap (rises_to c.self.inside.top) c.remove_from.ensures.items ∙ rises_less c.self.inside.top c.self.inside.list.items c.args.place c.self.invariant.1,
)
