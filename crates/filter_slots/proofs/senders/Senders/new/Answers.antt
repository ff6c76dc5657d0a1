use Rattle.std.proofs.Common.{sym, ◌∙◌}
use Rattle.filter_slots.proofs.Chains.{chained-none}
use Rattle.filter_slots.proofs.senders.Senders.new.Goals as goal

pub invariant_of-result : goal.invariant_of-result
invariant_of-result c = chained-none c.new.result.items c.no_places.result c.new.ensures c.no_places.ensures
