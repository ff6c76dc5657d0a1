use Rattle.std.proofs.Common.{◌≡◌, ◌++◌}
use Rattle.std.specs.Vec.Iter.{into_iter_items}
use Rattle.origin_rules.specs.Chosen.{chosen}
use Rattle.origin_rules.proofs.admitted.chosen.Given as goal

abbrev pub invariant-loop-one : goal.invariant-loop-one
invariant-loop-one l =
    (goal.iterator-loop-one).can_next l.one-iterator
    × (goal.iterator-loop-one).is_finite l.one-iterator
    × (l.list.items ++ chosen (into_iter_items l.one-iterator) ≡ chosen l.fn.judged.items)
