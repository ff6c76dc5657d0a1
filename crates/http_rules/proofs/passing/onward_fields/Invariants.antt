use Rattle.std.proofs.Common.{◌≡◌, ◌++◌, map}
use Rattle.std.specs.Vec.Iter.{into_iter_items}
use Rattle.http_rules.specs.Passing.{onward_fields}
use Rattle.http_rules.proofs.passing.onward_fields.Given as goal

abbrev pub invariant-loop-name : goal.invariant-loop-name
invariant-loop-name l =
    (goal.iterator-loop-name).can_next l.name-iterator
    × (goal.iterator-loop-name).is_finite l.name-iterator
    × (map (λ f. (f.0.items, f.1.items)) l.kept.items
    ++ onward_fields l.is_counted (map (λ f. (f.0.items, f.1.items)) (into_iter_items l.name-iterator))
    ≡ onward_fields l.is_counted (map (λ f. (f.0.items, f.1.items)) l.fn.fields.items))
