use Rattle.std.proofs.Common.{◌≡◌, ◌++◌, filter, not}
use Rattle.std.specs.Vec.Iter.{into_iter_items}
use Rattle.http_rules.specs.Updating.{is_of_body}
use Rattle.http_rules.specs.Validators.{stored_fields}
use Rattle.http_rules.proofs.updating.provided.Given as goal

abbrev pub invariant-loop-name : goal.invariant-loop-name
invariant-loop-name l =
    (goal.iterator-loop-name).can_next l.name-iterator
    × (goal.iterator-loop-name).is_finite l.name-iterator
    × (stored_fields l.kept.items
    ++ filter (λ f. not (is_of_body f.0)) (stored_fields (into_iter_items l.name-iterator))
    ≡ filter (λ f. not (is_of_body f.0)) (stored_fields l.fn.fields.items))
