use Rattle.std.proofs.Common.{◌≡◌, ◌++◌}
use Rattle.std.specs.Vec.Iter.{into_iter_items}
use Rattle.http_rules.specs.Validators.{stored_fields}
use Rattle.http_rules.proofs.updating.joined.Given as goal

abbrev pub invariant-loop-field : goal.invariant-loop-field
invariant-loop-field l =
    (goal.iterator-loop-field).can_next l.field-iterator
    × (goal.iterator-loop-field).is_finite l.field-iterator
    × (stored_fields l.both.items ++ stored_fields (into_iter_items l.field-iterator)
    ≡ stored_fields l.fn.first.items ++ stored_fields l.fn.second.items)
