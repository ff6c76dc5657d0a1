use Rattle.std.proofs.Common.{◌≡◌, ◌++◌, drop}
use Rattle.http_rules.specs.Updating.{staying}
use Rattle.http_rules.specs.Validators.{stored_fields}
use Rattle.http_rules.proofs.updating.staying.Given as goal

abbrev pub invariant-loop-i : goal.invariant-loop-i
invariant-loop-i l =
    stored_fields l.kept.items ++ staying (stored_fields l.fields) (stored_fields (drop l.i l.object))
    ≡ staying (stored_fields l.fields) (stored_fields l.object)
