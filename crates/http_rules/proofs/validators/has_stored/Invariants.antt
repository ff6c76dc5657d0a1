use Rattle.std.proofs.Common.{◌≡◌, drop}
use Rattle.http_rules.specs.Fields.{has_field}
use Rattle.http_rules.specs.Validators.{stored_fields}
use Rattle.http_rules.proofs.validators.has_stored.Given as goal

abbrev pub invariant-loop-i : goal.invariant-loop-i
invariant-loop-i l = has_field l.name (stored_fields l.object) ≡ has_field l.name (stored_fields (drop l.i l.object))
