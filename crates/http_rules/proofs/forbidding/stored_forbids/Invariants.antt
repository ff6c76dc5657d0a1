use Rattle.std.proofs.Common.{◌≡◌, drop}
use Rattle.http_rules.specs.Forbidding.{forbids}
use Rattle.http_rules.specs.Validators.{stored_fields}
use Rattle.http_rules.proofs.forbidding.stored_forbids.Given as goal

abbrev pub invariant-loop-i : goal.invariant-loop-i
invariant-loop-i l = forbids l.name (stored_fields l.object) ≡ forbids l.name (stored_fields (drop l.i l.object))
