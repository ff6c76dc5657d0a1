use Rattle.std.proofs.Common.{◌≡◌, drop}
use Rattle.http_rules.specs.Directives.{has_unclosed}
use Rattle.http_rules.specs.Validators.{stored_fields}
use Rattle.http_rules.proofs.named_directive.has_stored_unclosed.Given as goal

abbrev pub invariant-loop-i : goal.invariant-loop-i
invariant-loop-i l = has_unclosed (stored_fields l.object) ≡ has_unclosed (stored_fields (drop l.i l.object))
