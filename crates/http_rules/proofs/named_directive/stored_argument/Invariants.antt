use Rattle.std.proofs.Common.{◌≡◌, drop}
use Rattle.http_rules.specs.Directives.{argument}
use Rattle.http_rules.specs.Validators.{stored_fields}
use Rattle.http_rules.proofs.named_directive.stored_argument.Given as goal

abbrev pub invariant-loop-i : goal.invariant-loop-i
invariant-loop-i l = argument l.name (stored_fields l.object) ≡ argument l.name (stored_fields (drop l.i l.object))
