use Rattle.std.proofs.Common.{◌≡◌, drop}
use Rattle.http_rules.specs.Validators.{stored_fields}
use Rattle.proxy_state.specs.Objects.{has_date}
use Rattle.proxy_state.proofs.objects.has_date.Given as goal

abbrev pub invariant-loop-i : goal.invariant-loop-i
invariant-loop-i l = has_date (stored_fields l.fields) ≡ has_date (stored_fields (drop l.i l.fields))
