use Rattle.std.proofs.Common.{◌≡◌, drop}
use Rattle.http_rules.specs.Validators.{stored_fields}
use Rattle.proxy_state.specs.Objects.{head_and, head_with}
use Rattle.proxy_state.proofs.validating.head_with.Given as goal

abbrev pub invariant-loop-i : goal.invariant-loop-i
invariant-loop-i l = head_and l.head (stored_fields (drop l.i l.fields)) ≡ head_with (stored_fields l.fields)
