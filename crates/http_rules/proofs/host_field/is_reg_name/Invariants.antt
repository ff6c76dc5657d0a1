use Rattle.std.proofs.Common.{◌≡◌, drop}
use Rattle.http_rules.specs.HostFields.{is_reg_name}
use Rattle.http_rules.proofs.host_field.is_reg_name.Given as goal

abbrev pub invariant-loop-i : goal.invariant-loop-i
invariant-loop-i l = is_reg_name l.text ≡ is_reg_name (drop l.i l.text)
