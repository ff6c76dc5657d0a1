use Rattle.std.proofs.Common.{◌≡◌, ◌++◌}
use Rattle.std.specs.Option.{option_copied}
use Rattle.http_rules.specs.Validators.{stored_fields, only_of, only_value}
use Rattle.http_rules.proofs.StoredValues.{as_list, values_from}
use Rattle.http_rules.proofs.validators.stored_value.Given as goal

abbrev pub invariant-loop-i : goal.invariant-loop-i
invariant-loop-i l = only_value l.name (stored_fields l.object) ≡ only_of (as_list (option_copied l.found) ++ values_from l.name l.i l.object)
