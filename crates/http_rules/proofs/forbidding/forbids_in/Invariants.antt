use Rattle.std.proofs.Common.{◌≡◌}
use Rattle.std.specs.List.{list_any}
use Rattle.std.specs.Option.{option_copied}
use Rattle.http_rules.specs.Elements.{elements_left, octets_left}
use Rattle.http_rules.specs.Forbidding.{forbids_in, is_forbidding}
use Rattle.http_rules.proofs.forbidding.forbids_in.Given as goal

abbrev pub invariant-loop-rest : goal.invariant-loop-rest
invariant-loop-rest l = forbids_in l.name l.value ≡ list_any (is_forbidding l.name) (elements_left (option_copied l.rest))

abbrev pub decreases-loop-rest : goal.decreases-loop-rest
decreases-loop-rest l = octets_left (option_copied l.rest)
