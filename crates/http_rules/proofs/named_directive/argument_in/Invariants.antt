use Rattle.std.proofs.Common.{◌≡◌}
use Rattle.std.specs.Option.{option_copied}
use Rattle.http_rules.specs.Directives.{directives_in, first_argument}
use Rattle.http_rules.specs.Elements.{directives_left, octets_left}
use Rattle.http_rules.proofs.named_directive.argument_in.Given as goal

abbrev pub invariant-loop-rest : goal.invariant-loop-rest
invariant-loop-rest l = first_argument l.name (directives_in l.value) ≡ first_argument l.name (directives_left (option_copied l.rest))

abbrev pub decreases-loop-rest : goal.decreases-loop-rest
decreases-loop-rest l = octets_left (option_copied l.rest)
