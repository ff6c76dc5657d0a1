use Rattle.std.proofs.Common.{◌++◌, ℕ, List}
use Rattle.std.specs.Option.{option_copied}
use Rattle.http_rules.specs.Directives.{directives_in}
use Rattle.http_rules.specs.Elements.{directives_left, octets_left, Completes}
use Rattle.http_rules.proofs.directives.Directives.and_directives.Given as goal

abbrev pub invariant-loop-rest : goal.invariant-loop-rest
invariant-loop-rest l =
    (more whole : List (List ℕ × List ℕ)) → Completes l.fn.self (directives_in l.value ++ more) whole
    → Completes l.found (directives_left (option_copied l.rest) ++ more) whole

abbrev pub decreases-loop-rest : goal.decreases-loop-rest
decreases-loop-rest l = octets_left (option_copied l.rest)
