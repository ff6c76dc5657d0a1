use Rattle.std.proofs.Common.{◌++◌, ℕ, List}
use Rattle.std.specs.Option.{option_copied}
use Rattle.http_rules.specs.Forwarding.{options_in}
use Rattle.http_rules.specs.Elements.{octets_left}
use Rattle.http_rules.specs.Options.{Collects, options_left}
use Rattle.http_rules.proofs.options.Options.add_value.Given as goal

abbrev pub invariant-loop-rest : goal.invariant-loop-rest
invariant-loop-rest l =
    (more whole : List (List ℕ)) → Collects l.fn.self (options_in l.value ++ more) whole
    → Collects l.self (options_left (option_copied l.rest) ++ more) whole

abbrev pub decreases-loop-rest : goal.decreases-loop-rest
decreases-loop-rest l = octets_left (option_copied l.rest)
