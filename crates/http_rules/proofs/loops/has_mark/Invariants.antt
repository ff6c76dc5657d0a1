use Rattle.std.proofs.Common.{◌≡◌, bytes_eq}
use Rattle.std.specs.List.{list_any}
use Rattle.std.specs.Option.{option_copied}
use Rattle.http_rules.specs.declared.directives.Place.TheVariants.{Plain}
use Rattle.http_rules.specs.Elements.{elements_left, octets_left}
use Rattle.http_rules.specs.Loops.{has_mark, without_blanks}
use Rattle.http_rules.proofs.loops.has_mark.Given as goal

abbrev pub invariant-loop-rest : goal.invariant-loop-rest
invariant-loop-rest l =
    has_mark l.mark l.value
    ≡ list_any (λ element. bytes_eq (without_blanks Plain element) l.mark) (elements_left (option_copied l.rest))

abbrev pub decreases-loop-rest : goal.decreases-loop-rest
decreases-loop-rest l = octets_left (option_copied l.rest)
