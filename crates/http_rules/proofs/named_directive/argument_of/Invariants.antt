use Rattle.std.proofs.Common.{◌≡◌, map, flat_map}
use Rattle.http_rules.specs.Fields.{fields_of}
use Rattle.http_rules.specs.Directives.{argument, directives_in, first_argument}
use Rattle.http_rules.proofs.named_directive.argument_of.Given as goal

abbrev pub invariant-loop-value : goal.invariant-loop-value
invariant-loop-value l =
    (goal.iterator-loop-value).can_next l.value-iterator
    × (goal.iterator-loop-value).is_finite l.value-iterator
    × (argument l.name (fields_of l.head) ≡ first_argument l.name (flat_map directives_in (map (λ v. v.bytes) l.value-iterator)))
