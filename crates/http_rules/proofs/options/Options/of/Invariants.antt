use Rattle.std.proofs.Common.{map, flat_map}
use Rattle.http_rules.specs.Fields.{fields_of}
use Rattle.http_rules.specs.Forwarding.{options, options_in}
use Rattle.http_rules.specs.Options.{Collects}
use Rattle.http_rules.proofs.options.Options.of.Given as goal

abbrev pub invariant-loop-value : goal.invariant-loop-value
invariant-loop-value l =
    (goal.iterator-loop-value).can_next l.value-iterator
    × (goal.iterator-loop-value).is_finite l.value-iterator
    × Collects l.found (flat_map options_in (map (λ v. v.bytes) l.value-iterator)) (options (fields_of l.head))
