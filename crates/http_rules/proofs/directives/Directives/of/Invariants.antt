use Rattle.std.proofs.Common.{◌≡◌, ◌||◌, map, flat_map}
use Rattle.std.specs.List.{list_any}
use Rattle.http_rules.specs.Fields.{fields_of}
use Rattle.http_rules.specs.Directives.{directives, directives_in, has_unclosed, is_unclosed}
use Rattle.http_rules.specs.Elements.{Completes}
use Rattle.http_rules.proofs.directives.Directives.of.Given as goal

abbrev pub invariant-loop-value : goal.invariant-loop-value
invariant-loop-value l =
    (goal.iterator-loop-value).can_next l.value-iterator
    × (goal.iterator-loop-value).is_finite l.value-iterator
    × Completes l.found (flat_map directives_in (map (λ v. v.bytes) l.value-iterator)) (directives (fields_of l.head))
    × (has_unclosed (fields_of l.head) ≡ (l.found.unclosed || list_any is_unclosed (map (λ v. v.bytes) l.value-iterator)))
