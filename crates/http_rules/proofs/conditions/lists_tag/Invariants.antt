use Rattle.std.proofs.Common.{◌≡◌, map, codes}
use Rattle.std.specs.List.{list_any}
use Rattle.http_rules.specs.Fields.{fields_of, values_of}
use Rattle.http_rules.specs.EntityTags.{lists_weak_match}
use Rattle.http_rules.proofs.conditions.lists_tag.Given as goal

abbrev pub invariant-loop-value : goal.invariant-loop-value
invariant-loop-value l =
    (goal.iterator-loop-value).can_next l.value-iterator
    × (goal.iterator-loop-value).is_finite l.value-iterator
    × (list_any (lists_weak_match l.tag) (values_of (codes "if-none-match") (fields_of l.head)) ≡ list_any (lists_weak_match l.tag) (map (λ v. v.bytes) l.value-iterator))
