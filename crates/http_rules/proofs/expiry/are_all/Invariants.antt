use Rattle.std.proofs.Common.{◌≡◌, map, bytes_eq}
use Rattle.std.specs.List.{list_all}
use Rattle.http_rules.specs.Fields.{fields_of, values_of}
use Rattle.http_rules.proofs.expiry.are_all.Given as goal

abbrev pub invariant-loop-value : goal.invariant-loop-value
invariant-loop-value l =
    (goal.iterator-loop-value).can_next l.value-iterator
    × (goal.iterator-loop-value).is_finite l.value-iterator
    × (list_all (bytes_eq l.wanted) (values_of l.name (fields_of l.head)) ≡ list_all (bytes_eq l.wanted) (map (λ v. v.bytes) l.value-iterator))
