use Rattle.std.proofs.Common.{◌≡◌, map, codes}
use Rattle.std.specs.List.{list_any}
use Rattle.http_rules.specs.Fields.{fields_of, values_of}
use Rattle.http_rules.specs.Passing.{hops, is_zero}
use Rattle.http_rules.proofs.passing.has_no_hops.Given as goal

abbrev pub invariant-loop-value : goal.invariant-loop-value
invariant-loop-value l =
    (goal.iterator-loop-value).can_next l.value-iterator
    × (goal.iterator-loop-value).is_finite l.value-iterator
    × (list_any (λ value. is_zero (hops value)) (values_of (codes "max-forwards") (fields_of l.head)) ≡ list_any (λ value. is_zero (hops value)) (map (λ v. v.bytes) l.value-iterator))
