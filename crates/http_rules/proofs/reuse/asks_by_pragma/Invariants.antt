use Rattle.std.proofs.Common.{◌≡◌, map, codes}
use Rattle.std.specs.List.{list_any}
use Rattle.http_rules.specs.Fields.{fields_of, values_of}
use Rattle.http_rules.specs.Reuse.{may_have_no_cache}
use Rattle.http_rules.proofs.reuse.asks_by_pragma.Given as goal

abbrev pub invariant-loop-value : goal.invariant-loop-value
invariant-loop-value l =
    (goal.iterator-loop-value).can_next l.value-iterator
    × (goal.iterator-loop-value).is_finite l.value-iterator
    × (list_any may_have_no_cache (values_of (codes "pragma") (fields_of l.head)) ≡ list_any may_have_no_cache (map (λ v. v.bytes) l.value-iterator))
