use Rattle.std.proofs.Common.{◌≡◌, map, codes}
use Rattle.std.specs.List.{list_any}
use Rattle.http_rules.specs.Fields.{fields_of, values_of}
use Rattle.http_rules.specs.Forbidding.{forbids_in}
use Rattle.http_rules.proofs.forbidding.forbids.Given as goal

abbrev pub invariant-loop-value : goal.invariant-loop-value
invariant-loop-value l =
    (goal.iterator-loop-value).can_next l.value-iterator
    × (goal.iterator-loop-value).is_finite l.value-iterator
    × (list_any (forbids_in l.name) (values_of (codes "cache-control") (fields_of l.head)) ≡ list_any (forbids_in l.name) (map (λ v. v.bytes) l.value-iterator))
