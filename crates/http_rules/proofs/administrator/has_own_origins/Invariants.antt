use Rattle.std.proofs.Common.{◌≡◌, map, codes}
use Rattle.std.specs.List.{list_all}
use Rattle.http_rules.specs.Fields.{fields_of, values_of}
use Rattle.http_rules.specs.Administrator.{is_own_origin}
use Rattle.http_rules.proofs.administrator.has_own_origins.Given as goal

abbrev pub invariant-loop-value : goal.invariant-loop-value
invariant-loop-value l =
    (goal.iterator-loop-value).can_next l.value-iterator
    × (goal.iterator-loop-value).is_finite l.value-iterator
    × (list_all (is_own_origin l.port) (values_of (codes "origin") (fields_of l.head)) ≡ list_all (is_own_origin l.port) (map (λ v. v.bytes) l.value-iterator))
