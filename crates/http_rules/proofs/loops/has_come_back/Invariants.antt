use Rattle.std.proofs.Common.{◌≡◌, map, codes}
use Rattle.std.specs.List.{list_any}
use Rattle.http_rules.specs.Fields.{fields_of, values_of}
use Rattle.http_rules.specs.Loops.{has_mark}
use Rattle.http_rules.proofs.loops.has_come_back.Given as goal

abbrev pub invariant-loop-value : goal.invariant-loop-value
invariant-loop-value l =
    (goal.iterator-loop-value).can_next l.value-iterator
    × (goal.iterator-loop-value).is_finite l.value-iterator
    × (list_any (has_mark l.mark) (values_of (codes "cdn-loop") (fields_of l.head)) ≡ list_any (has_mark l.mark) (map (λ v. v.bytes) l.value-iterator))
