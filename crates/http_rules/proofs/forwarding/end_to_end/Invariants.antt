use Rattle.std.proofs.Common.{◌≡◌, ◌++◌, map, filter, not}
use Rattle.http_rules.specs.Fields.{fields_of}
use Rattle.http_rules.specs.Forwarding.{end_to_end, is_hop_by_hop}
use Rattle.http_rules.proofs.forwarding.end_to_end.Given as goal

abbrev pub invariant-loop-name : goal.invariant-loop-name
invariant-loop-name l =
    (goal.iterator-loop-name).can_next l.name-iterator
    × (goal.iterator-loop-name).is_finite l.name-iterator
    × (map (λ f. (f.0.items, f.1.items)) l.kept.items
    ++ filter (λ f. not (is_hop_by_hop (fields_of l.head) f.0)) (map (λ p. (p.0, p.1.bytes)) l.name-iterator)
    ≡ end_to_end (fields_of l.head))
