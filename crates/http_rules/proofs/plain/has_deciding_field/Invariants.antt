use Rattle.std.proofs.Common.{◌≡◌, map}
use Rattle.std.specs.List.{list_any}
use Rattle.http_rules.specs.Fields.{Field, fields_of}
use Rattle.http_rules.specs.Plain.{decides}
use Rattle.http_rules.proofs.plain.has_deciding_field.Given as goal

abbrev pub invariant-loop-name : goal.invariant-loop-name
invariant-loop-name l =
    (goal.iterator-loop-name).can_next l.name-iterator
    × (goal.iterator-loop-name).is_finite l.name-iterator
    × (list_any (λ (f : Field). decides f.0) (fields_of l.head) ≡ list_any (λ (f : Field). decides f.0) (map (λ p. (p.0, p.1.bytes)) l.name-iterator))
