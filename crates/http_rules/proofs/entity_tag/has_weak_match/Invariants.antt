use Rattle.std.proofs.Common.{◌≡◌}
use Rattle.std.specs.List.{list_any}
use Rattle.std.specs.Option.{option_copied}
use Rattle.http_rules.specs.Elements.{octets_left}
use Rattle.http_rules.specs.EntityTags.{has_weak_match, match_weakly, tag_elements_left}
use Rattle.http_rules.specs.Text.{trimmed}
use Rattle.http_rules.proofs.entity_tag.has_weak_match.Given as goal

abbrev pub invariant-loop-rest : goal.invariant-loop-rest
invariant-loop-rest l =
    has_weak_match l.tag l.value ≡ list_any (λ element. match_weakly l.tag (trimmed element)) (tag_elements_left (option_copied l.rest))

abbrev pub decreases-loop-rest : goal.decreases-loop-rest
decreases-loop-rest l = octets_left (option_copied l.rest)
