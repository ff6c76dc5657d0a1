use Rattle.std.proofs.Common.{◌≡◌}
use Rattle.std.specs.List.{list_all}
use Rattle.std.specs.Option.{option_copied}
use Rattle.http_rules.specs.Elements.{octets_left}
use Rattle.http_rules.specs.EntityTags.{is_list_element, is_tag_list, tag_elements_left}
use Rattle.http_rules.proofs.entity_tag.is_tag_list.Given as goal

abbrev pub invariant-loop-rest : goal.invariant-loop-rest
invariant-loop-rest l = is_tag_list l.value ≡ list_all is_list_element (tag_elements_left (option_copied l.rest))

abbrev pub decreases-loop-rest : goal.decreases-loop-rest
decreases-loop-rest l = octets_left (option_copied l.rest)
