use Rattle.std.proofs.Common.{◌≡◌, ◌+◌, drop, false}
use Rattle.http_rules.specs.EntityTags.{tag_element_len}
use Rattle.http_rules.proofs.entity_tag.tag_element_len.Given as goal

abbrev pub invariant-loop-i : goal.invariant-loop-i
invariant-loop-i l = tag_element_len false l.text ≡ l.i + tag_element_len l.is_quoted (drop l.i l.text)
