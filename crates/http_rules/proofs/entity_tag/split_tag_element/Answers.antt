use Rattle.std.proofs.Common.{arith}
use Rattle.http_rules.proofs.TagElements.{first_tag, only_tag}
use Rattle.http_rules.proofs.entity_tag.split_tag_element.Goals as goal

pub returns-then-end-text-clause-value : goal.returns-then-end-text-clause-value
returns-then-end-text-clause-value c =
    rw c.split_at.ensures.back (first_tag c.args.text.now c.tag_element_len-end.result c.tag_element_len-end.ensures.value (omega arith))

pub returns-else-end-text-clause-value : goal.returns-else-end-text-clause-value
returns-else-end-text-clause-value c = only_tag c.args.text.now c.tag_element_len-end.result c.tag_element_len-end.ensures.value (omega arith)
