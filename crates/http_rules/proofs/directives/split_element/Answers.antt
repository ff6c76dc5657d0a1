use Rattle.std.proofs.Common.{arith}
use Rattle.http_rules.proofs.Elements.{first_element, only_element}
use Rattle.http_rules.proofs.directives.split_element.Goals as goal

pub returns-then-end-text-clause-value : goal.returns-then-end-text-clause-value
returns-then-end-text-clause-value c =
    rw c.split_at.ensures.back (first_element c.args.text.now c.element_len-end.result c.element_len-end.ensures.value (omega arith))

pub returns-else-end-text-clause-value : goal.returns-else-end-text-clause-value
returns-else-end-text-clause-value c = only_element c.args.text.now c.element_len-end.result c.element_len-end.ensures.value (omega arith)
