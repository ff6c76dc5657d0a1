use Rattle.std.proofs.Common.{arith}
use Rattle.http_rules.proofs.Collected.{first_part, only_part}
use Rattle.http_rules.proofs.options.split_part.Goals as goal

pub returns-then-end-text-clause-value : goal.returns-then-end-text-clause-value
returns-then-end-text-clause-value c =
    rw c.split_at.ensures.back (first_part c.args.text.now c.part_len-end.result c.part_len-end.ensures.value (omega arith))

pub returns-else-end-text-clause-value : goal.returns-else-end-text-clause-value
returns-else-end-text-clause-value c = only_part c.args.text.now c.part_len-end.result c.part_len-end.ensures.value (omega arith)
