use Rattle.std.proofs.Common.{arith, tests}
use Rattle.script_lines.proofs.FieldLemmas.{words_of_other, words_of_eight}
use Rattle.script_lines.proofs.command.line_of.Goals as goal

pub returns-in_default-clause-line : goal.returns-in_default-clause-line
returns-in_default-clause-line c = words_of_other c.args.fields.now (search (arith, tests)) (search (arith, tests)) (search (arith, tests)) (search (arith, tests)) (search (arith, tests)) (search (arith, tests)) (search (arith, tests))

pub returns-in-len8-clause-line : goal.returns-in-len8-clause-line
returns-in-len8-clause-line c = words_of_eight c.args.fields.now c.eight_words.result _ (search (arith, tests)) c.eight_words.ensures.line
