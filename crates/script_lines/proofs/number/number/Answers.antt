use Rattle.std.proofs.Common.{sym, ◌∙◌, arith}
use Rattle.script_lines.proofs.NumberLemmas.{number_stops, number_after-whole}
use Rattle.script_lines.proofs.number.number.Goals as goal

pub loop-c-init : goal.loop-c-init
loop-c-init c = number_after-whole c.args.most c.args.text.now (sym c.is_empty.ensures ∙ c.if-is_empty.false)

pub returns-in_err-checked_mul-clause-value : goal.returns-in_err-checked_mul-clause-value
returns-in_err-checked_mul-clause-value c =
    c.from_residual.ensures ∙ sym (number_stops c.args.most c.loop-c.n c.args.text.now c.loop-c.c-index (omega arith) (omega (arith, c.in_err-checked_mul.ensures))) ∙ c.loop-c.invariant

pub returns-in_err-n-clause-value : goal.returns-in_err-n-clause-value
returns-in_err-n-clause-value c =
    c.from_residual-in_err-n.ensures ∙ sym (number_stops c.args.most c.loop-c.n c.args.text.now c.loop-c.c-index (omega arith) (omega (arith, c.in_err-n.ensures))) ∙ c.loop-c.invariant
