use Rattle.std.proofs.Common.{◌*◌, ◌^◌, ◌-◌, ◌∙◌, get_or, arith}
use Rattle.bpf_asm.specs.Number.{digit_value}
use Rattle.bpf_asm.proofs.Values.{value_step, cut_sum}
use Rattle.bpf_asm.proofs.number.value_of.Goals as goal

pub loop-c-preserved : goal.loop-c-preserved
loop-c-preserved c =
    let i = c.loop-c.c-index in
    let w = c.args.digits.now in
    let base = c.args.base in
    record {
      same = value_step base (2 ^ 64 - 1) c.saturating_add-n.result c.loop-c.n w i (omega arith) (omega arith)
          (cut_sum (c.loop-c.n * base) (digit_value (get_or w i 0)) c.saturating_mul.result c.digit_of.result c.saturating_add-n.result c.saturating_mul.ensures c.digit_of.ensures c.saturating_add-n.ensures)
          ∙ c.loop-c.invariant.same;
      small = c.saturating_add-n.type_inv;
    }
