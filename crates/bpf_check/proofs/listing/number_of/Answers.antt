use Rattle.std.proofs.Common.{◌≡◌, ◌-◌, ◌^◌, get_or, ◌∙◌, sym, arith, rules, true}
use Rattle.bpf_check.proofs.ListingNumbers.{value_step, digits_step, value_all, digits_all, cut_sum}
use Rattle.bpf_check.proofs.listing.number_of.Goals as goal

pub loop-c-preserved : goal.loop-c-preserved
loop-c-preserved c =
    let i = c.loop-c.c-index in
    let w = c.args.word.now in
    let h = c.saturating_add-n.ensures in
    let g = c.saturating_mul.ensures in
    let f = c.from.ensures in
    let d = c.is_ascii_digit.ensures.value in
    let b : c.is_ascii_digit.result ≡ true = search rules in
    record {
      same = value_step (2 ^ 64 - 1) c.saturating_add-n.result c.loop-c.n w i (omega arith) (cut_sum c.loop-c.n (get_or w i 0 - 48) c.saturating_mul.result c.from.result c.saturating_add-n.result (omega (arith, c.type_inv.word i)) g f h) ∙ c.loop-c.invariant.same;
      digits = digits_step w i (omega arith) (sym d ∙ b) ∙ c.loop-c.invariant.digits;
      small = c.saturating_add-n.type_inv;
    }

pub returns : goal.returns
returns c =
    (sym c.loop-c.invariant.digits ∙ digits_all c.args.word.now c.loop-c.c-index (omega arith), value_all c.loop-c.n c.args.word.now c.loop-c.c-index (omega arith) c.loop-c.invariant.same c.loop-c.invariant.small)
