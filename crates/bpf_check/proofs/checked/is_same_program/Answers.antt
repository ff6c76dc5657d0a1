use Rattle.std.proofs.Common.{◌≡◌, ℕ, ◌∙◌, sym, ap, subst, inl, inr, bit_or, bit_xor, arith}
use Rattle.std.proofs.lemmas.Bool.{cases_lt}
use Rattle.std.proofs.lemmas.Bool.Decides.{nat_tests}
use Rattle.std.proofs.lemmas.List.{ext_get_or}
use Rattle.bpf_check.proofs.Words.{blank, insn_at, word_of, same_word, none_before, none_here, still_none}
use Rattle.bpf_check.proofs.checked.is_same_program.Goals as goal

pub loop-place-preserved : goal.loop-place-preserved
loop-place-preserved c =
    let one = c.args.one.now in
    let other = c.args.other.now in
    let place = c.loop-place.place in
    let a = c.word.result in
    let b = c.word-in-loop-place.result in
    let here : bit_or c.loop-place.differences (bit_xor a b) ≡ 0 → insn_at one place ≡ insn_at other place =
    λ none. same_word (insn_at one place) (insn_at other place) c.word.ensures.range c.word-in-loop-place.ensures.range
    (sym c.word.ensures.value ∙ none_here c.loop-place.differences a b none ∙ c.word-in-loop-place.ensures.value) in
    record {
      same = λ none k below.
          elim (cases_lt k place) [
            | inl before ↦ c.loop-place.invariant.same (none_before c.loop-place.differences a b none) k before
            | inr behind ↦ let is : place ≡ k = omega (arith, below, behind) in subst (λ (n : ℕ). insn_at one n ≡ insn_at other n) is (here none)
          ];
      none = λ e. still_none c.loop-place.differences a b (c.loop-place.invariant.none e)
          (c.word.ensures.value ∙ ap (λ p. word_of (insn_at p place)) e ∙ sym c.word-in-loop-place.ensures.value);
    }

pub returns : goal.returns
returns c = (
  λ yes. let none : c.loop-place.differences ≡ 0 = grind (arith, nat_tests) in
      ext_get_or blank c.args.one.now c.args.other.now c.if-one-other.false
      (λ i below. c.loop-place.invariant.same none i (omega (arith, below, c.loop-place-test.false))),
  λ e. let none : c.loop-place.differences ≡ 0 = c.loop-place.invariant.none e in grind (arith, nat_tests),
)
