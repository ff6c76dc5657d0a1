use Rattle.std.proofs.Common.{◌≡◌, ℕ, ◌<◌}
use Rattle.bpf_check.proofs.Words.{insn_at}
use Rattle.bpf_check.proofs.checked.is_same_program.Given as goal

-- no difference has been found exactly if the instructions so far are equal
abbrev pub invariant-loop-place : goal.invariant-loop-place
invariant-loop-place l = record {
  same : l.differences ≡ 0 → (k : ℕ) → k < l.place → insn_at l.one k ≡ insn_at l.other k;
  none : l.one ≡ l.other → l.differences ≡ 0;
}
