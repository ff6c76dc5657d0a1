use Rattle.std.proofs.Common.{◌≡◌, ◌<◌, ℕ, drop, length, false, ◌||◌, get_or}
use Rattle.bpf_asm.specs.Text.{is_target}
use Rattle.bpf_asm.proofs.text.marks_of.Given as goal

abbrev pub invariant-loop-at : goal.invariant-loop-at
invariant-loop-at l = record {
  each : length l.marks.items ≡ length l.insns;
  right : (place : ℕ) → place < length l.insns → (get_or l.marks.items place false || is_target place l.at (drop l.at l.insns)) ≡ is_target place 0 l.insns;
}
