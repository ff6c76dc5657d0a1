use Rattle.std.proofs.Common.{ℕ, ◌-◌, ◌<◌, length}
use Rattle.bpf_run.proofs.Chains.{Reaches}
use Rattle.bpf_run.proofs.interpreter.judge_with_end.Given as goal

-- the chain so far
abbrev pub invariant-run : goal.invariant-run
invariant-run l = record {
  steps : ℕ;
  reaches : Reaches l.insns l.packet steps (record { place = l.place; machine = l.machine });
  inside : l.place < length l.insns;
}

abbrev pub decreases-run : goal.decreases-run
decreases-run l = length l.insns - l.place
