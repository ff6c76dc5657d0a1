use Rattle.std.proofs.Common.{◌++◌, ◌∷◌, [], length, ◌-◌, ◌<◌}
use Rattle.bpf_run.specs.Chain.{IsChain}
use Rattle.bpf_run.proofs.states.run_states.Given as goal

-- the states so far and the present one are a chain
abbrev pub invariant-run : goal.invariant-run
invariant-run l = record {
  is_chain : IsChain l.insns l.packet (l.states.items ++ record { place = l.place; machine = l.machine } ∷ []);
  inside : l.place < length l.insns;
}

abbrev pub decreases-run : goal.decreases-run
decreases-run l = length l.insns - l.place
