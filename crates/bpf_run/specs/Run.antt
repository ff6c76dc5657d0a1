-- A whole run of a program: the chain of states up to the one whose instruction ends it.
use Rattle.std.specs.Prelude.{◌≡◌, ℕ, ◌-◌, List, length, Some, slice_get}
use Rattle.bpf_check.specs.declared.insn.Insn.{Insn}
use Rattle.bpf_run.specs.declared.machine.Step.TheVariants.{End}
use Rattle.bpf_run.specs.Chain.{Point, leads, IsChain}

-- the states are a chain, and the last one ends the run with the value
pub record IsRun (p : List Insn) (packet : List ℕ) (states : List Point) (value : ℕ) : Type 0 where
  pub is_chain : IsChain p packet states
  pub last : Point
  pub at_end : slice_get states (length states - 1) ≡ Some last
  pub ends : leads p packet last ≡ Some (End value)

-- the run ends at this place: it is that of its last state
pub record EndsAt (p : List Insn) (packet : List ℕ) (place : ℕ) : Type 0 where
  pub states : List Point
  pub value : ℕ
  pub run : IsRun p packet states value
  pub here : run.last.place ≡ place
