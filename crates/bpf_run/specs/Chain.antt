-- Whole runs of a program, as chains of states in which each follows from the one before.
-- A program gives a value after n steps if there is a chain of n states, the last of which ends the run with the value.
use Rattle.std.specs.Prelude.{◌≡◌, ℕ, ◌+◌, ◌-◌, ◌<◌, ◌≤◌, List, length, Option, Some, None, slice_get}
use Rattle.bpf_check.specs.declared.insn.Insn.{Insn}
use Rattle.bpf_run.specs.declared.machine.Machine.{Machine}
use Rattle.bpf_run.specs.declared.machine.Step.{Step}
use Rattle.bpf_run.specs.declared.machine.Step.TheVariants.{Next, Skip, End}
use Rattle.bpf_run.specs.Start.{start}
use Rattle.bpf_run.specs.Machine.{effect}

-- a state of a run: an instruction index, and the machine before that instruction
pub record Point : Type 0 where
  pub place : ℕ
  pub machine : Machine

-- the effect of the instruction, if there is one
abbrev pub effect_if : Option Insn → List ℕ → Machine → Option Step
effect_if None packet m = None
effect_if (Some i) packet m = effect i packet m

-- the effect of the instruction at a state of a run
abbrev pub leads : List Insn → List ℕ → Point → Option Step
leads p packet from = effect_if (slice_get p from.place) packet from.machine

-- the second state follows from the first by this effect
abbrev pub Follows : Option Step → Point → Point → Type 0
Follows (Some (Next after)) from to = to ≡ record { place = from.place + 1; machine = after }
Follows (Some (Skip distance)) from to = to ≡ record { place = from.place + 1 + distance; machine = from.machine }
Follows (Some (End value)) from to = ⊥
Follows None from to = ⊥

-- the chain begins with the start state, each state follows from the one before, and all are inside the program
pub record IsChain (p : List Insn) (packet : List ℕ) (chain : List Point) : Type 0 where
  pub starts : slice_get chain 0 ≡ Some (record { place = 0; machine = start })
  pub follows : (k : ℕ) (from to : Point) → slice_get chain k ≡ Some from → slice_get chain (k + 1) ≡ Some to → Follows (leads p packet from) from to
  pub inside : (k : ℕ) (at : Point) → slice_get chain k ≡ Some at → at.place < length p

-- there is a chain of `steps` states, the last of which ends the run with the value
pub record Gives (p : List Insn) (packet : List ℕ) (value steps : ℕ) : Type 0 where
  pub chain : List Point
  pub is_chain : IsChain p packet chain
  pub long : length chain ≡ steps
  pub last : Point
  pub at_end : slice_get chain (steps - 1) ≡ Some last
  pub ends : leads p packet last ≡ Some (End value)

-- the run has exactly one value and one number of steps, which is at most the number of instructions
pub record EndsOnce (p : List Insn) (packet : List ℕ) : Type 0 where
  pub value : ℕ
  pub steps : ℕ
  pub gives : Gives p packet value steps
  pub within : steps ≤ length p
  pub only : (v n : ℕ) → Gives p packet v n → (v ≡ value) × (n ≡ steps)
