-- The verdict as a function, for definitions about many packets.
-- A lemma in src/laws.rt states that for accepted programs it is the verdict of the program's run.
use Rattle.std.specs.Prelude.{ℕ, zero, suc, ◌+◌, List, length, Option, Some, None}
use Rattle.bpf_check.specs.declared.insn.Insn.{Insn}
use Rattle.bpf_run.specs.declared.machine.Step.{Step}
use Rattle.bpf_run.specs.declared.machine.Step.TheVariants.{Next, Skip, End}
use Rattle.bpf_run.specs.Start.{start}
use Rattle.bpf_run.specs.Chain.{Point, leads}

-- the value of a run, and its number of steps
pub record Answer : Type 0 where
  pub value : ℕ
  pub steps : ℕ

-- how a run continues from a state whose instruction has this effect
abbrev pub after : Option Step → Point → (ℕ → Point → Answer) → ℕ → Answer
after None at go steps = record { value = 0; steps = steps }
after (Some (Next machine)) at go steps = go (steps + 1) (record { place = at.place + 1; machine = machine })
after (Some (Skip distance)) at go steps = go (steps + 1) (record { place = at.place + 1 + distance; machine = at.machine })
after (Some (End value)) at go steps = record { value = value; steps = steps + 1 }

-- the result of a run that continues from a state, for at most the given number of instructions
unfoldable pub answer_from : List Insn → List ℕ → ℕ → ℕ → Point → Answer
answer_from p packet zero steps at = record { value = 0; steps = steps }
answer_from p packet (suc n) steps at = after (leads p packet at) at (answer_from p packet n) steps

-- the result of a program's run, which takes at most one step per instruction
unfoldable pub answer_of : List Insn → List ℕ → Answer
answer_of p packet = answer_from p packet (length p) 0 (record { place = 0; machine = start })

-- the value of a program's run
unfoldable pub verdict_of : List Insn → List ℕ → ℕ
verdict_of p packet = (answer_of p packet).value

-- the number of steps of a program's run
unfoldable pub steps_of : List Insn → List ℕ → ℕ
steps_of p packet = (answer_of p packet).steps
