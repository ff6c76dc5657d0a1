-- How the interpreter's outcome and its updated machine represent the effect of an instruction. No public contract depends on it.
use Rattle.std.specs.Prelude.{◌≡◌, Option, Some}
use Rattle.bpf_run.specs.declared.machine.Machine.{Machine}
use Rattle.bpf_run.specs.declared.machine.Step.{Step}
use Rattle.bpf_run.specs.declared.machine.Step.TheVariants as step
use Rattle.bpf_run.specs.declared.machine.Outcome.{Outcome}
use Rattle.bpf_run.specs.declared.machine.Outcome.TheVariants.{Next, Skip, End}

-- the effect is this outcome, with `old` and `new` as the machine before and after the instruction
abbrev pub Leads : Option Step → Outcome → Machine → Machine → Type 0
Leads led Next old new = led ≡ Some (step.Next new)
Leads led (Skip distance) old new = (led ≡ Some (step.Skip distance)) × (new ≡ old)
Leads led (End value) old new = led ≡ Some (step.End value)
