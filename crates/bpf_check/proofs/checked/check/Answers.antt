use Rattle.bpf_check.proofs.RefusalLemmas.{accepted-none, first-some}
use Rattle.bpf_check.proofs.Faults.{accepted_has_none}
use Rattle.bpf_check.proofs.checked.check.Goals as goal

pub returns-in-Some-clause-accepts : goal.returns-in-Some-clause-accepts
returns-in-Some-clause-accepts c = (
  λ no. absurd (cc),
  λ accepted. absurd (accepted_has_none c.deref.result.now c.in-Some.fault (rw c.deref.ensures.value accepted) c.in-Some.ensures.some.has),
)

pub returns-in-None-clause-program_fault : goal.returns-in-None-clause-program_fault
returns-in-None-clause-program_fault c = accepted-none c.args.insns.items (rw (← c.deref.ensures.value) c.in-None.ensures.none)

pub returns-in-Some-clause-program_fault : goal.returns-in-Some-clause-program_fault
returns-in-Some-clause-program_fault c = first-some c.args.insns.items c.in-Some.fault (rw (← c.deref.ensures.value) c.in-Some.ensures.some)
