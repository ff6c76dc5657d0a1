use Rattle.bpf_check.proofs.Decided.{refuses_first, refuses_unaccepted}
use Rattle.bpf_check.proofs.laws.refusal_is_the_first_fault.Goals as goal

pub returns : goal.returns
returns c = record { first = refuses_first; none = refuses_unaccepted }
