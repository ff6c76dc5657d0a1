use Rattle.bpf_run.proofs.Given.{verdict_given}
use Rattle.bpf_run.proofs.laws.verdict_is_given.Goals as goal

pub returns : goal.returns
returns c = verdict_given
