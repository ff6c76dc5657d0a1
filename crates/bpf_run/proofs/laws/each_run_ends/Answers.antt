use Rattle.bpf_run.proofs.EachEnds.{ends_once}
use Rattle.bpf_run.proofs.laws.each_run_ends.Goals as goal

pub returns : goal.returns
returns c = ends_once
