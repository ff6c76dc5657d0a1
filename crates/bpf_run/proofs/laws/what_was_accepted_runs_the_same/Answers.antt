use Rattle.bpf_run.proofs.Kept.{still_accepted, same_chain, same_verdict_given}
use Rattle.bpf_run.proofs.laws.what_was_accepted_runs_the_same.Goals as goal

pub returns-clause-accepted : goal.returns-clause-accepted
returns-clause-accepted c = still_accepted

pub returns-clause-chains : goal.returns-clause-chains
returns-clause-chains c = same_chain

pub returns-clause-gives : goal.returns-clause-gives
returns-clause-gives c = same_verdict_given
