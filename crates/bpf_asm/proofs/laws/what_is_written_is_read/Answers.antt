use Rattle.bpf_asm.proofs.ReadBack.{written_read, same_read}
use Rattle.bpf_asm.proofs.laws.what_is_written_is_read.Goals as goal

pub returns-clause-cleared : goal.returns-clause-cleared
returns-clause-cleared c = written_read

pub returns-clause-same : goal.returns-clause-same
returns-clause-same c = same_read
