use Rattle.htcp_packet.proofs.Judged.{sealed_read, sealed_good}
use Rattle.htcp_packet.proofs.laws.verdict_of_signed.Goals as goal

pub returns-clause-read : goal.returns-clause-read
returns-clause-read c = sealed_read

pub returns-clause-good : goal.returns-clause-good
returns-clause-good c = sealed_good
