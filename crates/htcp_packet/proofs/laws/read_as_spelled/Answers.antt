use Rattle.htcp_packet.proofs.Agreed.{agreed}
use Rattle.htcp_packet.proofs.laws.read_as_spelled.Goals as goal

pub returns : goal.returns
returns c = agreed
