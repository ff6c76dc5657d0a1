use Rattle.icp_packet.proofs.MessageOf.{one_message}
use Rattle.icp_packet.proofs.laws.one_message.Goals as goal

pub returns : goal.returns
returns c = one_message
