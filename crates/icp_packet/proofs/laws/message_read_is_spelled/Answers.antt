use Rattle.icp_packet.proofs.MessageOf.{message_of-is, is_spelled}
use Rattle.icp_packet.proofs.laws.message_read_is_spelled.Goals as goal

pub returns : goal.returns
returns c = λ octets m. (is_spelled octets m, message_of-is octets m)
