use Rattle.icp_packet.proofs.Faults.{read_again, reads_same}
use Rattle.icp_packet.proofs.reading.decode.Goals as goal

pub returns-clause-only : goal.returns-clause-only
returns-clause-only c = read_again c.args.datagram.now c.read.result c.read.ensures

pub returns-clause-reading : goal.returns-clause-reading
returns-clause-reading c = reads_same c.args.datagram.now c.read.result c.read.ensures
