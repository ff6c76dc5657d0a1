use Rattle.std.proofs.Common.{arith}
use Rattle.htcp_packet.proofs.Whole.{found, read_again}
use Rattle.htcp_packet.proofs.Agreed.{value_agreed}
use Rattle.htcp_packet.proofs.reading.decode.Goals as goal

pub returns-clause-found : goal.returns-clause-found
returns-clause-found c = found c.args.datagram.now c.read.result (λ i. omega (arith, c.type_inv.datagram i)) c.read.ensures

pub returns-clause-only : goal.returns-clause-only
returns-clause-only c = read_again c.args.datagram.now c.read.result (λ i. omega (arith, c.type_inv.datagram i)) c.read.ensures

pub returns-clause-value : goal.returns-clause-value
returns-clause-value c = value_agreed c.args.datagram.now c.read.result (λ i. omega (arith, c.type_inv.datagram i)) c.read.ensures
