use Rattle.peer_select.proofs.Bits.{with_bits}
use Rattle.peer_select.proofs.set.PeerSet.with.Goals as goal

pub returns : goal.returns
returns c = λ k. with_bits c.args.self.bits c.args.n k c.requires
