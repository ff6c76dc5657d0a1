use Rattle.peer_select.proofs.Bits.{within_bits}
use Rattle.peer_select.proofs.set.are_within.Goals as goal

pub returns : goal.returns
returns c = within_bits c.args.bits c.args.others c.ranges.bits.fits c.ranges.others.fits
