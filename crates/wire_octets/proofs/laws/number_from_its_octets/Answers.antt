use Rattle.byteorder.specs.Numbers.{big_number-reads_back}
use Rattle.wire_octets.proofs.laws.number_from_its_octets.Goals as goal

pub returns : goal.returns
returns c = big_number-reads_back
