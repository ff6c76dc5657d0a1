use Rattle.wire_octets.proofs.Fields.{two_back, four_back}
use Rattle.wire_octets.proofs.laws.octets_from_their_number.Goals as goal

pub returns-clause-two : goal.returns-clause-two
returns-clause-two c = two_back

pub returns-clause-four : goal.returns-clause-four
returns-clause-four c = four_back
