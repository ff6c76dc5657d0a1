use Rattle.access_log.proofs.CleanAddress.{clean_octets}
use Rattle.access_log.proofs.printable.octets_are_printable.Goals as goal

pub returns : goal.returns
returns c = clean_octets c.args.octets
