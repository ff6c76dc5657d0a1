use Rattle.std.proofs.Common.{rules}
use Rattle.std.specs.Net.Addr.{ipv6_segments}
use Rattle.std.proofs.NetLemmas.Texts.{AllSegments}
use Rattle.access_log.proofs.CleanAddress.{clean_six}
use Rattle.access_log.proofs.printable.six_is_printable.Goals as goal

pub returns : goal.returns
returns c =
    let fits : AllSegments (ipv6_segments c.args.address) = search rules in
    clean_six (ipv6_segments c.args.address) fits
