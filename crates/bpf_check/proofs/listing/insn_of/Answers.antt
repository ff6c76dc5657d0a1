use Rattle.std.proofs.Common.{refl}
use Rattle.bpf_check.proofs.ListingNumbers.{four_large}
use Rattle.bpf_check.proofs.listing.insn_of.Goals as goal

pub returns-in-None : goal.returns-in-None
returns-in-None c = (refl, four_large c.args.line.now _ _ _ _ c.in-Some.ensures c.in-None.ensures)
