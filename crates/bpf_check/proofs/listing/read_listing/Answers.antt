use Rattle.bpf_check.proofs.ListingFaults.{only_answer}
use Rattle.std.specs.Str.Lines.{lines}
use Rattle.bpf_check.proofs.listing.read_listing.Goals as goal

pub returns-clause-only : goal.returns-clause-only
returns-clause-only c = λ p is. only_answer (λ v. v.items) c.read.result (lines c.args.text.now) c.read.ensures p is
