use Rattle.bpf_check.specs.Listing.{words}
use Rattle.bpf_check.proofs.ListingNumbers.{two_words}
use Rattle.bpf_check.proofs.listing.only_number.Goals as goal

pub returns-else-is_empty_line : goal.returns-else-is_empty_line
returns-else-is_empty_line c = two_words c.args.line.now (words c.in_ok-n.rest.now) c.in_ok-n.n c.in_ok-n.ensures (λ e. (let f = c.is_empty_line.ensures.1 e in let b = c.if-is_empty_line.false in cc))
