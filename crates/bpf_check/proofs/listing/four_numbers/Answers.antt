use Rattle.bpf_check.proofs.ListingNumbers.{five_words}
use Rattle.bpf_check.proofs.listing.four_numbers.Goals as goal

pub returns-else-is_empty_line : goal.returns-else-is_empty_line
returns-else-is_empty_line c = five_words c.args.line.now _ _ _ _ _ _ _ _ c.in_ok-code.ensures c.in_ok-jt.ensures c.in_ok-jf.ensures c.in_ok-k.ensures (λ e. (let f = c.is_empty_line.ensures.1 e in let b = c.if-is_empty_line.false in cc))
