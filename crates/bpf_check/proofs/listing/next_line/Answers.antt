use Rattle.std.proofs.Common.{refl, sym, ◌∙◌, ◌<◌, length, arith}
use Rattle.std.proofs.lemmas.Bool.Decides.{nat_tests}
use Rattle.bpf_check.proofs.ListingText.{line_cut, line_last}
use Rattle.bpf_check.proofs.listing.next_line.Goals as goal

pub returns-in_default-clause-lines : goal.returns-in_default-clause-lines
returns-in_default-clause-lines c =
    let some : 0 < length c.args.text.now = grind (arith, nat_tests) in
    line_last c.args.text.now (sym c.line_feed_in.ensures ∙ c.in_default.is) some

pub returns-clause-lines : goal.returns-clause-lines
returns-clause-lines c = line_cut c.args.text.now c.stripped.result.now _ c.in-Some.end (sym c.line_feed_in.ensures ∙ c.in-Some.is) c.stripped.ensures refl
