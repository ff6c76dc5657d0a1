use Rattle.std.proofs.Common.{refl, sym, ◌∙◌}
use Rattle.bpf_check.proofs.ListingText.{word_none, word_cut, word_last}
use Rattle.bpf_check.proofs.listing.next_word.Goals as goal

pub returns-in_default : goal.returns-in_default
returns-in_default c = word_none c.args.line.now (sym c.text_in.ensures ∙ c.in_default.is)

pub returns-in_default-blank_in : goal.returns-in_default-blank_in
returns-in_default-blank_in c = word_last c.args.line.now _ c.in-Some.start (sym c.text_in.ensures ∙ c.in-Some.is) refl (sym c.blank_in.ensures ∙ c.in_default-blank_in.is)

pub returns : goal.returns
returns c = word_cut c.args.line.now _ _ c.in-Some.start c.in-Some-blank_in.end (sym c.text_in.ensures ∙ c.in-Some.is) refl (sym c.blank_in.ensures ∙ c.in-Some-blank_in.is) refl
