use Rattle.std.proofs.Common.{sym, ◌∙◌, refl}
use Rattle.bpf_asm.proofs.TokenLemmas.{word_cut, word_alone}
use Rattle.bpf_asm.proofs.token.split_word.Goals as goal

pub returns-in_default : goal.returns-in_default
returns-in_default c = word_alone c.args.text.now c.requires (sym c.word_end_in.ensures ∙ c.in_default.is)

pub returns : goal.returns
returns c = word_cut c.args.text.now _ c.in-Some.end c.requires (sym c.word_end_in.ensures ∙ c.in-Some.is) refl
