use Rattle.bpf_asm.proofs.TokenLaws.{comment_cut}
use Rattle.bpf_asm.proofs.laws.a_comment_has_no_token.Goals as goal

pub returns : goal.returns
returns c = comment_cut
