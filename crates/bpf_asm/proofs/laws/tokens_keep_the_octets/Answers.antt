use Rattle.bpf_asm.proofs.TokenLaws.{tokens_kept}
use Rattle.bpf_asm.proofs.laws.tokens_keep_the_octets.Goals as goal

pub returns : goal.returns
returns c = tokens_kept
