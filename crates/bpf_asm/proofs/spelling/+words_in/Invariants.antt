use Rattle.std.proofs.Common.{length}
use Rattle.bpf_asm.proofs.spelling.+words_in.Given as goal

abbrev pub decreases-words_in : goal.decreases-words_in
decreases-words_in l = length l.pieces.now
