use Rattle.object_store.proofs.CutLemmas.{cut-law}
use Rattle.object_store.proofs.laws.cut_is_the_longest_front.Goals as goal

pub returns : goal.returns
returns c = cut-law
