use Rattle.fair_use.proofs.Lines.{served_free}
use Rattle.fair_use.proofs.laws.free_law.Goals as goal

pub returns : goal.returns
returns c = λ free line place e. served_free free line 0 place e
