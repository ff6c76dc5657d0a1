use Rattle.fair_use.specs.WaitingLine.{is_ready}
use Rattle.fair_use.proofs.Lines.{none_passes}
use Rattle.fair_use.proofs.laws.none_law.Goals as goal

pub returns : goal.returns
returns c = λ free line e. none_passes (is_ready free) line 0 e
