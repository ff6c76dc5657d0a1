use Rattle.std.proofs.Common.{◌≤◌, ◌+◌, arith}
use Rattle.fair_use.specs.WaitingLine.{is_ready}
use Rattle.fair_use.proofs.Lines.{first_passes}
use Rattle.fair_use.proofs.laws.first_law.Goals as goal

pub returns : goal.returns
returns c = λ free line place i it e s t.
    let before : place ≤ 0 + i = first_passes (is_ready free) line 0 place i it e s t in
    omega (arith, before)
