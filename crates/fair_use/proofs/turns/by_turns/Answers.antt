use Rattle.std.proofs.Common.{◌∙◌, arith}
use Rattle.fair_use.proofs.Turning.{ends}
use Rattle.fair_use.proofs.turns.by_turns.Goals as goal

pub returns : goal.returns
returns c =
    c.in_ok-list.ensures
    ∙ (ends c.min-pairs.result c.in_ok-turns.turns.items c.args.first.now c.args.second.now (omega (arith, c.min-pairs.ensures)) ∙ c.in_ok-turns.ensures)
