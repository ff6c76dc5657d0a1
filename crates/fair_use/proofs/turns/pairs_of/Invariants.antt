use Rattle.std.proofs.Common.{◌≡◌, ◌++◌, drop}
use Rattle.fair_use.specs.Turns.{by_turns}
use Rattle.fair_use.proofs.turns.pairs_of.Given as goal

abbrev pub invariant-loop-place : goal.invariant-loop-place
invariant-loop-place l =
    l.turns.items ++ by_turns (drop l.place l.first) (drop l.place l.second) ≡ by_turns l.first l.second
