use Rattle.std.proofs.Common.{◌≡◌, ◌++◌, [], drop}
use Rattle.fair_use.specs.Turns.{first_ones}
use Rattle.fair_use.proofs.turns.first_ones.Given as goal

abbrev pub invariant-loop-place : goal.invariant-loop-place
invariant-loop-place l =
    l.found.items ++ first_ones l.is_four l.found.items (drop l.place l.addresses) ≡ first_ones l.is_four [] l.addresses
