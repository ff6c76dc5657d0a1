use Rattle.std.proofs.Common.{◌≡◌, drop}
use Rattle.std.specs.List.{list_any}
use Rattle.fair_use.specs.Turns.{is_same}
use Rattle.fair_use.proofs.turns.is_among.Given as goal

abbrev pub invariant-loop-place : goal.invariant-loop-place
invariant-loop-place l =
    list_any (is_same l.address) (drop l.place l.addresses) ≡ list_any (is_same l.address) l.addresses
