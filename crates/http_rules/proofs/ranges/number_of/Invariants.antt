use Rattle.std.proofs.Common.{◌≡◌, ◌≤◌, ◌-◌, ◌^◌, drop, min}
use Rattle.wire_octets.specs.Decimal.{value_after}
use Rattle.http_rules.proofs.ranges.number_of.Given as goal

abbrev pub invariant-loop-c : goal.invariant-loop-c
invariant-loop-c l = record {
  same : min (value_after l.n (drop l.c-index l.digits)) (2 ^ 64 - 1) ≡ min (value_after 0 l.digits) (2 ^ 64 - 1);
  small : l.n ≤ (2 ^ 64 - 1);
}
