use Rattle.std.proofs.Common.{◌≡◌, ◌-◌, ◌^◌, ◌<◌, drop, min}
use Rattle.std.specs.List.{list_all}
use Rattle.std.specs.Char.{is_ascii_digit}
use Rattle.bpf_check.specs.Listing.{value, are_digits}
use Rattle.wire_octets.specs.Decimal.{value_after}
use Rattle.bpf_check.proofs.listing.number_of.Given as goal

abbrev pub invariant-loop-c : goal.invariant-loop-c
invariant-loop-c l = record {
  same : min (value_after l.n (drop l.c-index l.word)) (2 ^ 64 - 1) ≡ min (value l.word) (2 ^ 64 - 1);
  digits : list_all is_ascii_digit (drop l.c-index l.word) ≡ are_digits l.word;
  small : l.n < 2 ^ 64;
}
