use Rattle.std.proofs.Common.{◌≡◌, ◌-◌, ◌^◌, ◌<◌, drop, min}
use Rattle.bpf_asm.specs.Number.{value_in_base}
use Rattle.bpf_asm.proofs.number.value_of.Given as goal

abbrev pub invariant-loop-c : goal.invariant-loop-c
invariant-loop-c l = record {
  same : min (value_in_base l.base l.n (drop l.c-index l.digits)) (2 ^ 64 - 1) ≡ min (value_in_base l.base 0 l.digits) (2 ^ 64 - 1);
  small : l.n < 2 ^ 64;
}
