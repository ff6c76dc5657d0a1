-- Instructions: the ranges of their fields, and equality.
use Rattle.std.specs.Prelude.{◌≡◌, ℕ, ◌<◌, ◌^◌, List, Some, slice_get, Bool, ◌==◌}
use Rattle.std.specs.Ordering.{on, eq_of_both}
use Rattle.bpf_check.specs.declared.insn.Insn.{Insn}

-- each field is within its range
abbrev pub InRange : Insn → Type 0
InRange i = (i.code < 2 ^ 16) × (i.jt < 2 ^ 8) × (i.jf < 2 ^ 8) × (i.k < 2 ^ 32)

-- each field of each instruction is within its range
abbrev pub AreInRange : List Insn → Type 0
AreInRange p = (place : ℕ) (i : Insn) → slice_get p place ≡ Some i → InRange i

-- all four fields are equal
abbrev pub same_insn : Insn → Insn → Bool
same_insn =
    eq_of_both (on (λ i. i.code) ◌==◌)
    (eq_of_both (on (λ i. i.jt) ◌==◌) (eq_of_both (on (λ i. i.jf) ◌==◌) (on (λ i. i.k) ◌==◌)))
