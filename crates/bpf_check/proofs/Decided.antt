-- Each program is accepted or has a first fault, so the function that computes the fault returns the first one.
use Rattle.std.proofs.Common.{◌≡◌, ℕ, zero, suc, ◌+◌, ◌-◌, ◌<◌, ◌≤◌, ◌⊎◌, inl, inr, List, length, get_or, Option, Some, None, sym, ◌∙◌, ap, refl, subst, arith}
use Rattle.std.specs.Prelude.{◌↔◌, IsSomeAnd, slice_get}
use Rattle.std.proofs.lemmas.Bool.{cases_lt}
use Rattle.std.proofs.lemmas.Option.{slice_get-get_or, slice_get_within}
use Rattle.bpf_check.specs.declared.insn.Insn.{Insn}
use Rattle.bpf_check.specs.declared.checked.CheckFault.{CheckFault}
use Rattle.bpf_check.specs.declared.checked.CheckFault.TheVariants.{Empty, TooLong, UnknownCode, ZeroDivisor, BadScratch, BadJump, NoReturn}
use Rattle.bpf_check.specs.declared.operation.Operand.TheVariants.{Constant}
use Rattle.bpf_check.specs.declared.operation.Arithmetic.TheVariants.{Divide, Modulo}
use Rattle.bpf_check.specs.declared.operation.Operation.{Operation}
use Rattle.bpf_check.specs.declared.operation.Operation.TheVariants.{LoadScratch, IndexScratch, StoreAccumulator, StoreIndex, Compute, Jump, Branch, ReturnConstant, ReturnAccumulator}
use Rattle.bpf_check.specs.Operation.{operation_of}
use Rattle.bpf_check.specs.Accepted.{most_insns, FieldsFit, IsFine, IsReturn, IsAccepted, UsesScratch, DividesByConstant, JumpsOut, IsFaultAt, IsFirstFault}
use Rattle.bpf_check.specs.Refusal.{program_fault}
use Rattle.bpf_check.proofs.Faults.{first_at, first_at_end, first_empty, first_too_long}
use Rattle.bpf_check.proofs.RefusalLemmas.{accepted-none, first-some}

-- the instruction at an index is fine, or it has a fault
abbrev Judged : ℕ → ℕ → Insn → Type 0
Judged count place i = IsFine count place i ⊎ ((fault : CheckFault) × IsFaultAt count place i fault)

fine_by : (count place : ℕ) (i : Insn) (o : Option Operation) → operation_of i.code ≡ o → IsSomeAnd o (FieldsFit count place i) → Judged count place i
fine_by count place i o e h = inl (subst (λ (x : Option Operation). IsSomeAnd x (FieldsFit count place i)) (sym e) h)

scratch_by : (count place : ℕ) (i : Insn) (o : Option Operation) → operation_of i.code ≡ o → IsSomeAnd o UsesScratch → (i.k < 16 → IsSomeAnd o (FieldsFit count place i)) → Judged count place i
scratch_by count place i o e uses fits = elim (cases_lt i.k 16) [
  | inl lt ↦ fine_by count place i o e (fits lt)
  | inr le ↦ inr (BadScratch place, (refl, subst (λ (x : Option Operation). IsSomeAnd x UsesScratch) (sym e) uses, le))
]

divisor_by : (count place : ℕ) (i : Insn) (o : Option Operation) → operation_of i.code ≡ o → IsSomeAnd o DividesByConstant → (0 < i.k → IsSomeAnd o (FieldsFit count place i)) → Judged count place i
divisor_by count place i o e divides fits = elim (cases_lt 0 i.k) [
  | inl lt ↦ fine_by count place i o e (fits lt)
  | inr le ↦ inr (ZeroDivisor place, (refl, subst (λ (x : Option Operation). IsSomeAnd x DividesByConstant) (sym e) divides, omega arith))
]

jump_by : (count place : ℕ) (i : Insn) (o : Option Operation) → operation_of i.code ≡ o → IsSomeAnd o (JumpsOut count place i) → Judged count place i
jump_by count place i o e out = inr (BadJump place, (refl, subst (λ (x : Option Operation). IsSomeAnd x (JumpsOut count place i)) (sym e) out))

judged_by : (count place : ℕ) (i : Insn) (o : Option Operation) → operation_of i.code ≡ o → Judged count place i
judged_by count place i None e = inr (UnknownCode place, (refl, e))
judged_by count place i (Some (Compute Divide Constant)) e = divisor_by count place i (Some (Compute Divide Constant)) e tt (λ h. h)
judged_by count place i (Some (Compute Modulo Constant)) e = divisor_by count place i (Some (Compute Modulo Constant)) e tt (λ h. h)
judged_by count place i (Some LoadScratch) e = scratch_by count place i (Some LoadScratch) e tt (λ h. h)
judged_by count place i (Some IndexScratch) e = scratch_by count place i (Some IndexScratch) e tt (λ h. h)
judged_by count place i (Some StoreAccumulator) e = scratch_by count place i (Some StoreAccumulator) e tt (λ h. h)
judged_by count place i (Some StoreIndex) e = scratch_by count place i (Some StoreIndex) e tt (λ h. h)
judged_by count place i (Some Jump) e = elim (cases_lt (place + 1 + i.k) count) [
  | inl lt ↦ fine_by count place i (Some Jump) e lt
  | inr le ↦ jump_by count place i (Some Jump) e le
]
judged_by count place i (Some (Branch test side)) e = elim (cases_lt (place + 1 + i.jt) count) [
  | inl t ↦ elim (cases_lt (place + 1 + i.jf) count) [
    | inl f ↦ fine_by count place i (Some (Branch test side)) e (t, f)
    | inr le ↦ jump_by count place i (Some (Branch test side)) e (inr le)
  ]
  | inr le ↦ jump_by count place i (Some (Branch test side)) e (inl le)
]
judged_by count place i (Some o) e = fine_by count place i (Some o) e tt

judged : (count place : ℕ) (i : Insn) → Judged count place i
judged count place i = judged_by count place i (operation_of i.code) refl

-- the instructions before an index are fine
abbrev FineBefore : List Insn → ℕ → Type 0
FineBefore p n = (k : ℕ) (j : Insn) → k < n → slice_get p k ≡ Some j → IsFine (length p) k j

abbrev Refused : List Insn → Type 0
Refused p = (fault : CheckFault) × IsFirstFault p fault

no_insn : Insn
no_insn = record { code = 0; jt = 0; jf = 0; k = 0 }

here : (p : List Insn) (n : ℕ) → n < length p → slice_get p n ≡ Some (get_or p n no_insn)
here p n h = slice_get-get_or p n no_insn h

some_same : (o : Option Insn) (x y : Insn) → o ≡ Some x → o ≡ Some y → x ≡ y
some_same o x y p q = cc

one_more : (p : List Insn) (n : ℕ) (i : Insn) → slice_get p n ≡ Some i → FineBefore p n → IsFine (length p) n i → FineBefore p (suc n)
one_more p n i found before fine k j below there = elim (cases_lt k n) [
  | inl lt ↦ before k j lt there
  | inr le ↦ (let same : k ≡ n = omega arith in subst (λ (m : ℕ). IsFine (length p) m j) (sym same) (subst (IsFine (length p) n) (some_same (slice_get p n) i j found (ap (slice_get p) (sym same) ∙ there)) fine))
]

scan_step : (p : List Insn) (n : ℕ) → length p ≤ most_insns → n < length p → FineBefore p n → FineBefore p (suc n) ⊎ Refused p
scan_step p n short inside before =
    let i = get_or p n no_insn in
    let found = here p n inside in
    elim (judged (length p) n i) [
      | inl fine ↦ inl (one_more p n i found before fine)
      | inr wrong ↦ inr (wrong.0, first_at p n i wrong.0 short found wrong.1 before)
    ]

scan : (p : List Insn) (n : ℕ) → length p ≤ most_insns → n ≤ length p → FineBefore p n ⊎ Refused p
scan p zero short within = inl (λ k j below there. absurd (omega arith))
scan p (suc n) short within = elim (scan p n short (omega arith)) [
  | inl before ↦ scan_step p n short (omega arith) before
  | inr refused ↦ inr refused
]

ends_by : (o : Option Operation) → IsSomeAnd o IsReturn ⊎ (IsSomeAnd o IsReturn → ⊥)
ends_by None = inr (λ h. h)
ends_by (Some ReturnConstant) = inl tt
ends_by (Some ReturnAccumulator) = inl tt
ends_by (Some o) = inr (λ h. h)

finished : (p : List Insn) → 0 < length p → length p ≤ most_insns → FineBefore p (length p) → IsAccepted p ⊎ Refused p
finished p some short before =
    let each : (k : ℕ) (j : Insn) → slice_get p k ≡ Some j → IsFine (length p) k j = (λ k j there. before k j (slice_get_within p k j there) there) in
    let last = get_or p (length p - 1) no_insn in
    let found = here p (length p - 1) (omega arith) in
    elim (ends_by (operation_of last.code)) [
      | inl ends ↦ inl (record { some = some; short = short; each = each; ends = (last, found, ends) })
      | inr not ↦ inr (NoReturn, first_at_end p some short each (last, found, not))
    ]

sized : (p : List Insn) → 0 < length p → length p ≤ most_insns → IsAccepted p ⊎ Refused p
sized p some short = elim (scan p (length p) short (omega arith)) [
  | inl before ↦ finished p some short before
  | inr refused ↦ inr refused
]

-- a program is accepted or has a first fault
decided : (p : List Insn) → IsAccepted p ⊎ Refused p
decided p = elim (cases_lt 0 (length p)) [
  | inl some ↦ elim (cases_lt most_insns (length p)) [
    | inl long ↦ inr (TooLong, first_too_long p long)
    | inr short ↦ sized p some short
  ]
  | inr le ↦ inr (Empty, first_empty p (omega arith))
]

none_not_some : (o : Option CheckFault) (fault : CheckFault) → o ≡ None → o ≡ Some fault → ⊥
none_not_some o fault e f = absurd (cc)

one_fault : (o : Option CheckFault) (a b : CheckFault) → o ≡ Some a → o ≡ Some b → a ≡ b
one_fault o a b e f = cc

some_first : (p : List Insn) (fault : CheckFault) → program_fault p ≡ Some fault → IsFirstFault p fault
some_first p fault e = elim (decided p) [
  | inl accepted ↦ absurd (none_not_some (program_fault p) fault (accepted-none p accepted) e)
  | inr refused ↦ subst (IsFirstFault p) (one_fault (program_fault p) refused.0 fault (first-some p refused.0 refused.1) e) refused.1
]

none_accepted : (p : List Insn) → program_fault p ≡ None → IsAccepted p
none_accepted p e = elim (decided p) [
  | inl accepted ↦ accepted
  | inr refused ↦ absurd (none_not_some (program_fault p) refused.0 e (first-some p refused.0 refused.1))
]

pub refuses_first : (p : List Insn) (fault : CheckFault) → (program_fault p ≡ Some fault) ↔ IsFirstFault p fault
refuses_first p fault = (some_first p fault, first-some p fault)

pub refuses_unaccepted : (p : List Insn) → (program_fault p ≡ None) ↔ IsAccepted p
refuses_unaccepted p = (none_accepted p, accepted-none p)
