-- A program with a fault is not accepted, and one instruction has one fault.
use Rattle.std.proofs.Common.{◌≡◌, ℕ, ◌+◌, ◌*◌, ◌<◌, ◌≤◌, List, length, Option, Some, None, sym, ap, ◌∙◌, subst, ⊎_elim, arith}
use Rattle.std.specs.Prelude.{slice_get, IsSomeAnd}
use Rattle.std.proofs.lemmas.Bool.{cases_lt}
use Rattle.std.proofs.lemmas.Option.{slice_get_within}
use Rattle.bpf_check.specs.declared.insn.Insn.{Insn}
use Rattle.bpf_check.specs.declared.checked.CheckFault.{CheckFault}
use Rattle.bpf_check.specs.declared.checked.CheckFault.TheVariants.{Empty, TooLong, UnknownCode, ZeroDivisor, BadScratch, BadJump, NoReturn}
use Rattle.bpf_check.specs.declared.operation.Operand.TheVariants.{Constant}
use Rattle.bpf_check.specs.declared.operation.Arithmetic.TheVariants.{Divide, Modulo}
use Rattle.bpf_check.specs.declared.operation.Operation.{Operation}
use Rattle.bpf_check.specs.declared.operation.Operation.TheVariants.{LoadScratch, IndexScratch, StoreAccumulator, StoreIndex, Compute, Jump, Branch}
use Rattle.bpf_check.specs.Operation.{operation_of}
use Rattle.bpf_check.specs.Accepted.{most_insns, FieldsFit, IsFine, IsReturn, EndsWithReturn, IsAccepted, UsesScratch, DividesByConstant, JumpsOut, IsFaultAt, HasFault, rank, IsFirstFault}

scratch_unfit : (n q : ℕ) (i : Insn) (o : Option Operation) → IsSomeAnd o UsesScratch → 16 ≤ i.k → IsSomeAnd o (FieldsFit n q i) → ⊥
scratch_unfit n q i None uses big fits = uses
scratch_unfit n q i (Some LoadScratch) uses big fits = omega arith
scratch_unfit n q i (Some IndexScratch) uses big fits = omega arith
scratch_unfit n q i (Some StoreAccumulator) uses big fits = omega arith
scratch_unfit n q i (Some StoreIndex) uses big fits = omega arith
scratch_unfit n q i (Some _) uses big fits = uses

jump_unfit : (n q : ℕ) (i : Insn) (o : Option Operation) → IsSomeAnd o (JumpsOut n q i) → IsSomeAnd o (FieldsFit n q i) → ⊥
jump_unfit n q i None out fits = out
jump_unfit n q i (Some Jump) out fits = omega arith
jump_unfit n q i (Some (Branch test side)) out fits = ⊎_elim (λ jt. omega arith) (λ jf. omega arith) out
jump_unfit n q i (Some _) out fits = out

divisor_unfit : (n q : ℕ) (i : Insn) (o : Option Operation) → IsSomeAnd o DividesByConstant → i.k ≡ 0 → IsSomeAnd o (FieldsFit n q i) → ⊥
divisor_unfit n q i None divides zero_k fits = divides
divisor_unfit n q i (Some (Compute Divide Constant)) divides zero_k fits = omega arith
divisor_unfit n q i (Some (Compute Modulo Constant)) divides zero_k fits = omega arith
divisor_unfit n q i (Some _) divides zero_k fits = divides

unknown_unfit : (o : Option Operation) (P : Operation → Type 0) → o ≡ None → IsSomeAnd o P → ⊥
unknown_unfit o P is fits = rw is at fits

pub wrong_unfit : (n q : ℕ) (i : Insn) (f : CheckFault) → IsFaultAt n q i f → IsFine n q i → ⊥
wrong_unfit n q i (UnknownCode at) w fits = unknown_unfit (operation_of i.code) (FieldsFit n q i) w.1 fits
wrong_unfit n q i (ZeroDivisor at) w fits = divisor_unfit n q i (operation_of i.code) w.1 w.2 fits
wrong_unfit n q i (BadScratch at) w fits = scratch_unfit n q i (operation_of i.code) w.1 w.2 fits
wrong_unfit n q i (BadJump at) w fits = jump_unfit n q i (operation_of i.code) w.1 fits
wrong_unfit n q i _ w fits = w

scratch_no_jump : (n q : ℕ) (i : Insn) (o : Option Operation) → IsSomeAnd o UsesScratch → IsSomeAnd o (JumpsOut n q i) → ⊥
scratch_no_jump n q i None uses out = uses
scratch_no_jump n q i (Some Jump) uses out = uses
scratch_no_jump n q i (Some (Branch test side)) uses out = uses
scratch_no_jump n q i (Some _) uses out = out

divisor_no_scratch : (o : Option Operation) → IsSomeAnd o DividesByConstant → IsSomeAnd o UsesScratch → ⊥
divisor_no_scratch None divides uses = divides
divisor_no_scratch (Some (Compute Divide Constant)) divides uses = uses
divisor_no_scratch (Some (Compute Modulo Constant)) divides uses = uses
divisor_no_scratch (Some _) divides uses = divides

divisor_no_jump : (n q : ℕ) (i : Insn) (o : Option Operation) → IsSomeAnd o DividesByConstant → IsSomeAnd o (JumpsOut n q i) → ⊥
divisor_no_jump n q i None divides out = divides
divisor_no_jump n q i (Some (Compute Divide Constant)) divides out = out
divisor_no_jump n q i (Some (Compute Modulo Constant)) divides out = out
divisor_no_jump n q i (Some _) divides out = divides

-- two faults of one instruction have the same rank
same_rank : (n q : ℕ) (i : Insn) (f g : CheckFault) → IsFaultAt n q i f → IsFaultAt n q i g → rank n f ≤ rank n g
same_rank n q i (UnknownCode a) (UnknownCode b) w v = omega arith
same_rank n q i (UnknownCode a) (ZeroDivisor b) w v = omega arith
same_rank n q i (UnknownCode a) (BadScratch b) w v = omega arith
same_rank n q i (UnknownCode a) (BadJump b) w v = omega arith
same_rank n q i (ZeroDivisor a) (UnknownCode b) w v = absurd (unknown_unfit (operation_of i.code) DividesByConstant v.1 w.1)
same_rank n q i (ZeroDivisor a) (ZeroDivisor b) w v = omega arith
same_rank n q i (ZeroDivisor a) (BadScratch b) w v = omega arith
same_rank n q i (ZeroDivisor a) (BadJump b) w v = omega arith
same_rank n q i (BadScratch a) (UnknownCode b) w v = absurd (unknown_unfit (operation_of i.code) UsesScratch v.1 w.1)
same_rank n q i (BadScratch a) (ZeroDivisor b) w v = absurd (divisor_no_scratch (operation_of i.code) v.1 w.1)
same_rank n q i (BadScratch a) (BadScratch b) w v = omega arith
same_rank n q i (BadScratch a) (BadJump b) w v = omega arith
same_rank n q i (BadJump a) (UnknownCode b) w v = absurd (unknown_unfit (operation_of i.code) (JumpsOut n q i) v.1 w.1)
same_rank n q i (BadJump a) (ZeroDivisor b) w v = absurd (divisor_no_jump n q i (operation_of i.code) v.1 w.1)
same_rank n q i (BadJump a) (BadScratch b) w v = absurd (scratch_no_jump n q i (operation_of i.code) v.1 w.1)
same_rank n q i (BadJump a) (BadJump b) w v = omega arith
same_rank n q i Empty g w v = absurd w
same_rank n q i TooLong g w v = absurd w
same_rank n q i NoReturn g w v = absurd w
same_rank n q i f Empty w v = absurd v
same_rank n q i f TooLong w v = absurd v
same_rank n q i f NoReturn w v = absurd v

-- the ranks of one instruction are between those of the instructions before and after it
rank_range : (n q : ℕ) (i : Insn) (f : CheckFault) → IsFaultAt n q i f → (4 * q + 2 ≤ rank n f) × (rank n f ≤ 4 * q + 5)
rank_range n q i (UnknownCode a) w = (omega arith, omega arith)
rank_range n q i (ZeroDivisor a) w = (omega arith, omega arith)
rank_range n q i (BadScratch a) w = (omega arith, omega arith)
rank_range n q i (BadJump a) w = (omega arith, omega arith)
rank_range n q i _ w = absurd w

-- the other fault is that of an instruction too, or that of the program's end
other_rank : (p : List Insn) (q : ℕ) (i : Insn) (f g : CheckFault) → slice_get p q ≡ Some i → IsFaultAt (length p) q i f → ((k : ℕ) (j : Insn) → k < q → slice_get p k ≡ Some j → IsFine (length p) k j) → (r : ℕ) (j : Insn) → slice_get p r ≡ Some j → IsFaultAt (length p) r j g → rank (length p) f ≤ rank (length p) g
other_rank p q i f g here wrong before r j there other =
    let wide = rank_range (length p) q i f wrong in
    let wide' = rank_range (length p) r j g other in
    ⊎_elim
    (λ lt. absurd (wrong_unfit (length p) r j g other (before r j lt there)))
    (λ le.
    ⊎_elim
    (λ (lt : q < r). omega (arith, wide, wide'))
    (λ (ge : r ≤ q).
    let same : r ≡ q = omega arith in
    let e : Some j ≡ Some i = sym there ∙ ap (slice_get p) same ∙ here in
    let e' : j ≡ i = cc in
    let moved : IsFaultAt (length p) q j g = subst (λ x. IsFaultAt (length p) x j g) same other in
    same_rank (length p) q i f g wrong (subst (λ x. IsFaultAt (length p) q x g) e' moved))
    (cases_lt q r))
    (cases_lt r q)

has_at : (p : List Insn) (q : ℕ) (i : Insn) (f : CheckFault) → slice_get p q ≡ Some i → IsFaultAt (length p) q i f → HasFault p f
has_at p q i (UnknownCode a) here w = (q, (i, here, w))
has_at p q i (ZeroDivisor a) here w = (q, (i, here, w))
has_at p q i (BadScratch a) here w = (q, (i, here, w))
has_at p q i (BadJump a) here w = (q, (i, here, w))
has_at p q i _ here w = absurd w

pub first_at : (p : List Insn) (q : ℕ) (i : Insn) (f : CheckFault) → length p ≤ most_insns → slice_get p q ≡ Some i → IsFaultAt (length p) q i f → ((k : ℕ) (j : Insn) → k < q → slice_get p k ≡ Some j → IsFine (length p) k j) → IsFirstFault p f
first_at p q i f short here wrong before = record { has = has_at p q i f here wrong; first = none_earlier }
  where
    inside : q < length p
    inside = slice_get_within p q i here

    none_earlier : (other : CheckFault) → HasFault p other → rank (length p) f ≤ rank (length p) other
    none_earlier Empty h = absurd (omega (arith, inside))
    none_earlier TooLong h = absurd (omega arith)
    none_earlier NoReturn h = omega (arith, rank_range (length p) q i f wrong, inside)
    none_earlier (UnknownCode a) h = other_rank p q i f (UnknownCode a) here wrong before h.0 h.1.0 h.1.1 h.1.2
    none_earlier (ZeroDivisor a) h = other_rank p q i f (ZeroDivisor a) here wrong before h.0 h.1.0 h.1.1 h.1.2
    none_earlier (BadScratch a) h = other_rank p q i f (BadScratch a) here wrong before h.0 h.1.0 h.1.1 h.1.2
    none_earlier (BadJump a) h = other_rank p q i f (BadJump a) here wrong before h.0 h.1.0 h.1.1 h.1.2

-- the fault of the program's end comes after all others
pub first_at_end : (p : List Insn) → 0 < length p → length p ≤ most_insns → ((k : ℕ) (j : Insn) → slice_get p k ≡ Some j → IsFine (length p) k j) → HasFault p NoReturn → IsFirstFault p NoReturn
first_at_end p some short fine has = record { has = has; first = none_earlier }
  where
    none_earlier : (other : CheckFault) → HasFault p other → rank (length p) NoReturn ≤ rank (length p) other
    none_earlier Empty h = absurd (omega arith)
    none_earlier TooLong h = absurd (omega arith)
    none_earlier NoReturn h = omega arith
    none_earlier (UnknownCode a) h = absurd (wrong_unfit (length p) h.0 h.1.0 (UnknownCode a) h.1.2 (fine h.0 h.1.0 h.1.1))
    none_earlier (ZeroDivisor a) h = absurd (wrong_unfit (length p) h.0 h.1.0 (ZeroDivisor a) h.1.2 (fine h.0 h.1.0 h.1.1))
    none_earlier (BadScratch a) h = absurd (wrong_unfit (length p) h.0 h.1.0 (BadScratch a) h.1.2 (fine h.0 h.1.0 h.1.1))
    none_earlier (BadJump a) h = absurd (wrong_unfit (length p) h.0 h.1.0 (BadJump a) h.1.2 (fine h.0 h.1.0 h.1.1))

pub first_empty : (p : List Insn) → length p ≡ 0 → IsFirstFault p Empty
first_empty p none = record { has = none; first = λ g h. omega arith }

pub first_too_long : (p : List Insn) → most_insns < length p → IsFirstFault p TooLong
first_too_long p long = record { has = long; first = none_earlier }
  where
    none_earlier : (other : CheckFault) → HasFault p other → 1 ≤ rank (length p) other
    none_earlier Empty h = absurd (omega arith)
    none_earlier TooLong h = omega arith
    none_earlier NoReturn h = omega arith
    none_earlier (UnknownCode a) h = omega arith
    none_earlier (ZeroDivisor a) h = omega arith
    none_earlier (BadScratch a) h = omega arith
    none_earlier (BadJump a) h = omega arith

not_return : (p : List Insn) → EndsWithReturn p → HasFault p NoReturn → ⊥
not_return p ends h =
    let e : Some ends.0 ≡ Some h.0 = sym ends.1 ∙ h.1 in
    let e' : ends.0 ≡ h.0 = cc in
    h.2 (subst (λ (i : Insn). IsSomeAnd (operation_of i.code) IsReturn) e' ends.2)

-- an accepted program has no fault
pub accepted_has_none : (p : List Insn) (f : CheckFault) → IsAccepted p → HasFault p f → ⊥
accepted_has_none p Empty a h = omega (arith, a.some)
accepted_has_none p TooLong a h = omega (arith, a.short)
accepted_has_none p NoReturn a h = not_return p a.ends h
accepted_has_none p (UnknownCode q) a h = wrong_unfit (length p) h.0 h.1.0 (UnknownCode q) h.1.2 (a.each h.0 h.1.0 h.1.1)
accepted_has_none p (ZeroDivisor q) a h = wrong_unfit (length p) h.0 h.1.0 (ZeroDivisor q) h.1.2 (a.each h.0 h.1.0 h.1.1)
accepted_has_none p (BadScratch q) a h = wrong_unfit (length p) h.0 h.1.0 (BadScratch q) h.1.2 (a.each h.0 h.1.0 h.1.1)
accepted_has_none p (BadJump q) a h = wrong_unfit (length p) h.0 h.1.0 (BadJump q) h.1.2 (a.each h.0 h.1.0 h.1.1)
