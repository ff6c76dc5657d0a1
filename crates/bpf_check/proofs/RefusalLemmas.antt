-- The function and the relation agree on the first fault of a program.
use Rattle.std.proofs.Common.{◌≡◌, ℕ, zero, suc, ◌+◌, ◌*◌, ◌-◌, ◌<◌, ◌≤◌, ◌⊎◌, inl, inr, Bool, true, false, cond, ◌||◌, nat_le, nat_lt, nat_eq, List, [], ◌∷◌, length, refl, ap, sym, ◌∙◌, subst, arith, Option, Some, None}
use Rattle.std.proofs.lemmas.Option.{slice_get_within}
use Rattle.std.proofs.lemmas.Bool.{cases_lt}
use Rattle.std.specs.Prelude.{IfSome, IsSomeAnd, slice_get}
use Rattle.bpf_check.specs.declared.insn.Insn.{Insn}
use Rattle.bpf_check.specs.declared.checked.CheckFault.{CheckFault}
use Rattle.bpf_check.specs.declared.checked.CheckFault.TheVariants.{Empty, TooLong, UnknownCode, ZeroDivisor, BadScratch, BadJump, NoReturn}
use Rattle.bpf_check.specs.declared.operation.Operand.TheVariants.{Constant}
use Rattle.bpf_check.specs.declared.operation.Arithmetic.TheVariants.{Divide, Modulo}
use Rattle.bpf_check.specs.declared.operation.Operation.{Operation}
use Rattle.bpf_check.specs.declared.operation.Operation.TheVariants.{LoadScratch, IndexScratch, StoreAccumulator, StoreIndex, Compute, Jump, Branch, ReturnConstant, ReturnAccumulator}
use Rattle.bpf_check.specs.Operation.{operation_of}
use Rattle.bpf_check.specs.Accepted.{most_insns, FieldsFit, IsReturn, At, IsAccepted, DividesByConstant, UsesScratch, JumpsOut, IsFaultAt, HasFault, rank, IsFirstFault}
use Rattle.bpf_check.specs.Refusal.{fault_if, fault_by, fault_at, first_of, fault_from, is_return, fault_of_last, program_fault}

-- tests
le-true : (a b : ℕ) → a ≤ b → nat_le a b ≡ true
le-true a b h = grind arith

le-false : (a b : ℕ) → b < a → nat_le a b ≡ false
le-false a b h = grind arith

nonzero : (k : ℕ) → 0 < k → nat_eq k 0 ≡ false
nonzero k h = grind arith

lt-true : (a b : ℕ) → a < b → nat_lt a b ≡ true
lt-true a b h = grind arith

lt-false : (a b : ℕ) → b ≤ a → nat_lt a b ≡ false
lt-false a b h = grind arith

zero-true : (k : ℕ) → k ≡ 0 → nat_eq k 0 ≡ true
zero-true k h = grind arith

le-holds : (a b : ℕ) → nat_le a b ≡ true → a ≤ b
le-holds a b h = grind arith

eq-holds : (a b : ℕ) → nat_eq a b ≡ true → a ≡ b
eq-holds a b h = grind arith

either-holds : (a b c d : ℕ) → (nat_le a b || nat_le c d) ≡ true → (a ≤ b) ⊎ (c ≤ d)
either-holds a b c d h = elim (nat_le a b) as (λ t. nat_le a b ≡ t → (t || nat_le c d) ≡ true → (a ≤ b) ⊎ (c ≤ d)) [
  | true ↦ λ e _. inl (le-holds a b e)
  | false ↦ λ _ f. inr (le-holds c d f)
] refl h

-- an instruction whose fields fit has no fault
fit-none : (count place : ℕ) (i : Insn) (op : Option Operation) → IsSomeAnd op (FieldsFit count place i) → fault_by count place i op ≡ None
fit-none count place i None h = absurd h
fit-none count place i (Some (Compute Divide Constant)) h = ap (λ t. fault_if t (ZeroDivisor place)) (nonzero i.k h)
fit-none count place i (Some (Compute Modulo Constant)) h = ap (λ t. fault_if t (ZeroDivisor place)) (nonzero i.k h)
fit-none count place i (Some LoadScratch) h = ap (λ t. fault_if t (BadScratch place)) (le-false 16 i.k h)
fit-none count place i (Some IndexScratch) h = ap (λ t. fault_if t (BadScratch place)) (le-false 16 i.k h)
fit-none count place i (Some StoreAccumulator) h = ap (λ t. fault_if t (BadScratch place)) (le-false 16 i.k h)
fit-none count place i (Some StoreIndex) h = ap (λ t. fault_if t (BadScratch place)) (le-false 16 i.k h)
fit-none count place i (Some Jump) h = ap (λ t. fault_if t (BadJump place)) (le-false count (place + 1 + i.k) h)
fit-none count place i (Some (Branch test side)) h =
    ap (λ t. fault_if t (BadJump place)) (ap (λ t. t || nat_le count (place + 1 + i.jf)) (le-false count (place + 1 + i.jt) h.0) ∙ le-false count (place + 1 + i.jf) h.1)
fit-none count place i (Some _) h = refl

if-faulty : (P : CheckFault → Type 0) (test : Bool) (fault : CheckFault) → (test ≡ true → P fault) → IfSome (fault_if test fault) P
if-faulty P true fault h = h refl
if-faulty P false fault h = tt

-- the program has this fault, at an index or earlier
abbrev IsFaulty : List Insn → ℕ → CheckFault → Type 0
IsFaulty p place fault = HasFault p fault × (rank (length p) fault < 4 * place + 6)

uses : (o op : Option Operation) → o ≡ op → IsSomeAnd op UsesScratch → IsSomeAnd o UsesScratch
uses o op e h = let P : Option Operation → Type 0 = λ x. IsSomeAnd x UsesScratch in subst P (sym e) h

scratch-faulty : (p : List Insn) (place : ℕ) (i : Insn) → slice_get p place ≡ Some i → IsSomeAnd (operation_of i.code) UsesScratch
    → IfSome (fault_if (nat_le 16 i.k) (BadScratch place)) (IsFaulty p place)
scratch-faulty p place i got h =
    if-faulty (IsFaulty p place) (nat_le 16 i.k) (BadScratch place) (λ t. ((place, (i, got, (refl, h, le-holds 16 i.k t))), omega arith))

-- the result of the function is a fault of the program
faulty : (p : List Insn) (place : ℕ) (i : Insn) → slice_get p place ≡ Some i → (op : Option Operation) → operation_of i.code ≡ op
    → IfSome (fault_by (length p) place i op) (IsFaulty p place)
faulty p place i got None e = ((place, (i, got, (refl, e))), omega arith)
faulty p place i got (Some (Compute Divide Constant)) e =
    let P : Option Operation → Type 0 = λ x. IsSomeAnd x DividesByConstant in
    let h : IsSomeAnd (operation_of i.code) DividesByConstant = subst P (sym e) tt in
    if-faulty (IsFaulty p place) (nat_eq i.k 0) (ZeroDivisor place) (λ t. ((place, (i, got, (refl, h, eq-holds i.k 0 t))), omega arith))
faulty p place i got (Some (Compute Modulo Constant)) e =
    let P : Option Operation → Type 0 = λ x. IsSomeAnd x DividesByConstant in
    let h : IsSomeAnd (operation_of i.code) DividesByConstant = subst P (sym e) tt in
    if-faulty (IsFaulty p place) (nat_eq i.k 0) (ZeroDivisor place) (λ t. ((place, (i, got, (refl, h, eq-holds i.k 0 t))), omega arith))
faulty p place i got (Some LoadScratch) e = scratch-faulty p place i got (uses (operation_of i.code) (Some LoadScratch) e tt)
faulty p place i got (Some IndexScratch) e = scratch-faulty p place i got (uses (operation_of i.code) (Some IndexScratch) e tt)
faulty p place i got (Some StoreAccumulator) e = scratch-faulty p place i got (uses (operation_of i.code) (Some StoreAccumulator) e tt)
faulty p place i got (Some StoreIndex) e = scratch-faulty p place i got (uses (operation_of i.code) (Some StoreIndex) e tt)
faulty p place i got (Some Jump) e =
    let P : Option Operation → Type 0 = λ x. IsSomeAnd x (JumpsOut (length p) place i) in
    if-faulty (IsFaulty p place) (nat_le (length p) (place + 1 + i.k)) (BadJump place)
    (λ t. ((place, (i, got, (refl, subst P (sym e) (le-holds (length p) (place + 1 + i.k) t)))), omega arith))
faulty p place i got (Some (Branch test side)) e =
    let P : Option Operation → Type 0 = λ x. IsSomeAnd x (JumpsOut (length p) place i) in
    if-faulty (IsFaulty p place) (nat_le (length p) (place + 1 + i.jt) || nat_le (length p) (place + 1 + i.jf)) (BadJump place)
    (λ t. ((place, (i, got, (refl, subst P (sym e) (either-holds (length p) (place + 1 + i.jt) (length p) (place + 1 + i.jf) t)))), omega arith))
faulty p place i got (Some _) e = tt

-- the function returns the fault of an instruction
zero-by : (count place : ℕ) (i : Insn) (op : Option Operation) → IsSomeAnd op DividesByConstant → i.k ≡ 0 → fault_by count place i op ≡ Some (ZeroDivisor place)
zero-by count place i None h e = absurd h
zero-by count place i (Some (Compute Divide Constant)) h e = ap (λ k. fault_if (nat_eq k 0) (ZeroDivisor place)) e
zero-by count place i (Some (Compute Modulo Constant)) h e = ap (λ k. fault_if (nat_eq k 0) (ZeroDivisor place)) e
zero-by count place i (Some _) h e = absurd h

scratch-by : (count place : ℕ) (i : Insn) (op : Option Operation) → IsSomeAnd op UsesScratch → 16 ≤ i.k → fault_by count place i op ≡ Some (BadScratch place)
scratch-by count place i None h e = absurd h
scratch-by count place i (Some LoadScratch) h e = ap (λ t. fault_if t (BadScratch place)) (le-true 16 i.k e)
scratch-by count place i (Some IndexScratch) h e = ap (λ t. fault_if t (BadScratch place)) (le-true 16 i.k e)
scratch-by count place i (Some StoreAccumulator) h e = ap (λ t. fault_if t (BadScratch place)) (le-true 16 i.k e)
scratch-by count place i (Some StoreIndex) h e = ap (λ t. fault_if t (BadScratch place)) (le-true 16 i.k e)
scratch-by count place i (Some _) h e = absurd h

either-true : (a b c d : ℕ) → (a ≤ b) ⊎ (c ≤ d) → (nat_le a b || nat_le c d) ≡ true
either-true a b c d (inl h) = ap (λ t. t || nat_le c d) (le-true a b h)
either-true a b c d (inr h) = elim (nat_le a b) as (λ t. (t || nat_le c d) ≡ true) [
  | true ↦ refl
  | false ↦ le-true c d h
]

jump-by : (count place : ℕ) (i : Insn) (op : Option Operation) → IsSomeAnd op (JumpsOut count place i) → fault_by count place i op ≡ Some (BadJump place)
jump-by count place i None h = absurd h
jump-by count place i (Some Jump) h = ap (λ t. fault_if t (BadJump place)) (le-true count (place + 1 + i.k) h)
jump-by count place i (Some (Branch test side)) h = ap (λ t. fault_if t (BadJump place)) (either-true count (place + 1 + i.jt) count (place + 1 + i.jf) h)
jump-by count place i (Some _) h = absurd h

is-fault : (count place : ℕ) (i : Insn) (fault : CheckFault) → IsFaultAt count place i fault → fault_at count place i ≡ Some fault
is-fault count place i (UnknownCode at) h = ap (fault_by count place i) h.1 ∙ ap (λ q. Some (UnknownCode q)) (sym h.0)
is-fault count place i (ZeroDivisor at) h = zero-by count place i (operation_of i.code) h.1 h.2 ∙ ap (λ q. Some (ZeroDivisor q)) (sym h.0)
is-fault count place i (BadScratch at) h = scratch-by count place i (operation_of i.code) h.1 h.2 ∙ ap (λ q. Some (BadScratch q)) (sym h.0)
is-fault count place i (BadJump at) h = jump-by count place i (operation_of i.code) h.1 ∙ ap (λ q. Some (BadJump q)) (sym h.0)
is-fault count place i Empty h = absurd h
is-fault count place i TooLong h = absurd h
is-fault count place i NoReturn h = absurd h

some-same : {A : Type 0} (x y : A) → Some x ≡ Some y → x ≡ y
some-same x y e = cc

-- if no instruction has a fault, the function returns none
none-from : (count start : ℕ) (xs : List Insn) → ((k : ℕ) (i : Insn) → slice_get xs k ≡ Some i → fault_at count (start + k) i ≡ None) → fault_from count start xs ≡ None
none-from count start [] h = refl
none-from count start (x ∷ xs) h =
    ap (λ o. first_of o (fault_from count (suc start) xs)) (ap (λ q. fault_at count q x) (omega arith) ∙ h 0 x refl)
    ∙ none-from count (suc start) xs (λ k i got. ap (λ q. fault_at count q i) (omega arith) ∙ h (suc k) i got)

-- if an instruction has a fault and no earlier one has, the function returns it
some-from : (count start : ℕ) (xs : List Insn) (k : ℕ) (i : Insn) (fault : CheckFault) → slice_get xs k ≡ Some i
    → ((j : ℕ) (y : Insn) → j < k → slice_get xs j ≡ Some y → fault_at count (start + j) y ≡ None)
    → fault_at count (start + k) i ≡ Some fault → fault_from count start xs ≡ Some fault
some-from count start [] k i fault got before here = absurd (cc)
some-from count start (x ∷ xs) zero i fault got before here =
    ap (λ o. first_of o (fault_from count (suc start) xs)) (ap (λ q. fault_at count q x) (omega arith) ∙ ap (fault_at count (start + 0)) (some-same x i got) ∙ here)
some-from count start (x ∷ xs) (suc k) i fault got before here =
    ap (λ o. first_of o (fault_from count (suc start) xs)) (ap (λ q. fault_at count q x) (omega arith) ∙ before 0 x (omega arith) refl)
    ∙ some-from count (suc start) xs k i fault got
    (λ j y less g. ap (λ q. fault_at count q y) (omega arith) ∙ before (suc j) y (omega arith) g)
    (ap (λ q. fault_at count q i) (omega arith) ∙ here)

-- the last instruction ends the run
returns : (op : Option Operation) → IsSomeAnd op IsReturn → is_return op ≡ true
returns None h = absurd h
returns (Some ReturnConstant) h = refl
returns (Some ReturnAccumulator) h = refl
returns (Some _) h = absurd h

returns-not : (op : Option Operation) → (IsSomeAnd op IsReturn → ⊥) → is_return op ≡ false
returns-not None h = refl
returns-not (Some ReturnConstant) h = absurd (h tt)
returns-not (Some ReturnAccumulator) h = absurd (h tt)
returns-not (Some _) h = refl

-- a program of permitted length has the faults of its instructions and of its end
sized : (p : List Insn) → 0 < length p → length p ≤ most_insns → program_fault p ≡ first_of (fault_from (length p) 0 p) (fault_of_last (slice_get p (length p - 1)))
sized p some short =
    ap (λ t. cond t (Some Empty) (cond (nat_lt most_insns (length p)) (Some TooLong) (first_of (fault_from (length p) 0 p) (fault_of_last (slice_get p (length p - 1)))))) (nonzero (length p) some)
    ∙ ap (λ t. cond t (Some TooLong) (first_of (fault_from (length p) 0 p) (fault_of_last (slice_get p (length p - 1))))) (lt-false most_insns (length p) short)

pub accepted-none : (p : List Insn) → IsAccepted p → program_fault p ≡ None
accepted-none p h =
    let last = h.ends in
    sized p h.some h.short
    ∙ ap (λ o. first_of o (fault_of_last (slice_get p (length p - 1))))
    (none-from (length p) 0 p (λ k i got. ap (λ q. fault_at (length p) q i) (omega arith) ∙ fit-none (length p) k i (operation_of i.code) (h.each k i got)))
    ∙ ap fault_of_last last.1
    ∙ ap (λ t. cond t None (Some NoReturn)) (returns (operation_of last.0.code) last.2)

none-if : (o : Option CheckFault) (P : CheckFault → Type 0) → IfSome o P → ((fault : CheckFault) → P fault → ⊥) → o ≡ None
none-if None P h stop = refl
none-if (Some fault) P h stop = absurd (stop fault h)

late-contradicts : (a b k place : ℕ) → a ≤ b → b < 4 * k + 6 → 4 * place + 2 ≤ a → k < place → ⊥
late-contradicts a b k place h less late before = omega arith

-- if the first fault is not before an index, no instruction before the index has a fault
early-none : (p : List Insn) (fault : CheckFault) (k place : ℕ) (i : Insn) → ((other : CheckFault) → HasFault p other → rank (length p) fault ≤ rank (length p) other)
    → 4 * place + 2 ≤ rank (length p) fault → k < place → slice_get p k ≡ Some i → fault_at (length p) k i ≡ None
early-none p fault k place i first late less got =
    none-if (fault_at (length p) k i) (λ other. IsFaulty p k other) (faulty p k i got (operation_of i.code) refl)
    (λ other h. late-contradicts (rank (length p) fault) (rank (length p) other) k place (first other h.0) h.1 late less)

not-empty : (p : List Insn) (fault : CheckFault) → IsFirstFault p fault → 0 < rank (length p) fault → 0 < length p
not-empty [] fault h less = absurd (omega (arith, h.first Empty refl))
not-empty (i ∷ is) fault h less = omega arith

not-long : (p : List Insn) (fault : CheckFault) → IsFirstFault p fault → 1 < rank (length p) fault → length p ≤ most_insns
not-long p fault h less = elim (cases_lt most_insns (length p)) [
  | inl long ↦ absurd (omega (arith, h.first TooLong long))
  | inr short ↦ short
]

-- the same if the fault is that of an instruction
first-placed : (p : List Insn) (fault : CheckFault) (at : ℕ) → IsFirstFault p fault → At p at (λ i. IsFaultAt (length p) at i fault) → 4 * at + 2 ≤ rank (length p) fault → program_fault p ≡ Some fault
first-placed p fault at h here late =
    sized p (not-empty p fault h (omega (arith, late))) (not-long p fault h (omega (arith, late)))
    ∙ ap (λ o. first_of o (fault_of_last (slice_get p (length p - 1))))
    (some-from (length p) 0 p at here.0 fault here.1
    (λ j y less got. ap (λ q. fault_at (length p) q y) (omega arith) ∙ early-none p fault j at y h.first late less got)
    (ap (λ q. fault_at (length p) q here.0) (omega arith) ∙ is-fault (length p) at here.0 fault here.2))

-- the function returns the first fault of a program
pub first-some : (p : List Insn) (fault : CheckFault) → IsFirstFault p fault → program_fault p ≡ Some fault
first-some p Empty h = ap (λ t. cond t (Some Empty) (cond (nat_lt most_insns (length p)) (Some TooLong) (first_of (fault_from (length p) 0 p) (fault_of_last (slice_get p (length p - 1)))))) (zero-true (length p) h.has)
first-some p TooLong h =
    ap (λ t. cond t (Some Empty) (cond (nat_lt most_insns (length p)) (Some TooLong) (first_of (fault_from (length p) 0 p) (fault_of_last (slice_get p (length p - 1)))))) (nonzero (length p) (omega (arith, h.has)))
    ∙ ap (λ t. cond t (Some TooLong) (first_of (fault_from (length p) 0 p) (fault_of_last (slice_get p (length p - 1))))) (lt-true most_insns (length p) h.has)
first-some p NoReturn h =
    let last = h.has in
    sized p (not-empty p NoReturn h (omega arith)) (not-long p NoReturn h (omega arith))
    ∙ ap (λ o. first_of o (fault_of_last (slice_get p (length p - 1))))
    (none-from (length p) 0 p (λ k i got. ap (λ q. fault_at (length p) q i) (omega arith)
    ∙ early-none p NoReturn k (length p) i h.first (omega arith) (slice_get_within p k i got) got))
    ∙ ap fault_of_last last.1
    ∙ ap (λ t. cond t None (Some NoReturn)) (returns-not (operation_of last.0.code) last.2)
first-some p (UnknownCode at) h =
    let here = h.has in
    let P : ℕ → Type 0 = λ q. At p q (λ i. IsFaultAt (length p) q i (UnknownCode at)) in
    first-placed p (UnknownCode at) at h (subst P (sym here.1.2.0) here.1) (omega arith)
first-some p (ZeroDivisor at) h =
    let here = h.has in
    let P : ℕ → Type 0 = λ q. At p q (λ i. IsFaultAt (length p) q i (ZeroDivisor at)) in
    first-placed p (ZeroDivisor at) at h (subst P (sym here.1.2.0) here.1) (omega arith)
first-some p (BadScratch at) h =
    let here = h.has in
    let P : ℕ → Type 0 = λ q. At p q (λ i. IsFaultAt (length p) q i (BadScratch at)) in
    first-placed p (BadScratch at) at h (subst P (sym here.1.2.0) here.1) (omega arith)
first-some p (BadJump at) h =
    let here = h.has in
    let P : ℕ → Type 0 = λ q. At p q (λ i. IsFaultAt (length p) q i (BadJump at)) in
    first-placed p (BadJump at) at h (subst P (sym here.1.2.0) here.1) (omega arith)
