-- The first fault of a program as a function, for definitions about many programs. It goes through the instructions in order.
-- The checker's contract states that this is the fault it returns; a lemma in src/laws.rt states that it is the first one.
use Rattle.std.specs.Prelude.{◌≡◌, ◌↔◌, ℕ, suc, ◌+◌, ◌-◌, Bool, true, false, ◌||◌, nat_lt, nat_le, List, [], ◌∷◌, length, Option, Some, None, slice_get, ◌==◌, if◌then◌else◌}
use Rattle.bpf_check.specs.declared.insn.Insn.{Insn}
use Rattle.bpf_check.specs.declared.checked.CheckFault.{CheckFault}
use Rattle.bpf_check.specs.declared.checked.CheckFault.TheVariants.{Empty, TooLong, UnknownCode, ZeroDivisor, BadScratch, BadJump, NoReturn}
use Rattle.bpf_check.specs.declared.operation.Operand.TheVariants.{Constant}
use Rattle.bpf_check.specs.declared.operation.Arithmetic.TheVariants.{Divide, Modulo}
use Rattle.bpf_check.specs.declared.operation.Operation.{Operation}
use Rattle.bpf_check.specs.declared.operation.Operation.TheVariants.{LoadScratch, IndexScratch, StoreAccumulator, StoreIndex, Compute, Jump, Branch, ReturnConstant, ReturnAccumulator}
use Rattle.bpf_check.specs.Operation.{operation_of}
use Rattle.bpf_check.specs.Accepted.{most_insns, IsAccepted, IsFirstFault}

-- the fault, if the test holds
abbrev pub fault_if : Bool → CheckFault → Option CheckFault
fault_if test fault = if test then Some fault else None

-- the fault of the instruction at index `place` of a program of `count` instructions, by its operation
abbrev pub fault_by : ℕ → ℕ → Insn → Option Operation → Option CheckFault
fault_by count place i None = Some (UnknownCode place)
fault_by count place i (Some (Compute Divide Constant)) = fault_if (i.k == 0) (ZeroDivisor place)
fault_by count place i (Some (Compute Modulo Constant)) = fault_if (i.k == 0) (ZeroDivisor place)
fault_by count place i (Some LoadScratch) = fault_if (nat_le 16 i.k) (BadScratch place)
fault_by count place i (Some IndexScratch) = fault_if (nat_le 16 i.k) (BadScratch place)
fault_by count place i (Some StoreAccumulator) = fault_if (nat_le 16 i.k) (BadScratch place)
fault_by count place i (Some StoreIndex) = fault_if (nat_le 16 i.k) (BadScratch place)
fault_by count place i (Some Jump) = fault_if (nat_le count (place + 1 + i.k)) (BadJump place)
fault_by count place i (Some (Branch test side)) = fault_if (nat_le count (place + 1 + i.jt) || nat_le count (place + 1 + i.jf)) (BadJump place)
fault_by count place i (Some _) = None

-- the fault of the instruction at index `place`, if it has one
abbrev pub fault_at : ℕ → ℕ → Insn → Option CheckFault
fault_at count place i = fault_by count place i (operation_of i.code)

-- the first option if it has a value, otherwise the second
abbrev pub first_of : Option CheckFault → Option CheckFault → Option CheckFault
first_of (Some fault) later = Some fault
first_of None later = later

-- the first fault of the instructions from index `place` on
abbrev pub fault_from : ℕ → ℕ → List Insn → Option CheckFault
fault_from count place [] = None
fault_from count place (i ∷ is) = first_of (fault_at count place i) (fault_from count (suc place) is)

-- whether an operation is a return
abbrev pub is_return : Option Operation → Bool
is_return (Some ReturnConstant) = true
is_return (Some ReturnAccumulator) = true
is_return _ = false

-- `NoReturn` if the last instruction is not a return
abbrev pub fault_of_last : Option Insn → Option CheckFault
fault_of_last None = None
fault_of_last (Some i) = if is_return (operation_of i.code) then None else Some NoReturn

-- the first fault of a program, if it has one
abbrev pub program_fault : List Insn → Option CheckFault
program_fault p =
    if length p == 0 then Some Empty
    else if nat_lt most_insns (length p) then Some TooLong
    else first_of (fault_from (length p) 0 p) (fault_of_last (slice_get p (length p - 1)))

-- it returns a fault exactly if this is the program's first fault
abbrev pub RefusesFirstFault : Type 0
RefusesFirstFault = (p : List Insn) (fault : CheckFault) → (program_fault p ≡ Some fault) ↔ IsFirstFault p fault

-- it returns None exactly if the program is accepted
abbrev pub RefusesUnaccepted : Type 0
RefusesUnaccepted = (p : List Insn) → (program_fault p ≡ None) ↔ IsAccepted p
