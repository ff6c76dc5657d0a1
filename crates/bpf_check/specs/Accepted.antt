-- Which programs the checker accepts, and the faults of all other programs.
-- A place is a 0-based instruction index. A jump at index n with distance d continues at index n + 1 + d.
use Rattle.std.specs.Prelude.{◌≡◌, ℕ, ◌+◌, ◌*◌, ◌-◌, ◌<◌, ◌≤◌, ◌⊎◌, List, length, Option, Some, None, slice_get, IsSomeAnd}
use Rattle.bpf_check.specs.declared.insn.Insn.{Insn}
use Rattle.bpf_check.specs.declared.checked.CheckFault.{CheckFault}
use Rattle.bpf_check.specs.declared.checked.CheckFault.TheVariants.{Empty, TooLong, UnknownCode, ZeroDivisor, BadScratch, BadJump, NoReturn}
use Rattle.bpf_check.specs.declared.operation.Operand.TheVariants.{Constant}
use Rattle.bpf_check.specs.declared.operation.Arithmetic.TheVariants.{Divide, Modulo}
use Rattle.bpf_check.specs.declared.operation.Operation.{Operation}
use Rattle.bpf_check.specs.declared.operation.Operation.TheVariants.{LoadScratch, IndexScratch, StoreAccumulator, StoreIndex, Compute, Jump, Branch, ReturnConstant, ReturnAccumulator}
use Rattle.bpf_check.specs.Operation.{operation_of}

-- the maximum number of instructions in a program
abbrev pub most_insns : ℕ
most_insns = 4096

-- what an operation requires of its instruction's fields, at index `place` of a program of `count` instructions
abbrev pub FieldsFit : ℕ → ℕ → Insn → Operation → Type 0
FieldsFit count place i LoadScratch = i.k < 16
FieldsFit count place i IndexScratch = i.k < 16
FieldsFit count place i StoreAccumulator = i.k < 16
FieldsFit count place i StoreIndex = i.k < 16
FieldsFit count place i (Compute Divide Constant) = 0 < i.k
FieldsFit count place i (Compute Modulo Constant) = 0 < i.k
FieldsFit count place i Jump = place + 1 + i.k < count
FieldsFit count place i (Branch test side) = (place + 1 + i.jt < count) × (place + 1 + i.jf < count)
FieldsFit count place i _ = Unit {0}

-- the code is known, and the fields fit its operation
abbrev pub IsFine : ℕ → ℕ → Insn → Type 0
IsFine count place i = IsSomeAnd (operation_of i.code) (FieldsFit count place i)

-- the operation is a return
abbrev pub IsReturn : Operation → Type 0
IsReturn ReturnConstant = Unit {0}
IsReturn ReturnAccumulator = Unit {0}
IsReturn _ = ⊥

-- the program has an instruction at index `place`, and `fact` holds of it
abbrev pub At : List Insn → ℕ → (Insn → Type 0) → Type 0
At p place fact = (i : Insn) × (slice_get p place ≡ Some i) × fact i

-- the last instruction is a return
abbrev pub EndsWithReturn : List Insn → Type 0
EndsWithReturn p = At p (length p - 1) (λ i. IsSomeAnd (operation_of i.code) IsReturn)

-- the checker accepts the program
pub record IsAccepted (p : List Insn) : Type 0 where
  pub some : 0 < length p
  pub short : length p ≤ most_insns
  pub each : (place : ℕ) (i : Insn) → slice_get p place ≡ Some i → IsFine (length p) place i
  pub ends : EndsWithReturn p

-- the operation reads or writes a scratch word
abbrev pub UsesScratch : Operation → Type 0
UsesScratch LoadScratch = Unit {0}
UsesScratch IndexScratch = Unit {0}
UsesScratch StoreAccumulator = Unit {0}
UsesScratch StoreIndex = Unit {0}
UsesScratch _ = ⊥

-- the operation divides by the constant k, for the quotient or the remainder
abbrev pub DividesByConstant : Operation → Type 0
DividesByConstant (Compute Divide Constant) = Unit {0}
DividesByConstant (Compute Modulo Constant) = Unit {0}
DividesByConstant _ = ⊥

-- a jump target lies outside the program
abbrev pub JumpsOut : ℕ → ℕ → Insn → Operation → Type 0
JumpsOut count place i Jump = count ≤ place + 1 + i.k
JumpsOut count place i (Branch test side) = (count ≤ place + 1 + i.jt) ⊎ (count ≤ place + 1 + i.jf)
JumpsOut count place i _ = ⊥

-- the instruction at index `place` has this fault
abbrev pub IsFaultAt : ℕ → ℕ → Insn → CheckFault → Type 0
IsFaultAt count place i (UnknownCode at) = (at ≡ place) × (operation_of i.code ≡ None)
IsFaultAt count place i (ZeroDivisor at) = (at ≡ place) × IsSomeAnd (operation_of i.code) DividesByConstant × (i.k ≡ 0)
IsFaultAt count place i (BadScratch at) = (at ≡ place) × IsSomeAnd (operation_of i.code) UsesScratch × (16 ≤ i.k)
IsFaultAt count place i (BadJump at) = (at ≡ place) × IsSomeAnd (operation_of i.code) (JumpsOut count place i)
IsFaultAt count place i Empty = ⊥
IsFaultAt count place i TooLong = ⊥
IsFaultAt count place i NoReturn = ⊥

-- the program has this fault, whatever other faults it has
abbrev pub HasFault : List Insn → CheckFault → Type 0
HasFault p Empty = length p ≡ 0
HasFault p TooLong = most_insns < length p
HasFault p NoReturn = At p (length p - 1) (λ i. IsSomeAnd (operation_of i.code) IsReturn → ⊥)
HasFault p fault = (place : ℕ) × At p place (λ i. IsFaultAt (length p) place i fault)

-- the order of faults: by index, and at one index by kind
abbrev pub rank : ℕ → CheckFault → ℕ
rank count Empty = 0
rank count TooLong = 1
rank count (UnknownCode place) = 4 * place + 2
rank count (ZeroDivisor place) = 4 * place + 3
rank count (BadScratch place) = 4 * place + 4
rank count (BadJump place) = 4 * place + 5
rank count NoReturn = 4 * count + 2

-- the program has this fault and no earlier one
pub record IsFirstFault (p : List Insn) (fault : CheckFault) : Type 0 where
  pub has : HasFault p fault
  pub first : (other : CheckFault) → HasFault p other → rank (length p) fault ≤ rank (length p) other

-- the number of a fault in printed messages
abbrev pub fault_number : CheckFault → ℕ
fault_number Empty = 1
fault_number TooLong = 2
fault_number (UnknownCode place) = 3
fault_number (ZeroDivisor place) = 4
fault_number (BadScratch place) = 5
fault_number (BadJump place) = 6
fault_number NoReturn = 7

-- the instruction index of a fault, if it has one
abbrev pub fault_place : CheckFault → Option ℕ
fault_place (UnknownCode place) = Some place
fault_place (ZeroDivisor place) = Some place
fault_place (BadScratch place) = Some place
fault_place (BadJump place) = Some place
fault_place fault = None
