-- The earlier language, in which a program had at most 512 instructions and there was neither `mod` nor `xor`.
-- A lemma in src/laws.rt states that its programs are still accepted and run in the same way.
use Rattle.std.specs.Prelude.{◌≡◌, ℕ, ◌+◌, ◌-◌, ◌<◌, ◌≤◌, List, [], ◌∷◌, length, Option, Some, None, slice_get, IsSomeAnd}
use Rattle.bpf_check.specs.declared.insn.Insn.{Insn}
use Rattle.bpf_check.specs.declared.operation.Width.TheVariants.{Word, Half, Byte}
use Rattle.bpf_check.specs.declared.operation.Operand.TheVariants.{Constant, Index}
use Rattle.bpf_check.specs.declared.operation.Arithmetic.TheVariants.{Add, Subtract, Multiply, Divide, Or, And, ShiftLeft, ShiftRight}
use Rattle.bpf_check.specs.declared.operation.Comparison.TheVariants.{Equal, AtLeast, Above, SharesBit}
use Rattle.bpf_check.specs.declared.operation.Operation.{Operation}
use Rattle.bpf_check.specs.declared.operation.Operation.TheVariants.{LoadAbsolute, LoadIndirect, LoadConstant, LoadScratch, LoadLength, IndexConstant, IndexScratch, IndexLength, IndexHeader, StoreAccumulator, StoreIndex, Compute, Negate, Jump, Branch, ReturnConstant, ReturnAccumulator, ToIndex, ToAccumulator}
use Rattle.bpf_check.specs.Operation.{in_rows}
use Rattle.bpf_check.specs.Accepted.{IsReturn, At}
use Rattle.bpf_run.specs.declared.machine.Machine.{Machine}
use Rattle.bpf_run.specs.declared.machine.Step.{Step}
use Rattle.bpf_run.specs.declared.machine.Step.TheVariants.{End}
use Rattle.bpf_run.specs.Start.{start}
use Rattle.bpf_run.specs.Machine.{row_if}
use Rattle.bpf_run.specs.Chain.{Point, Follows}

-- the codes of the earlier language
abbrev pub earlier_table : List (ℕ × Operation)
earlier_table =
    (0x20, LoadAbsolute Word) ∷ (0x28, LoadAbsolute Half) ∷ (0x30, LoadAbsolute Byte)
    ∷ (0x40, LoadIndirect Word) ∷ (0x48, LoadIndirect Half) ∷ (0x50, LoadIndirect Byte)
    ∷ (0x00, LoadConstant) ∷ (0x60, LoadScratch) ∷ (0x80, LoadLength)
    ∷ (0x01, IndexConstant) ∷ (0x61, IndexScratch) ∷ (0x81, IndexLength)
    ∷ (0xb1, IndexHeader) ∷ (0x02, StoreAccumulator) ∷ (0x03, StoreIndex)
    ∷ (0x04, Compute Add Constant) ∷ (0x14, Compute Subtract Constant)
    ∷ (0x24, Compute Multiply Constant) ∷ (0x34, Compute Divide Constant)
    ∷ (0x44, Compute Or Constant) ∷ (0x54, Compute And Constant)
    ∷ (0x64, Compute ShiftLeft Constant) ∷ (0x74, Compute ShiftRight Constant)
    ∷ (0x0c, Compute Add Index) ∷ (0x1c, Compute Subtract Index)
    ∷ (0x2c, Compute Multiply Index) ∷ (0x3c, Compute Divide Index)
    ∷ (0x4c, Compute Or Index) ∷ (0x5c, Compute And Index)
    ∷ (0x6c, Compute ShiftLeft Index) ∷ (0x7c, Compute ShiftRight Index)
    ∷ (0x84, Negate) ∷ (0x05, Jump)
    ∷ (0x15, Branch Equal Constant) ∷ (0x35, Branch AtLeast Constant)
    ∷ (0x25, Branch Above Constant) ∷ (0x45, Branch SharesBit Constant)
    ∷ (0x1d, Branch Equal Index) ∷ (0x3d, Branch AtLeast Index)
    ∷ (0x2d, Branch Above Index) ∷ (0x4d, Branch SharesBit Index)
    ∷ (0x06, ReturnConstant) ∷ (0x16, ReturnAccumulator)
    ∷ (0x07, ToIndex) ∷ (0x87, ToAccumulator) ∷ []

-- the operation of a code in the earlier language
unfoldable pub earlier_operation_of : ℕ → Option Operation
earlier_operation_of code = in_rows earlier_table code

-- what an operation required of its instruction's fields
abbrev pub FieldsFitted : ℕ → ℕ → Insn → Operation → Type 0
FieldsFitted count place i LoadScratch = i.k < 16
FieldsFitted count place i IndexScratch = i.k < 16
FieldsFitted count place i StoreAccumulator = i.k < 16
FieldsFitted count place i StoreIndex = i.k < 16
FieldsFitted count place i (Compute Divide Constant) = 0 < i.k
FieldsFitted count place i Jump = place + 1 + i.k < count
FieldsFitted count place i (Branch test side) = (place + 1 + i.jt < count) × (place + 1 + i.jf < count)
FieldsFitted count place i _ = Unit {0}

-- the program was accepted
pub record WasAccepted (p : List Insn) : Type 0 where
  pub some : 0 < length p
  pub short : length p ≤ 512
  pub each : (place : ℕ) (i : Insn) → slice_get p place ≡ Some i → IsSomeAnd (earlier_operation_of i.code) (FieldsFitted (length p) place i)
  pub ends : At p (length p - 1) (λ i. IsSomeAnd (earlier_operation_of i.code) IsReturn)

-- the effect of the instruction, if there is one; the operations have the effects that they have now
abbrev pub led_to : Option Insn → List ℕ → Machine → Option Step
led_to None packet m = None
led_to (Some i) packet m = row_if (earlier_operation_of i.code) i packet m

-- the effect of the instruction at a state of a run
abbrev pub led : List Insn → List ℕ → Point → Option Step
led p packet from = led_to (slice_get p from.place) packet from.machine

-- the list of states was a chain
pub record WasChain (p : List Insn) (packet : List ℕ) (chain : List Point) : Type 0 where
  pub starts : slice_get chain 0 ≡ Some (record { place = 0; machine = start })
  pub follows : (k : ℕ) (from to : Point) → slice_get chain k ≡ Some from → slice_get chain (k + 1) ≡ Some to → Follows (led p packet from) from to
  pub inside : (k : ℕ) (at : Point) → slice_get chain k ≡ Some at → at.place < length p

-- the program gave this value after this number of steps
pub record Gave (p : List Insn) (packet : List ℕ) (value steps : ℕ) : Type 0 where
  pub chain : List Point
  pub was_chain : WasChain p packet chain
  pub long : length chain ≡ steps
  pub last : Point
  pub at_end : slice_get chain (steps - 1) ≡ Some last
  pub ends : led p packet last ≡ Some (End value)
