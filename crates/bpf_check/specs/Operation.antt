-- Instruction codes, numbered as in the BSD header bpf.h, with one row per code.
use Rattle.std.specs.Prelude.{ℕ, List, [], ◌∷◌, Option, Some, None, ◌==◌, if◌then◌else◌}
use Rattle.bpf_check.specs.declared.operation.Width.TheVariants.{Word, Half, Byte}
use Rattle.bpf_check.specs.declared.operation.Operand.TheVariants.{Constant, Index}
use Rattle.bpf_check.specs.declared.operation.Arithmetic.TheVariants.{Add, Subtract, Multiply, Divide, Or, And, ShiftLeft, ShiftRight, Modulo, ExclusiveOr}
use Rattle.bpf_check.specs.declared.operation.Comparison.TheVariants.{Equal, AtLeast, Above, SharesBit}
use Rattle.bpf_check.specs.declared.operation.Operation.{Operation}
use Rattle.bpf_check.specs.declared.operation.Operation.TheVariants.{LoadAbsolute, LoadIndirect, LoadConstant, LoadScratch, LoadLength, IndexConstant, IndexScratch, IndexLength, IndexHeader, StoreAccumulator, StoreIndex, Compute, Negate, Jump, Branch, ReturnConstant, ReturnAccumulator, ToIndex, ToAccumulator}

-- each code with its operation
abbrev pub table : List (ℕ × Operation)
table =
    (0x20, LoadAbsolute Word) ∷ (0x28, LoadAbsolute Half) ∷ (0x30, LoadAbsolute Byte)
    ∷ (0x40, LoadIndirect Word) ∷ (0x48, LoadIndirect Half) ∷ (0x50, LoadIndirect Byte)
    ∷ (0x00, LoadConstant) ∷ (0x60, LoadScratch) ∷ (0x80, LoadLength)
    ∷ (0x01, IndexConstant) ∷ (0x61, IndexScratch) ∷ (0x81, IndexLength)
    ∷ (0xb1, IndexHeader) ∷ (0x02, StoreAccumulator) ∷ (0x03, StoreIndex)
    ∷ (0x04, Compute Add Constant) ∷ (0x14, Compute Subtract Constant)
    ∷ (0x24, Compute Multiply Constant) ∷ (0x34, Compute Divide Constant)
    ∷ (0x44, Compute Or Constant) ∷ (0x54, Compute And Constant)
    ∷ (0x64, Compute ShiftLeft Constant) ∷ (0x74, Compute ShiftRight Constant)
    ∷ (0x0c, Compute Add Index) ∷ (0x1c, Compute Subtract Index)
    ∷ (0x2c, Compute Multiply Index) ∷ (0x3c, Compute Divide Index)
    ∷ (0x4c, Compute Or Index) ∷ (0x5c, Compute And Index)
    ∷ (0x6c, Compute ShiftLeft Index) ∷ (0x7c, Compute ShiftRight Index)
    ∷ (0x84, Negate) ∷ (0x05, Jump)
    ∷ (0x15, Branch Equal Constant) ∷ (0x35, Branch AtLeast Constant)
    ∷ (0x25, Branch Above Constant) ∷ (0x45, Branch SharesBit Constant)
    ∷ (0x1d, Branch Equal Index) ∷ (0x3d, Branch AtLeast Index)
    ∷ (0x2d, Branch Above Index) ∷ (0x4d, Branch SharesBit Index)
    ∷ (0x06, ReturnConstant) ∷ (0x16, ReturnAccumulator)
    ∷ (0x07, ToIndex) ∷ (0x87, ToAccumulator)
    ∷ (0x94, Compute Modulo Constant) ∷ (0x9c, Compute Modulo Index)
    ∷ (0xa4, Compute ExclusiveOr Constant) ∷ (0xac, Compute ExclusiveOr Index) ∷ []

-- the operation of the first row with this code, or None
abbrev pub in_rows : List (ℕ × Operation) → ℕ → Option Operation
in_rows [] code = None
in_rows (row ∷ rows) code = if row.0 == code then Some row.1 else in_rows rows code

-- the operation of a code, or None if the code is unknown
unfoldable pub operation_of : ℕ → Option Operation
operation_of code = in_rows table code
