-- The effect of one instruction, given the state of the machine and the packet.
-- All words have 32 bits, and comparisons are unsigned.
use Rattle.std.specs.Prelude.{ℕ, ◌+◌, ◌-◌, ◌*◌, ◌/◌, ◌%◌, ◌^◌, Bool, not, List, length, Option, Some, None, ◌==◌, nat_lt, nat_le, if◌then◌else◌, slice_get, slice_index, slice_set, bit_and, bit_or, bit_xor}
use Rattle.bpf_check.specs.declared.insn.Insn.{Insn}
use Rattle.bpf_check.specs.declared.operation.Width.{Width}
use Rattle.bpf_check.specs.declared.operation.Width.TheVariants.{Word, Half, Byte}
use Rattle.bpf_check.specs.declared.operation.Operand.{Operand}
use Rattle.bpf_check.specs.declared.operation.Operand.TheVariants.{Constant, Index}
use Rattle.bpf_check.specs.declared.operation.Arithmetic.{Arithmetic}
use Rattle.bpf_check.specs.declared.operation.Arithmetic.TheVariants.{Add, Subtract, Multiply, Divide, Or, And, ShiftLeft, ShiftRight, Modulo, ExclusiveOr}
use Rattle.bpf_check.specs.declared.operation.Comparison.{Comparison}
use Rattle.bpf_check.specs.declared.operation.Comparison.TheVariants.{Equal, AtLeast, Above, SharesBit}
use Rattle.bpf_check.specs.declared.operation.Operation.{Operation}
use Rattle.bpf_check.specs.declared.operation.Operation.TheVariants.{LoadAbsolute, LoadIndirect, LoadConstant, LoadScratch, LoadLength, IndexConstant, IndexScratch, IndexLength, IndexHeader, StoreAccumulator, StoreIndex, Compute, Negate, Jump, Branch, ReturnConstant, ReturnAccumulator, ToIndex, ToAccumulator}
use Rattle.bpf_check.specs.Operation.{operation_of}
use Rattle.bpf_run.specs.declared.machine.Machine.{Machine}
use Rattle.bpf_run.specs.declared.machine.Step.{Step}
use Rattle.bpf_run.specs.declared.machine.Step.TheVariants.{Next, Skip, End}

-- the value of the octets from offset `at` on, in network order, or None if one of them is outside the packet
abbrev pub loaded : Width → List ℕ → ℕ → Option ℕ
loaded Byte packet at = slice_get packet at
loaded Half packet at =
    if nat_lt (at + 1) (length packet) then Some (slice_index packet at * 256 + slice_index packet (at + 1)) else None
loaded Word packet at =
    if nat_lt (at + 3) (length packet)
    then Some ((slice_index packet at * 256 + slice_index packet (at + 1)) * 65536 + (slice_index packet (at + 2) * 256 + slice_index packet (at + 3)))
    else None

-- the result of an operation on two words, modulo 2^32; a shift by more than 31 gives 0
abbrev pub computed : Arithmetic → ℕ → ℕ → ℕ
computed Add a b = (a + b) % 2 ^ 32
computed Subtract a b = (a + (2 ^ 32 - b)) % 2 ^ 32
computed Multiply a b = (a * b) % 2 ^ 32
computed Divide a b = a / b
computed Modulo a b = a % b
computed Or a b = bit_or a b
computed And a b = bit_and a b
computed ExclusiveOr a b = bit_xor a b
computed ShiftLeft a b = if nat_lt b 32 then (a * 2 ^ b) % 2 ^ 32 else 0
computed ShiftRight a b = if nat_lt b 32 then a / 2 ^ b else 0

-- whether a comparison of two words holds
abbrev pub compare : Comparison → ℕ → ℕ → Bool
compare Equal a b = a == b
compare AtLeast a b = nat_le b a
compare Above a b = nat_lt b a
compare SharesBit a b = not (bit_and a b == 0)

-- the value of an operand
abbrev pub right_side : Operand → Insn → Machine → ℕ
right_side Constant i m = i.k
right_side Index i m = m.x

-- a load into A continues with the value, or ends the run with 0 if there is none
abbrev pub put_a : Machine → Option ℕ → Step
put_a m (Some v) = Next (record m { a = v })
put_a m None = End 0

-- a load into X, likewise
abbrev pub put_x : Machine → Option ℕ → Step
put_x m (Some v) = Next (record m { x = v })
put_x m None = End 0

-- four times the low four bits
abbrev pub header_length : Option ℕ → Option ℕ
header_length (Some v) = Some (4 * bit_and v 15)
header_length None = None

-- the result if the index of the scratch word is below 16, otherwise None
abbrev pub in_scratch : ℕ → Step → Option Step
in_scratch k result = if nat_lt k 16 then Some result else None

-- the effect of each operation, one row per operation; X + k does not wrap
abbrev pub row : Operation → Insn → List ℕ → Machine → Option Step
row (LoadAbsolute width) i packet m = Some (put_a m (loaded width packet i.k))
row (LoadIndirect width) i packet m = Some (put_a m (loaded width packet (m.x + i.k)))
row LoadConstant i packet m = Some (Next (record m { a = i.k }))
row LoadScratch i packet m = in_scratch i.k (Next (record m { a = slice_index m.scratch i.k }))
row LoadLength i packet m = Some (Next (record m { a = length packet }))
row IndexConstant i packet m = Some (Next (record m { x = i.k }))
row IndexScratch i packet m = in_scratch i.k (Next (record m { x = slice_index m.scratch i.k }))
row IndexLength i packet m = Some (Next (record m { x = length packet }))
row IndexHeader i packet m = Some (put_x m (header_length (slice_get packet i.k)))
row StoreAccumulator i packet m = in_scratch i.k (Next (record m { scratch = slice_set m.scratch i.k m.a }))
row StoreIndex i packet m = in_scratch i.k (Next (record m { scratch = slice_set m.scratch i.k m.x }))
row (Compute Divide Constant) i packet m = if i.k == 0 then None else Some (Next (record m { a = m.a / i.k }))
row (Compute Divide Index) i packet m = Some (if m.x == 0 then End 0 else Next (record m { a = m.a / m.x }))
row (Compute Modulo Constant) i packet m = if i.k == 0 then None else Some (Next (record m { a = m.a % i.k }))
row (Compute Modulo Index) i packet m = Some (if m.x == 0 then End 0 else Next (record m { a = m.a % m.x }))
row (Compute arithmetic side) i packet m = Some (Next (record m { a = computed arithmetic m.a (right_side side i m) }))
row Negate i packet m = Some (Next (record m { a = (2 ^ 32 - m.a) % 2 ^ 32 }))
row Jump i packet m = Some (Skip i.k)
row (Branch comparison side) i packet m = Some (Skip (if compare comparison m.a (right_side side i m) then i.jt else i.jf))
row ReturnConstant i packet m = Some (End i.k)
row ReturnAccumulator i packet m = Some (End m.a)
row ToIndex i packet m = Some (Next (record m { x = m.a }))
row ToAccumulator i packet m = Some (Next (record m { a = m.x }))

-- the effect of an operation, if there is one
abbrev pub row_if : Option Operation → Insn → List ℕ → Machine → Option Step
row_if None i packet m = None
row_if (Some operation) i packet m = row operation i packet m

-- the effect of an instruction, or None if its code is unknown, its constant divisor is 0 or its scratch word doesn't exist
abbrev pub effect : Insn → List ℕ → Machine → Option Step
effect i packet m = row_if (operation_of i.code) i packet m
