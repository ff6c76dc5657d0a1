-- Instructions with 0 in the fields that their operations don't use.
use Rattle.std.specs.Prelude.{Bool, true, false, Option, Some, None, if◌then◌else◌}
use Rattle.bpf_check.specs.declared.insn.Insn.{Insn}
use Rattle.bpf_check.specs.declared.operation.Operand.TheVariants.{Index}
use Rattle.bpf_check.specs.declared.operation.Operation.{Operation}
use Rattle.bpf_check.specs.declared.operation.Operation.TheVariants.{LoadLength, IndexLength, Compute, Negate, Branch, ReturnAccumulator, ToIndex, ToAccumulator}
use Rattle.bpf_check.specs.Operation.{operation_of}

-- the operation uses the constant k of its instruction
abbrev pub uses_constant : Operation → Bool
uses_constant LoadLength = false
uses_constant IndexLength = false
uses_constant (Compute arithmetic Index) = false
uses_constant Negate = false
uses_constant (Branch comparison Index) = false
uses_constant ReturnAccumulator = false
uses_constant ToIndex = false
uses_constant ToAccumulator = false
uses_constant operation = true

-- the operation uses the distances jt and jf of its instruction
abbrev pub uses_distances : Operation → Bool
uses_distances (Branch comparison side) = true
uses_distances operation = false

-- the instruction with 0 in the fields that this operation doesn't use
abbrev pub cleared_as : Insn → Option Operation → Insn
cleared_as i None = i
cleared_as i (Some operation) = record {
  code = i.code;
  jt = if uses_distances operation then i.jt else 0;
  jf = if uses_distances operation then i.jf else 0;
  k = if uses_constant operation then i.k else 0;
}

-- the instruction with 0 in the fields that its operation doesn't use
abbrev pub cleared : Insn → Insn
cleared i = cleared_as i (operation_of i.code)
