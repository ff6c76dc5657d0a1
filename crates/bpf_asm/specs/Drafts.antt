-- What the assembler keeps between its two passes. No public contract depends on these definitions.
use Rattle.std.specs.Prelude.{◌≡◌, ℕ, ◌+◌, ◌<◌, ◌≤◌, ◌^◌, ◌⊎◌, List, [], ◌∷◌, length, Option, Some, None, slice_get}
use Rattle.bpf_check.specs.declared.insn.Insn.{Insn}
use Rattle.bpf_check.specs.declared.operation.Operand.TheVariants.{Constant, Index}
use Rattle.bpf_check.specs.declared.operation.Operation.{Operation}
use Rattle.bpf_check.specs.declared.operation.Operation.TheVariants.{Jump, Branch}
use Rattle.bpf_check.specs.Accepted.{most_insns}
use Rattle.bpf_asm.specs.declared.draft.Draft as code
use Rattle.bpf_asm.specs.declared.fault.AsmFault.{AsmFault}
use Rattle.bpf_asm.specs.declared.fault.AsmFault.TheVariants as faults
use Rattle.bpf_asm.specs.Number.{IsNumber}
use Rattle.bpf_asm.specs.Assembly.{LabelAt, instruction_index, body_of, IsBody, IsInsn, BodyFault, IsBranch, FaultAt}

-- an instruction with unresolved labels
pub record Draft : Type 0 where
  pub line : ℕ
  pub code : ℕ
  pub operation : Operation
  pub k : ℕ
  pub first : List ℕ
  pub second : List ℕ

-- the draft in the code, with its borrowed labels as lists of octets
abbrev pub shown_draft : code.Draft → Draft
shown_draft d = record { line = d.line; code = d.code; operation = d.operation; k = d.k; first = d.first.now; second = d.second.now }

-- the draft holds the words of an operation
abbrev pub Keeps : Draft → Operation → List (List ℕ) → Type 0
Keeps d Jump (l ∷ []) = (d.k ≡ 0) × (d.first ≡ l)
Keeps d (Branch test Constant) (w ∷ l ∷ m ∷ []) = IsNumber w d.k × (d.first ≡ l) × (d.second ≡ m)
Keeps d (Branch test Index) (l ∷ m ∷ []) = (d.k ≡ 0) × (d.first ≡ l) × (d.second ≡ m)
Keeps d operation (w ∷ []) = IsNumber w d.k
Keeps d operation [] = d.k ≡ 0
Keeps d _ _ = ⊥

-- the draft is that of this body
pub record IsDraft (body : List (List ℕ)) (d : Draft) : Type 0 where
  pub ws : List (List ℕ)
  pub written : IsBody body d.code d.operation ws
  pub kept : Keeps d d.operation ws

-- why the label of a line is refused
abbrev pub LabelRefused : (List ℕ → Option ℕ) → ℕ → Option (List ℕ) → AsmFault → Type 0
LabelRefused old line label (faults.DoubleLabel n) = (n ≡ line) × ((l : List ℕ) × (label ≡ Some l) × (place : ℕ) × (old l ≡ Some place))
LabelRefused old line label fault = ⊥

-- `next` is the index after a line with this body, when `place` is the index before it
abbrev pub Counted : ℕ → ℕ → List (List ℕ) → Type 0
Counted place next [] = next ≡ place
Counted place next (t ∷ ts) = (next ≡ place + 1) × (place < most_insns) × ((d : Draft) × IsDraft (t ∷ ts) d)

-- why the body of a line is refused in the first pass
abbrev pub CountRefused : ℕ → ℕ → List (List ℕ) → AsmFault → Type 0
CountRefused place line body (faults.TooLong n) = (n ≡ line) × (most_insns ≤ place) × (0 < length body) × ((d : Draft) × IsDraft body d)
CountRefused place line body fault = BodyFault body line fault

-- `look` is a table of the labels on the lines before line n, none of which is defined twice
pub record IsTable (ls : List (List (List ℕ))) (n : ℕ) (look : List ℕ → Option ℕ) : Type 0 where
  pub found : (label : List ℕ) (place : ℕ) → look label ≡ Some place → (m : ℕ) × (m < n) × LabelAt ls m label × (instruction_index ls m ≡ place)
  pub missing : (label : List ℕ) → look label ≡ None → (m : ℕ) → m < n → LabelAt ls m label → ⊥
  pub unique : (k m : ℕ) (label : List ℕ) → k < n → m < n → LabelAt ls k label → LabelAt ls m label → k ≡ m

-- each fault is found at this time or later
abbrev pub NoneBefore : List (List (List ℕ)) → ℕ → Type 0
NoneBefore ls time = (when : ℕ) (other : AsmFault) → FaultAt ls when other → time ≤ when

-- the instruction holds the resolved labels and the number of the draft
abbrev pub Resolves : (List ℕ → Option ℕ) → ℕ → Insn → Draft → Operation → Type 0
Resolves look place i d Jump = (look d.first ≡ Some (place + 1 + i.k)) × (i.jt ≡ 0) × (i.jf ≡ 0)
Resolves look place i d (Branch test side) = (i.k ≡ d.k) × (look d.first ≡ Some (place + 1 + i.jt)) × (look d.second ≡ Some (place + 1 + i.jf)) × (i.jt < 2 ^ 8) × (i.jf < 2 ^ 8)
Resolves look place i d operation = (i.k ≡ d.k) × (i.jt ≡ 0) × (i.jf ≡ 0)

-- the instruction is the draft with its labels resolved, at index `place`
abbrev pub IsResolved : (List ℕ → Option ℕ) → ℕ → Draft → Insn → Type 0
IsResolved look place d i = (i.code ≡ d.code) × Resolves look place i d d.operation

-- the labels of a draft, from the left
abbrev pub labels_kept : Draft → Operation → List (List ℕ)
labels_kept d Jump = d.first ∷ []
labels_kept d (Branch test side) = d.first ∷ d.second ∷ []
labels_kept d operation = []

-- the label of a jump at index `place` names a later instruction within reach
abbrev pub FineLabel : (List ℕ → Option ℕ) → ℕ → Operation → List ℕ → Type 0
FineLabel look place operation label = (distance : ℕ) × (look label ≡ Some (place + 1 + distance)) × (IsBranch operation → distance < 256)

-- the label of a jump at index `place` is undefined, not after the jump, or out of reach
abbrev pub WrongLabel : (List ℕ → Option ℕ) → ℕ → Operation → List ℕ → ℕ → AsmFault → Type 0
WrongLabel look place operation label line (faults.NoLabel n) = (n ≡ line) × (look label ≡ None)
WrongLabel look place operation label line (faults.Backward n) = (n ≡ line) × ((target : ℕ) × (look label ≡ Some target) × (target ≤ place))
WrongLabel look place operation label line (faults.Far n) = (n ≡ line) × IsBranch operation × ((target : ℕ) × (look label ≡ Some target) × (place + 256 < target))
WrongLabel look place operation label line fault = ⊥

-- the fault is that of the draft's first wrong label
pub record Unresolved (look : List ℕ → Option ℕ) (place : ℕ) (d : Draft) (fault : AsmFault) : Type 0 where
  pub j : ℕ
  pub one_of_two : j < 2
  pub label : List ℕ
  pub named : slice_get (labels_kept d d.operation) j ≡ Some label
  pub wrong : WrongLabel look place d.operation label d.line fault
  pub before : (i : ℕ) (l : List ℕ) → i < j → slice_get (labels_kept d d.operation) i ≡ Some l → FineLabel look place d.operation l

-- the body is the source of this instruction at index `place`, by the table of labels `look`
pub record HasInsn (look : List ℕ → Option ℕ) (place : ℕ) (body : List (List ℕ)) (i : Insn) : Type 0 where
  pub d : Draft
  pub draft : IsDraft body d
  pub resolved : IsResolved look place d i

-- why the body of a line is refused in the second pass: it is no instruction, or has a wrong label
abbrev pub InsnRefused : (List ℕ → Option ℕ) → ℕ → ℕ → List (List ℕ) → AsmFault → Type 0
InsnRefused look place line body fault = BodyFault body line fault ⊎ ((d : Draft) × IsDraft body d × (d.line ≡ line) × Unresolved look place d fault)

-- the instruction is that of some line, at index `place`
pub record IsInsnAt (ls : List (List (List ℕ))) (place : ℕ) (i : Insn) : Type 0 where
  pub n : ℕ
  pub line : List (List ℕ)
  pub found : slice_get ls n ≡ Some line
  pub here : instruction_index ls n ≡ place
  pub insn : IsInsn ls place (body_of line) i
