-- The assembler's language: which text represents which program, and which faults a text has.
-- A text is a list of lines of tokens, indexed from 0. Faults number lines from 1. A place is a 0-based instruction index.
use Rattle.std.specs.Prelude.{◌≡◌, ℕ, ◌+◌, ◌*◌, ◌<◌, ◌≤◌, ◌^◌, ◌⊎◌, List, [], ◌∷◌, length, map, take, drop, Option, Some, None, Bool, true, false, ◌&&◌, slice_get, count_by, codes, if◌then◌else◌}
use Rattle.std.specs.Str.{bytes_eq}
use Rattle.std.specs.Str.Lines.{lines}
use Rattle.bpf_check.specs.declared.insn.Insn.{Insn}
use Rattle.bpf_check.specs.declared.operation.Operand.TheVariants.{Constant, Index}
use Rattle.bpf_check.specs.declared.operation.Operation.{Operation}
use Rattle.bpf_check.specs.declared.operation.Operation.TheVariants.{Jump, Branch}
use Rattle.bpf_check.specs.Operation.{operation_of}
use Rattle.bpf_check.specs.Accepted.{most_insns}
use Rattle.bpf_asm.specs.declared.fault.AsmFault.{AsmFault}
use Rattle.bpf_asm.specs.declared.fault.AsmFault.TheVariants as faults
use Rattle.bpf_asm.specs.Form.{mnemonic}
use Rattle.bpf_asm.specs.Token.{is_label, tokens}
use Rattle.bpf_asm.specs.Spelling.{kinds, spelled_with, AreOpen}
use Rattle.bpf_asm.specs.Number.{IsNumber}

-- the tokens of each line of a text
abbrev pub token_lines : List ℕ → List (List (List ℕ))
token_lines text = map tokens (lines text)

-- the tokens are a label and `:`
abbrev pub begins_label : List ℕ → List ℕ → Bool
begins_label l m = is_label l && bytes_eq m (codes ":")

-- the label at the start of a line, if there is one
abbrev pub label_of : List (List ℕ) → Option (List ℕ)
label_of [] = None
label_of (l ∷ []) = None
label_of (l ∷ m ∷ ts) = if begins_label l m then Some l else None

-- the tokens after the label
abbrev pub body_of : List (List ℕ) → List (List ℕ)
body_of [] = []
body_of (l ∷ []) = l ∷ []
body_of (l ∷ m ∷ ts) = if begins_label l m then ts else l ∷ m ∷ ts

-- there is a token
abbrev pub some_token : List (List ℕ) → Bool
some_token [] = false
some_token (t ∷ ts) = true

-- whether the line has an instruction
abbrev pub has_body : List (List ℕ) → Bool
has_body line = some_token (body_of line)

-- the number of instructions before line n, which is the index that a label on line n names
abbrev pub instruction_index : List (List (List ℕ)) → ℕ → ℕ
instruction_index ls n = count_by has_body (take n ls)

-- line n begins with this label
abbrev pub LabelAt : List (List (List ℕ)) → ℕ → List ℕ → Type 0
LabelAt ls n label = (line : List (List ℕ)) × (slice_get ls n ≡ Some line) × (label_of line ≡ Some label)

-- the body spells the operation of this code, with the words `ws` for its placeholders
pub record IsBody (body : List (List ℕ)) (code : ℕ) (operation : Operation) (ws : List (List ℕ)) : Type 0 where
  pub row : operation_of code ≡ Some operation
  pub form : AreOpen (kinds operation) ws
  pub spelled : body ≡ mnemonic operation ∷ spelled_with (kinds operation) ws

-- the label names the index that a jump at index `place` with this distance continues at
abbrev pub IsAtDistance : List (List (List ℕ)) → ℕ → List ℕ → ℕ → Type 0
IsAtDistance ls place label distance = (n : ℕ) × LabelAt ls n label × (instruction_index ls n ≡ place + 1 + distance)

-- how the words of an operation, at index `place`, fill the fields of its instruction
abbrev pub Puts : List (List (List ℕ)) → ℕ → Insn → Operation → List (List ℕ) → Type 0
Puts ls place i Jump (l ∷ []) = IsAtDistance ls place l i.k × (i.jt ≡ 0) × (i.jf ≡ 0)
Puts ls place i (Branch test Constant) (w ∷ l ∷ m ∷ []) = IsNumber w i.k × IsAtDistance ls place l i.jt × IsAtDistance ls place m i.jf
Puts ls place i (Branch test Index) (l ∷ m ∷ []) = (i.k ≡ 0) × IsAtDistance ls place l i.jt × IsAtDistance ls place m i.jf
Puts ls place i operation (w ∷ []) = IsNumber w i.k × (i.jt ≡ 0) × (i.jf ≡ 0)
Puts ls place i operation [] = (i.k ≡ 0) × (i.jt ≡ 0) × (i.jf ≡ 0)
Puts ls place i _ _ = ⊥

-- the body is the source of this instruction at index `place`
pub record IsInsn (ls : List (List (List ℕ))) (place : ℕ) (body : List (List ℕ)) (i : Insn) : Type 0 where
  pub operation : Operation
  pub ws : List (List ℕ)
  pub written : IsBody body i.code operation ws
  pub puts : Puts ls place i operation ws
  pub ranges : (i.jt < 2 ^ 8) × (i.jf < 2 ^ 8)

-- the lines are a text of the program: no label is defined twice, and each body is the source of its instruction
pub record Assembles (ls : List (List (List ℕ))) (p : List Insn) : Type 0 where
  pub labels : (m n : ℕ) (label : List ℕ) → LabelAt ls m label → LabelAt ls n label → m ≡ n
  pub each : (n : ℕ) (line : List (List ℕ)) → slice_get ls n ≡ Some line → has_body line ≡ true →
      (i : Insn) × (slice_get p (instruction_index ls n) ≡ Some i) × IsInsn ls (instruction_index ls n) (body_of line) i
  pub count : length p ≡ instruction_index ls (length ls)
  pub short : length p ≤ most_insns

-- ---- faults

-- the word is the mnemonic of some operation
abbrev pub IsMnemonic : List ℕ → Type 0
IsMnemonic word = (code : ℕ) × (operation : Operation) × (operation_of code ≡ Some operation) × (mnemonic operation ≡ word)

-- the body has a first word, and `fact` holds of it
abbrev pub FirstWord : (List ℕ → Type 0) → List (List ℕ) → Type 0
FirstWord fact [] = ⊥
FirstWord fact (word ∷ ts) = fact word

-- the body has the form of some operation, whatever its numbers are
abbrev pub HasForm : List (List ℕ) → Type 0
HasForm body = (code : ℕ) × (operation : Operation) × (ws : List (List ℕ)) × IsBody body code operation ws

-- the labels among the words of an operation
abbrev pub labels_in : List (List ℕ) → Operation → List (List ℕ)
labels_in ws Jump = ws
labels_in ws (Branch test Constant) = drop 1 ws
labels_in ws (Branch test Index) = ws
labels_in ws operation = []

-- the number among the words has no digit or is too large
abbrev pub WrongNumber : List (List ℕ) → Operation → Type 0
WrongNumber [] operation = ⊥
WrongNumber (w ∷ ws) Jump = ⊥
WrongNumber (w ∷ ws) (Branch test Index) = ⊥
WrongNumber (w ∷ ws) operation = (k : ℕ) → IsNumber w k → ⊥

-- a conditional jump
abbrev pub IsBranch : Operation → Type 0
IsBranch (Branch test side) = Unit {0}
IsBranch operation = ⊥

-- the first word is no mnemonic, the operands have no form of the mnemonic, or a number is wrong
abbrev pub BodyFault : List (List ℕ) → ℕ → AsmFault → Type 0
BodyFault body line (faults.Mnemonic n) = (n ≡ line) × FirstWord (λ word. IsMnemonic word → ⊥) body
BodyFault body line (faults.Operand n) = (n ≡ line) × FirstWord IsMnemonic body × (HasForm body → ⊥)
BodyFault body line (faults.Number n) = (n ≡ line) × ((code : ℕ) × (operation : Operation) × (ws : List (List ℕ)) × IsBody body code operation ws × WrongNumber ws operation)
BodyFault body line fault = ⊥

-- the label of a jump at index `place` is undefined, not after the jump, or out of reach of a conditional jump
abbrev pub LabelFault : List (List (List ℕ)) → ℕ → Operation → List ℕ → ℕ → AsmFault → Type 0
LabelFault ls place operation label line (faults.NoLabel n) = (n ≡ line) × ((m : ℕ) → LabelAt ls m label → ⊥)
LabelFault ls place operation label line (faults.Backward n) = (n ≡ line) × ((m : ℕ) × LabelAt ls m label × (instruction_index ls m ≤ place))
LabelFault ls place operation label line (faults.Far n) = (n ≡ line) × IsBranch operation × ((m : ℕ) × LabelAt ls m label × (place + 256 < instruction_index ls m))
LabelFault ls place operation label line fault = ⊥

-- an earlier line has the same label
pub record IsDouble (ls : List (List (List ℕ))) (n : ℕ) (line : List (List ℕ)) : Type 0 where
  pub label : List ℕ
  pub named : label_of line ≡ Some label
  pub earlier : ℕ
  pub before : earlier < n
  pub first : LabelAt ls earlier label

-- a fault found in the pass over the lines, with its time: of each line first the label, then the body, then the limit
abbrev pub LineFault : List (List (List ℕ)) → ℕ → ℕ → List (List ℕ) → AsmFault → Type 0
LineFault ls time n line (faults.DoubleLabel k) = (k ≡ n + 1) × (time ≡ 3 * n) × IsDouble ls n line
LineFault ls time n line (faults.TooLong k) = (k ≡ n + 1) × (time ≡ 3 * n + 2) × (has_body line ≡ true) × (most_insns ≤ instruction_index ls n)
LineFault ls time n line fault = (time ≡ 3 * n + 1) × BodyFault (body_of line) (n + 1) fault

-- a fault of a jump's label, found after the pass over all lines: by the index of the jump, then by the label from the left
pub record JumpFault (ls : List (List (List ℕ))) (time n : ℕ) (line : List (List ℕ)) (fault : AsmFault) : Type 0 where
  pub code : ℕ
  pub operation : Operation
  pub ws : List (List ℕ)
  pub written : IsBody (body_of line) code operation ws
  pub j : ℕ
  pub one_of_two : j < 2
  pub label : List ℕ
  pub named : slice_get (labels_in ws operation) j ≡ Some label
  pub after : time ≡ 3 * length ls + 2 * instruction_index ls n + j
  pub wrong : LabelFault ls (instruction_index ls n) operation label (n + 1) fault

-- the text has this fault, found at this time
abbrev pub FaultAt : List (List (List ℕ)) → ℕ → AsmFault → Type 0
FaultAt ls time fault = (n : ℕ) × (line : List (List ℕ)) × (slice_get ls n ≡ Some line) × (LineFault ls time n line fault ⊎ JumpFault ls time n line fault)

-- the text has this fault and no earlier one
pub record IsFirstFault (ls : List (List (List ℕ))) (fault : AsmFault) : Type 0 where
  pub time : ℕ
  pub has : FaultAt ls time fault
  pub first : (when : ℕ) (other : AsmFault) → FaultAt ls when other → time ≤ when

-- the errors that an assembler may return: the first fault, or `NoMemory` if the text has no fault
abbrev pub IsAssemblyFault : List (List (List ℕ)) → AsmFault → Type 0
IsAssemblyFault ls faults.NoMemory = (time : ℕ) (fault : AsmFault) → FaultAt ls time fault → ⊥
IsAssemblyFault ls fault = IsFirstFault ls fault

-- the number of a fault in printed messages
abbrev pub fault_number : AsmFault → ℕ
fault_number (faults.Mnemonic line) = 1
fault_number (faults.Operand line) = 2
fault_number (faults.Number line) = 3
fault_number (faults.DoubleLabel line) = 4
fault_number (faults.NoLabel line) = 5
fault_number (faults.Backward line) = 6
fault_number (faults.Far line) = 7
fault_number (faults.TooLong line) = 8
fault_number faults.NoMemory = 9

-- the line number of a fault, if it has one
abbrev pub fault_line : AsmFault → Option ℕ
fault_line (faults.Mnemonic line) = Some line
fault_line (faults.Operand line) = Some line
fault_line (faults.Number line) = Some line
fault_line (faults.DoubleLabel line) = Some line
fault_line (faults.NoLabel line) = Some line
fault_line (faults.Backward line) = Some line
fault_line (faults.Far line) = Some line
fault_line (faults.TooLong line) = Some line
fault_line faults.NoMemory = None
