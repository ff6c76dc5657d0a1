-- The text of a program, with one line per instruction.
use Rattle.std.specs.Prelude.{ℕ, ◌+◌, List, [], ◌∷◌, ◌++◌, Bool, false, ◌||◌, Option, Some, None, drop, codes, decimal, ◌==◌, if◌then◌else◌}
use Rattle.bpf_check.specs.declared.insn.Insn.{Insn}
use Rattle.bpf_check.specs.declared.operation.Operation.{Operation}
use Rattle.bpf_check.specs.declared.operation.Operation.TheVariants.{Jump, Branch}
use Rattle.bpf_check.specs.Operation.{operation_of}
use Rattle.bpf_asm.specs.declared.form.Piece.{Piece}
use Rattle.bpf_asm.specs.declared.form.Piece.TheVariants.{Comma, Number, Label}
use Rattle.bpf_asm.specs.Form.{mnemonic, pieces, fixed}

-- the label of the instruction at index `place`
abbrev pub label_text : ℕ → List ℕ
label_text place = codes "L" ++ decimal place

-- the indices that an instruction of this operation, at index `place`, may jump to, in the order of its labels
abbrev pub targets_by : ℕ → Insn → Operation → List ℕ
targets_by place i Jump = (place + 1 + i.k) ∷ []
targets_by place i (Branch comparison side) = (place + 1 + i.jt) ∷ (place + 1 + i.jf) ∷ []
targets_by place i _ = []

-- the same by the operation of a code, which may be unknown
unfoldable pub targets : ℕ → Insn → Option Operation → List ℕ
targets place i None = []
targets place i (Some operation) = targets_by place i operation

-- the list contains x
abbrev pub has_number : ℕ → List ℕ → Bool
has_number x [] = false
has_number x (y ∷ ys) = (y == x) || has_number x ys

-- one of these instructions, the first of which is at index `place`, has this jump target
abbrev pub is_target : ℕ → ℕ → List Insn → Bool
is_target target place [] = false
is_target target place (i ∷ is) = has_number target (targets place i (operation_of i.code)) || is_target target (place + 1) is

-- the label of the first index
abbrev pub first_label : List ℕ → List ℕ
first_label [] = []
first_label (t ∷ ts) = label_text t

-- the text of the tokens, with the number and the labels of these indices for the placeholders
abbrev pub pieces_text : ℕ → List ℕ → List Piece → List ℕ
pieces_text k ts [] = []
pieces_text k ts (Number ∷ ps) = decimal k ++ pieces_text k ts ps
pieces_text k ts (Label ∷ ps) = first_label ts ++ pieces_text k (drop 1 ts) ps
pieces_text k ts (Comma ∷ ps) = codes ", " ++ pieces_text k ts ps
pieces_text k ts (p ∷ ps) = fixed p ++ pieces_text k ts ps

-- the operands, separated from the mnemonic by one space
abbrev pub operands_text : ℕ → List ℕ → List Piece → List ℕ
operands_text k ts [] = []
operands_text k ts (p ∷ ps) = codes " " ++ pieces_text k ts (p ∷ ps)

-- an instruction, without the label and the end of its line
unfoldable pub insn_text : ℕ → Insn → Option Operation → List ℕ
insn_text place i None = []
insn_text place i (Some operation) = mnemonic operation ++ operands_text i.k (targets_by place i operation) (pieces operation)

-- the label at the start of a line, if the instruction is a jump target
abbrev pub mark_text : Bool → ℕ → List ℕ
mark_text marked place = if marked then label_text place ++ codes ": " else []

-- the line of an instruction
abbrev pub line_text : List Insn → ℕ → Insn → List ℕ
line_text p place i = mark_text (is_target place 0 p) place ++ (insn_text place i (operation_of i.code) ++ codes "\n")

-- the lines of the instructions from index `place` on
abbrev pub lines_text : List Insn → ℕ → List Insn → List ℕ
lines_text p place [] = []
lines_text p place (i ∷ is) = line_text p place i ++ lines_text p (place + 1) is

-- the whole text
abbrev pub program_text : List Insn → List ℕ
program_text p = lines_text p 0 p
