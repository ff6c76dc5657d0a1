-- How tokens spell the operands of an operation: fixed tokens, and placeholders for numbers and labels.
use Rattle.std.specs.Prelude.{◌≡◌, ℕ, List, [], ◌∷◌, ◌++◌, map, true}
use Rattle.bpf_check.specs.declared.operation.Operation.{Operation}
use Rattle.bpf_asm.specs.declared.form.Piece.{Piece}
use Rattle.bpf_asm.specs.declared.form.Piece.TheVariants.{Number, Label}
use Rattle.bpf_asm.specs.Form.{fixed, pieces}
use Rattle.bpf_asm.specs.Token.{ended, is_label}
use Rattle.bpf_asm.specs.Number.{IsNumeral}

-- a placeholder for a number, one for a label, or a fixed token
pub data Kind : Type 0 where
  a_number : Kind
  a_label : Kind
  exactly : (token : List ℕ) → Kind

-- the kind of a piece
abbrev pub kind : Piece → Kind
kind Number = a_number
kind Label = a_label
kind p = exactly (fixed p)

-- the kinds of the tokens after the mnemonic of an operation
abbrev pub kinds : Operation → List Kind
kinds operation = map kind (pieces operation)

-- the tokens with these words for the placeholders, from left to right; an empty word stands for a missing number
abbrev pub spelled_with : List Kind → List (List ℕ) → List (List ℕ)
spelled_with [] ws = []
spelled_with (a_number ∷ ks) [] = []
spelled_with (a_number ∷ ks) (w ∷ ws) = ended w ++ spelled_with ks ws
spelled_with (a_label ∷ ks) [] = []
spelled_with (a_label ∷ ks) (w ∷ ws) = w ∷ spelled_with ks ws
spelled_with (exactly token ∷ ks) ws = token ∷ spelled_with ks ws

-- there is one word for each placeholder: a numeral, perhaps one without digits, or a label
abbrev pub AreOpen : List Kind → List (List ℕ) → Type 0
AreOpen [] [] = Unit {0}
AreOpen [] (w ∷ ws) = ⊥
AreOpen (a_number ∷ ks) [] = ⊥
AreOpen (a_number ∷ ks) (w ∷ ws) = IsNumeral w × AreOpen ks ws
AreOpen (a_label ∷ ks) [] = ⊥
AreOpen (a_label ∷ ks) (w ∷ ws) = (is_label w ≡ true) × AreOpen ks ws
AreOpen (exactly token ∷ ks) ws = AreOpen ks ws
