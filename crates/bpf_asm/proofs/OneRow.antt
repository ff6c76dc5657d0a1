-- The tokens of an operation match its own row of the table, and no earlier row.
use Rattle.std.proofs.Common.{◌≡◌, ℕ, List, [], ◌∷◌, refl, Some}
use Rattle.bpf_check.specs.declared.operation.Width.TheVariants.{Word, Half, Byte}
use Rattle.bpf_check.specs.declared.operation.Operand.TheVariants.{Constant, Index}
use Rattle.bpf_check.specs.declared.operation.Arithmetic.TheVariants.{Add, Subtract, Multiply, Divide, Or, And, ShiftLeft, ShiftRight, Modulo, ExclusiveOr}
use Rattle.bpf_check.specs.declared.operation.Comparison.TheVariants.{Equal, AtLeast, Above, SharesBit}
use Rattle.bpf_check.specs.declared.operation.Operation.{Operation}
use Rattle.bpf_check.specs.declared.operation.Operation.TheVariants.{LoadAbsolute, LoadIndirect, LoadConstant, LoadScratch, LoadLength, IndexConstant, IndexScratch, IndexLength, IndexHeader, StoreAccumulator, StoreIndex, Compute, Negate, Jump, Branch, ReturnConstant, ReturnAccumulator, ToIndex, ToAccumulator}
use Rattle.bpf_check.specs.Operation.{table}
use Rattle.bpf_asm.specs.Form.{mnemonic}
use Rattle.bpf_asm.specs.Spelling.{kinds, spelled_with, AreOpen}
use Rattle.bpf_asm.specs.Reading.{is_numeral, find_row}
use Rattle.bpf_asm.proofs.Addresses.{numeral_test}
use Rattle.bpf_asm.proofs.Codes.{code_of}

-- the words of an operation are read again, with its code
pub one_row : (operation : Operation) (ws : List (List ℕ)) → AreOpen (kinds operation) ws
    → find_row table (mnemonic operation) (spelled_with (kinds operation) ws) ≡ Some (record { code = code_of operation; operation = operation; words = ws })
unfolding is_numeral
one_row (LoadAbsolute Word) [] h = absurd h
one_row (LoadAbsolute Word) ([] ∷ []) h = refl
one_row (LoadAbsolute Word) ((c ∷ cs) ∷ []) h = rw (numeral_test _ h.0) refl
one_row (LoadAbsolute Word) (w ∷ v ∷ ws) h = absurd h.1
one_row (LoadAbsolute Half) [] h = absurd h
one_row (LoadAbsolute Half) ([] ∷ []) h = refl
one_row (LoadAbsolute Half) ((c ∷ cs) ∷ []) h = rw (numeral_test _ h.0) refl
one_row (LoadAbsolute Half) (w ∷ v ∷ ws) h = absurd h.1
one_row (LoadAbsolute Byte) [] h = absurd h
one_row (LoadAbsolute Byte) ([] ∷ []) h = refl
one_row (LoadAbsolute Byte) ((c ∷ cs) ∷ []) h = rw (numeral_test _ h.0) refl
one_row (LoadAbsolute Byte) (w ∷ v ∷ ws) h = absurd h.1
one_row (LoadIndirect Word) [] h = absurd h
one_row (LoadIndirect Word) ([] ∷ []) h = refl
one_row (LoadIndirect Word) ((c ∷ cs) ∷ []) h = rw (numeral_test _ h.0) refl
one_row (LoadIndirect Word) (w ∷ v ∷ ws) h = absurd h.1
one_row (LoadIndirect Half) [] h = absurd h
one_row (LoadIndirect Half) ([] ∷ []) h = refl
one_row (LoadIndirect Half) ((c ∷ cs) ∷ []) h = rw (numeral_test _ h.0) refl
one_row (LoadIndirect Half) (w ∷ v ∷ ws) h = absurd h.1
one_row (LoadIndirect Byte) [] h = absurd h
one_row (LoadIndirect Byte) ([] ∷ []) h = refl
one_row (LoadIndirect Byte) ((c ∷ cs) ∷ []) h = rw (numeral_test _ h.0) refl
one_row (LoadIndirect Byte) (w ∷ v ∷ ws) h = absurd h.1
one_row LoadConstant [] h = absurd h
one_row LoadConstant ([] ∷ []) h = refl
one_row LoadConstant ((c ∷ cs) ∷ []) h = rw (numeral_test _ h.0) refl
one_row LoadConstant (w ∷ v ∷ ws) h = absurd h.1
one_row LoadScratch [] h = absurd h
one_row LoadScratch ([] ∷ []) h = refl
one_row LoadScratch ((c ∷ cs) ∷ []) h = rw (numeral_test _ h.0) refl
one_row LoadScratch (w ∷ v ∷ ws) h = absurd h.1
one_row LoadLength [] h = refl
one_row LoadLength (w ∷ ws) h = absurd h
one_row IndexConstant [] h = absurd h
one_row IndexConstant ([] ∷ []) h = refl
one_row IndexConstant ((c ∷ cs) ∷ []) h = rw (numeral_test _ h.0) refl
one_row IndexConstant (w ∷ v ∷ ws) h = absurd h.1
one_row IndexScratch [] h = absurd h
one_row IndexScratch ([] ∷ []) h = refl
one_row IndexScratch ((c ∷ cs) ∷ []) h = rw (numeral_test _ h.0) refl
one_row IndexScratch (w ∷ v ∷ ws) h = absurd h.1
one_row IndexLength [] h = refl
one_row IndexLength (w ∷ ws) h = absurd h
one_row IndexHeader [] h = absurd h
one_row IndexHeader ([] ∷ []) h = refl
one_row IndexHeader ((c ∷ cs) ∷ []) h = rw (numeral_test _ h.0) refl
one_row IndexHeader (w ∷ v ∷ ws) h = absurd h.1
one_row StoreAccumulator [] h = absurd h
one_row StoreAccumulator ([] ∷ []) h = refl
one_row StoreAccumulator ((c ∷ cs) ∷ []) h = rw (numeral_test _ h.0) refl
one_row StoreAccumulator (w ∷ v ∷ ws) h = absurd h.1
one_row StoreIndex [] h = absurd h
one_row StoreIndex ([] ∷ []) h = refl
one_row StoreIndex ((c ∷ cs) ∷ []) h = rw (numeral_test _ h.0) refl
one_row StoreIndex (w ∷ v ∷ ws) h = absurd h.1
one_row (Compute Add Constant) [] h = absurd h
one_row (Compute Add Constant) ([] ∷ []) h = refl
one_row (Compute Add Constant) ((c ∷ cs) ∷ []) h = rw (numeral_test _ h.0) refl
one_row (Compute Add Constant) (w ∷ v ∷ ws) h = absurd h.1
one_row (Compute Subtract Constant) [] h = absurd h
one_row (Compute Subtract Constant) ([] ∷ []) h = refl
one_row (Compute Subtract Constant) ((c ∷ cs) ∷ []) h = rw (numeral_test _ h.0) refl
one_row (Compute Subtract Constant) (w ∷ v ∷ ws) h = absurd h.1
one_row (Compute Multiply Constant) [] h = absurd h
one_row (Compute Multiply Constant) ([] ∷ []) h = refl
one_row (Compute Multiply Constant) ((c ∷ cs) ∷ []) h = rw (numeral_test _ h.0) refl
one_row (Compute Multiply Constant) (w ∷ v ∷ ws) h = absurd h.1
one_row (Compute Divide Constant) [] h = absurd h
one_row (Compute Divide Constant) ([] ∷ []) h = refl
one_row (Compute Divide Constant) ((c ∷ cs) ∷ []) h = rw (numeral_test _ h.0) refl
one_row (Compute Divide Constant) (w ∷ v ∷ ws) h = absurd h.1
one_row (Compute Or Constant) [] h = absurd h
one_row (Compute Or Constant) ([] ∷ []) h = refl
one_row (Compute Or Constant) ((c ∷ cs) ∷ []) h = rw (numeral_test _ h.0) refl
one_row (Compute Or Constant) (w ∷ v ∷ ws) h = absurd h.1
one_row (Compute And Constant) [] h = absurd h
one_row (Compute And Constant) ([] ∷ []) h = refl
one_row (Compute And Constant) ((c ∷ cs) ∷ []) h = rw (numeral_test _ h.0) refl
one_row (Compute And Constant) (w ∷ v ∷ ws) h = absurd h.1
one_row (Compute ShiftLeft Constant) [] h = absurd h
one_row (Compute ShiftLeft Constant) ([] ∷ []) h = refl
one_row (Compute ShiftLeft Constant) ((c ∷ cs) ∷ []) h = rw (numeral_test _ h.0) refl
one_row (Compute ShiftLeft Constant) (w ∷ v ∷ ws) h = absurd h.1
one_row (Compute ShiftRight Constant) [] h = absurd h
one_row (Compute ShiftRight Constant) ([] ∷ []) h = refl
one_row (Compute ShiftRight Constant) ((c ∷ cs) ∷ []) h = rw (numeral_test _ h.0) refl
one_row (Compute ShiftRight Constant) (w ∷ v ∷ ws) h = absurd h.1
one_row (Compute Modulo Constant) [] h = absurd h
one_row (Compute Modulo Constant) ([] ∷ []) h = refl
one_row (Compute Modulo Constant) ((c ∷ cs) ∷ []) h = rw (numeral_test _ h.0) refl
one_row (Compute Modulo Constant) (w ∷ v ∷ ws) h = absurd h.1
one_row (Compute ExclusiveOr Constant) [] h = absurd h
one_row (Compute ExclusiveOr Constant) ([] ∷ []) h = refl
one_row (Compute ExclusiveOr Constant) ((c ∷ cs) ∷ []) h = rw (numeral_test _ h.0) refl
one_row (Compute ExclusiveOr Constant) (w ∷ v ∷ ws) h = absurd h.1
one_row (Compute Add Index) [] h = refl
one_row (Compute Add Index) (w ∷ ws) h = absurd h
one_row (Compute Subtract Index) [] h = refl
one_row (Compute Subtract Index) (w ∷ ws) h = absurd h
one_row (Compute Multiply Index) [] h = refl
one_row (Compute Multiply Index) (w ∷ ws) h = absurd h
one_row (Compute Divide Index) [] h = refl
one_row (Compute Divide Index) (w ∷ ws) h = absurd h
one_row (Compute Or Index) [] h = refl
one_row (Compute Or Index) (w ∷ ws) h = absurd h
one_row (Compute And Index) [] h = refl
one_row (Compute And Index) (w ∷ ws) h = absurd h
one_row (Compute ShiftLeft Index) [] h = refl
one_row (Compute ShiftLeft Index) (w ∷ ws) h = absurd h
one_row (Compute ShiftRight Index) [] h = refl
one_row (Compute ShiftRight Index) (w ∷ ws) h = absurd h
one_row (Compute Modulo Index) [] h = refl
one_row (Compute Modulo Index) (w ∷ ws) h = absurd h
one_row (Compute ExclusiveOr Index) [] h = refl
one_row (Compute ExclusiveOr Index) (w ∷ ws) h = absurd h
one_row Negate [] h = refl
one_row Negate (w ∷ ws) h = absurd h
one_row Jump [] h = absurd h
one_row Jump (l ∷ []) h = rw h.0 refl
one_row Jump (l ∷ v ∷ ws) h = absurd h.1
one_row (Branch Equal Constant) [] h = absurd h
one_row (Branch Equal Constant) (w ∷ []) h = absurd h.1
one_row (Branch Equal Constant) (w ∷ l ∷ []) h = absurd h.1.1
one_row (Branch Equal Constant) ([] ∷ l ∷ m ∷ []) h = rw (h.1.0, h.1.1.0) refl
one_row (Branch Equal Constant) ((c ∷ cs) ∷ l ∷ m ∷ []) h = rw (numeral_test _ h.0, h.1.0, h.1.1.0) refl
one_row (Branch Equal Constant) (w ∷ l ∷ m ∷ v ∷ ws) h = absurd h.1.1.1
one_row (Branch AtLeast Constant) [] h = absurd h
one_row (Branch AtLeast Constant) (w ∷ []) h = absurd h.1
one_row (Branch AtLeast Constant) (w ∷ l ∷ []) h = absurd h.1.1
one_row (Branch AtLeast Constant) ([] ∷ l ∷ m ∷ []) h = rw (h.1.0, h.1.1.0) refl
one_row (Branch AtLeast Constant) ((c ∷ cs) ∷ l ∷ m ∷ []) h = rw (numeral_test _ h.0, h.1.0, h.1.1.0) refl
one_row (Branch AtLeast Constant) (w ∷ l ∷ m ∷ v ∷ ws) h = absurd h.1.1.1
one_row (Branch Above Constant) [] h = absurd h
one_row (Branch Above Constant) (w ∷ []) h = absurd h.1
one_row (Branch Above Constant) (w ∷ l ∷ []) h = absurd h.1.1
one_row (Branch Above Constant) ([] ∷ l ∷ m ∷ []) h = rw (h.1.0, h.1.1.0) refl
one_row (Branch Above Constant) ((c ∷ cs) ∷ l ∷ m ∷ []) h = rw (numeral_test _ h.0, h.1.0, h.1.1.0) refl
one_row (Branch Above Constant) (w ∷ l ∷ m ∷ v ∷ ws) h = absurd h.1.1.1
one_row (Branch SharesBit Constant) [] h = absurd h
one_row (Branch SharesBit Constant) (w ∷ []) h = absurd h.1
one_row (Branch SharesBit Constant) (w ∷ l ∷ []) h = absurd h.1.1
one_row (Branch SharesBit Constant) ([] ∷ l ∷ m ∷ []) h = rw (h.1.0, h.1.1.0) refl
one_row (Branch SharesBit Constant) ((c ∷ cs) ∷ l ∷ m ∷ []) h = rw (numeral_test _ h.0, h.1.0, h.1.1.0) refl
one_row (Branch SharesBit Constant) (w ∷ l ∷ m ∷ v ∷ ws) h = absurd h.1.1.1
one_row (Branch Equal Index) [] h = absurd h
one_row (Branch Equal Index) (l ∷ []) h = absurd h.1
one_row (Branch Equal Index) (l ∷ m ∷ []) h = rw (h.0, h.1.0) refl
one_row (Branch Equal Index) (l ∷ m ∷ v ∷ ws) h = absurd h.1.1
one_row (Branch AtLeast Index) [] h = absurd h
one_row (Branch AtLeast Index) (l ∷ []) h = absurd h.1
one_row (Branch AtLeast Index) (l ∷ m ∷ []) h = rw (h.0, h.1.0) refl
one_row (Branch AtLeast Index) (l ∷ m ∷ v ∷ ws) h = absurd h.1.1
one_row (Branch Above Index) [] h = absurd h
one_row (Branch Above Index) (l ∷ []) h = absurd h.1
one_row (Branch Above Index) (l ∷ m ∷ []) h = rw (h.0, h.1.0) refl
one_row (Branch Above Index) (l ∷ m ∷ v ∷ ws) h = absurd h.1.1
one_row (Branch SharesBit Index) [] h = absurd h
one_row (Branch SharesBit Index) (l ∷ []) h = absurd h.1
one_row (Branch SharesBit Index) (l ∷ m ∷ []) h = rw (h.0, h.1.0) refl
one_row (Branch SharesBit Index) (l ∷ m ∷ v ∷ ws) h = absurd h.1.1
one_row ReturnConstant [] h = absurd h
one_row ReturnConstant ([] ∷ []) h = refl
one_row ReturnConstant ((c ∷ cs) ∷ []) h = rw (numeral_test _ h.0) refl
one_row ReturnConstant (w ∷ v ∷ ws) h = absurd h.1
one_row ReturnAccumulator [] h = refl
one_row ReturnAccumulator (w ∷ ws) h = absurd h
one_row ToIndex [] h = refl
one_row ToIndex (w ∷ ws) h = absurd h
one_row ToAccumulator [] h = refl
one_row ToAccumulator (w ∷ ws) h = absurd h
