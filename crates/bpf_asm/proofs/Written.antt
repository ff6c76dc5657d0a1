-- The tokens of an instruction's text.
use Rattle.std.proofs.Common.{◌≡◌, ℕ, ◌+◌, ◌^◌, ◌<◌, List, [], ◌∷◌, ◌++◌, Bool, true, false, None, decimal, refl, ap, ◌∙◌, arith, append_assoc}
use Rattle.std.specs.Prelude.{codes}
use Rattle.bpf_check.specs.declared.insn.Insn.{Insn}
use Rattle.bpf_check.specs.declared.operation.Width.TheVariants.{Word, Half, Byte}
use Rattle.bpf_check.specs.declared.operation.Operand.TheVariants.{Constant, Index}
use Rattle.bpf_check.specs.declared.operation.Arithmetic.TheVariants.{Add, Subtract, Multiply, Divide, Or, And, ShiftLeft, ShiftRight, Modulo, ExclusiveOr}
use Rattle.bpf_check.specs.declared.operation.Comparison.TheVariants.{Equal, AtLeast, Above, SharesBit}
use Rattle.bpf_check.specs.declared.operation.Operation.{Operation}
use Rattle.bpf_check.specs.declared.operation.Operation.TheVariants.{LoadAbsolute, LoadIndirect, LoadConstant, LoadScratch, LoadLength, IndexConstant, IndexScratch, IndexLength, IndexHeader, StoreAccumulator, StoreIndex, Compute, Negate, Jump, Branch, ReturnConstant, ReturnAccumulator, ToIndex, ToAccumulator}
use Rattle.bpf_asm.specs.Form.{mnemonic, pieces}
use Rattle.bpf_asm.specs.Token.{ended, tokens_after, tokens}
use Rattle.bpf_asm.specs.Spelling.{kinds, spelled_with, AreOpen}
use Rattle.bpf_asm.specs.Text.{label_text, targets_by, operands_text, mark_text}
use Rattle.bpf_asm.specs.Assembly.{label_of, body_of}
use Rattle.bpf_asm.proofs.Decimals.{decimal_words, decimal_numeral}
use Rattle.bpf_asm.proofs.TokenLemmas.{Breaks, word_run, after_break}

number_run : (n : ℕ) (text : List ℕ) → n < 2 ^ 64 → Breaks (decimal n) text → tokens_after [] (decimal n ++ text) ≡ ended (decimal n) ++ tokens_after [] text
number_run n text h b = word_run [] (decimal n) text (decimal_words n h) ∙ after_break (decimal n) text b

pub label_run : (n : ℕ) (text : List ℕ) → n < 2 ^ 64 → Breaks (76 ∷ decimal n) text → tokens_after (76 ∷ []) (decimal n ++ text) ≡ (76 ∷ decimal n) ∷ tokens_after [] text
label_run n text h b = word_run (76 ∷ []) (decimal n) text (decimal_words n h) ∙ after_break (76 ∷ decimal n) text b

-- the words for the placeholders of an instruction's text
abbrev pub words_for : ℕ → Insn → Operation → List (List ℕ)
words_for place i Jump = label_text (place + 1 + i.k) ∷ []
words_for place i (Branch test Constant) = decimal i.k ∷ label_text (place + 1 + i.jt) ∷ label_text (place + 1 + i.jf) ∷ []
words_for place i (Branch test Index) = label_text (place + 1 + i.jt) ∷ label_text (place + 1 + i.jf) ∷ []
words_for place i LoadLength = []
words_for place i IndexLength = []
words_for place i (Compute arithmetic Index) = []
words_for place i Negate = []
words_for place i ReturnAccumulator = []
words_for place i ToIndex = []
words_for place i ToAccumulator = []
words_for place i operation = decimal i.k ∷ []

-- the fields of an instruction and the indices of its targets are small
pub record AreSmall (place : ℕ) (i : Insn) : Type 0 where
  pub k : i.k < 2 ^ 32
  pub jt : i.jt < 2 ^ 8
  pub jf : i.jf < 2 ^ 8
  pub near : place < 65536

pub body_tokens : (place : ℕ) (i : Insn) (o : Operation) → AreSmall place i → tokens_after [] (mnemonic o ++ operands_text i.k (targets_by place i o) (pieces o)) ≡ mnemonic o ∷ spelled_with (kinds o) (words_for place i o)
body_tokens place i (LoadAbsolute Word) h = let k = h.k in rw (number_run i.k (codes "]") (omega arith) refl) refl
body_tokens place i (LoadAbsolute Half) h = let k = h.k in rw (number_run i.k (codes "]") (omega arith) refl) refl
body_tokens place i (LoadAbsolute Byte) h = let k = h.k in rw (number_run i.k (codes "]") (omega arith) refl) refl
body_tokens place i (LoadIndirect Word) h = let k = h.k in rw (number_run i.k (codes "]") (omega arith) refl) refl
body_tokens place i (LoadIndirect Half) h = let k = h.k in rw (number_run i.k (codes "]") (omega arith) refl) refl
body_tokens place i (LoadIndirect Byte) h = let k = h.k in rw (number_run i.k (codes "]") (omega arith) refl) refl
body_tokens place i LoadConstant h = let k = h.k in rw (number_run i.k ([]) (omega arith) tt) refl
body_tokens place i LoadScratch h = let k = h.k in rw (number_run i.k (codes "]") (omega arith) refl) refl
body_tokens place i LoadLength h = refl
body_tokens place i IndexConstant h = let k = h.k in rw (number_run i.k ([]) (omega arith) tt) refl
body_tokens place i IndexScratch h = let k = h.k in rw (number_run i.k (codes "]") (omega arith) refl) refl
body_tokens place i IndexLength h = refl
body_tokens place i IndexHeader h = let k = h.k in rw (number_run i.k (codes "]&0xf)") (omega arith) refl) refl
body_tokens place i StoreAccumulator h = let k = h.k in rw (number_run i.k (codes "]") (omega arith) refl) refl
body_tokens place i StoreIndex h = let k = h.k in rw (number_run i.k (codes "]") (omega arith) refl) refl
body_tokens place i (Compute Add Constant) h = let k = h.k in rw (number_run i.k ([]) (omega arith) tt) refl
body_tokens place i (Compute Add Index) h = refl
body_tokens place i (Compute Subtract Constant) h = let k = h.k in rw (number_run i.k ([]) (omega arith) tt) refl
body_tokens place i (Compute Subtract Index) h = refl
body_tokens place i (Compute Multiply Constant) h = let k = h.k in rw (number_run i.k ([]) (omega arith) tt) refl
body_tokens place i (Compute Multiply Index) h = refl
body_tokens place i (Compute Divide Constant) h = let k = h.k in rw (number_run i.k ([]) (omega arith) tt) refl
body_tokens place i (Compute Divide Index) h = refl
body_tokens place i (Compute Or Constant) h = let k = h.k in rw (number_run i.k ([]) (omega arith) tt) refl
body_tokens place i (Compute Or Index) h = refl
body_tokens place i (Compute And Constant) h = let k = h.k in rw (number_run i.k ([]) (omega arith) tt) refl
body_tokens place i (Compute And Index) h = refl
body_tokens place i (Compute ShiftLeft Constant) h = let k = h.k in rw (number_run i.k ([]) (omega arith) tt) refl
body_tokens place i (Compute ShiftLeft Index) h = refl
body_tokens place i (Compute ShiftRight Constant) h = let k = h.k in rw (number_run i.k ([]) (omega arith) tt) refl
body_tokens place i (Compute Modulo Constant) h = let k = h.k in rw (number_run i.k ([]) (omega arith) tt) refl
body_tokens place i (Compute ExclusiveOr Constant) h = let k = h.k in rw (number_run i.k ([]) (omega arith) tt) refl
body_tokens place i (Compute ShiftRight Index) h = refl
body_tokens place i (Compute Modulo Index) h = refl
body_tokens place i (Compute ExclusiveOr Index) h = refl
body_tokens place i Negate h = refl
body_tokens place i Jump h = let k = h.k in let p = h.near in rw (label_run (place + 1 + i.k) [] (omega arith) tt) refl
body_tokens place i (Branch Equal Constant) h = let k = h.k in let t = h.jt in let f = h.jf in let p = h.near in rw (number_run i.k (codes ", L" ++ (decimal (place + 1 + i.jt) ++ (codes ", L" ++ (decimal (place + 1 + i.jf) ++ [])))) (omega arith) refl) (rw (label_run (place + 1 + i.jt) (codes ", L" ++ (decimal (place + 1 + i.jf) ++ [])) (omega arith) refl, label_run (place + 1 + i.jf) [] (omega arith) tt) refl)
body_tokens place i (Branch Equal Index) h = let t = h.jt in let f = h.jf in let p = h.near in rw (label_run (place + 1 + i.jt) (codes ", L" ++ (decimal (place + 1 + i.jf) ++ [])) (omega arith) refl, label_run (place + 1 + i.jf) [] (omega arith) tt) refl
body_tokens place i (Branch AtLeast Constant) h = let k = h.k in let t = h.jt in let f = h.jf in let p = h.near in rw (number_run i.k (codes ", L" ++ (decimal (place + 1 + i.jt) ++ (codes ", L" ++ (decimal (place + 1 + i.jf) ++ [])))) (omega arith) refl) (rw (label_run (place + 1 + i.jt) (codes ", L" ++ (decimal (place + 1 + i.jf) ++ [])) (omega arith) refl, label_run (place + 1 + i.jf) [] (omega arith) tt) refl)
body_tokens place i (Branch AtLeast Index) h = let t = h.jt in let f = h.jf in let p = h.near in rw (label_run (place + 1 + i.jt) (codes ", L" ++ (decimal (place + 1 + i.jf) ++ [])) (omega arith) refl, label_run (place + 1 + i.jf) [] (omega arith) tt) refl
body_tokens place i (Branch Above Constant) h = let k = h.k in let t = h.jt in let f = h.jf in let p = h.near in rw (number_run i.k (codes ", L" ++ (decimal (place + 1 + i.jt) ++ (codes ", L" ++ (decimal (place + 1 + i.jf) ++ [])))) (omega arith) refl) (rw (label_run (place + 1 + i.jt) (codes ", L" ++ (decimal (place + 1 + i.jf) ++ [])) (omega arith) refl, label_run (place + 1 + i.jf) [] (omega arith) tt) refl)
body_tokens place i (Branch Above Index) h = let t = h.jt in let f = h.jf in let p = h.near in rw (label_run (place + 1 + i.jt) (codes ", L" ++ (decimal (place + 1 + i.jf) ++ [])) (omega arith) refl, label_run (place + 1 + i.jf) [] (omega arith) tt) refl
body_tokens place i (Branch SharesBit Constant) h = let k = h.k in let t = h.jt in let f = h.jf in let p = h.near in rw (number_run i.k (codes ", L" ++ (decimal (place + 1 + i.jt) ++ (codes ", L" ++ (decimal (place + 1 + i.jf) ++ [])))) (omega arith) refl) (rw (label_run (place + 1 + i.jt) (codes ", L" ++ (decimal (place + 1 + i.jf) ++ [])) (omega arith) refl, label_run (place + 1 + i.jf) [] (omega arith) tt) refl)
body_tokens place i (Branch SharesBit Index) h = let t = h.jt in let f = h.jf in let p = h.near in rw (label_run (place + 1 + i.jt) (codes ", L" ++ (decimal (place + 1 + i.jf) ++ [])) (omega arith) refl, label_run (place + 1 + i.jf) [] (omega arith) tt) refl
body_tokens place i ReturnConstant h = let k = h.k in rw (number_run i.k ([]) (omega arith) tt) refl
body_tokens place i ReturnAccumulator h = refl
body_tokens place i ToIndex h = refl
body_tokens place i ToAccumulator h = refl

pub words_open : (place : ℕ) (i : Insn) (o : Operation) → AreSmall place i → AreOpen (kinds o) (words_for place i o)
words_open place i (LoadAbsolute width) h = ((let k = h.k in decimal_numeral i.k (omega arith)), tt)
words_open place i (LoadIndirect width) h = ((let k = h.k in decimal_numeral i.k (omega arith)), tt)
words_open place i LoadConstant h = ((let k = h.k in decimal_numeral i.k (omega arith)), tt)
words_open place i LoadScratch h = ((let k = h.k in decimal_numeral i.k (omega arith)), tt)
words_open place i LoadLength h = tt
words_open place i IndexConstant h = ((let k = h.k in decimal_numeral i.k (omega arith)), tt)
words_open place i IndexScratch h = ((let k = h.k in decimal_numeral i.k (omega arith)), tt)
words_open place i IndexLength h = tt
words_open place i IndexHeader h = ((let k = h.k in decimal_numeral i.k (omega arith)), tt)
words_open place i StoreAccumulator h = ((let k = h.k in decimal_numeral i.k (omega arith)), tt)
words_open place i StoreIndex h = ((let k = h.k in decimal_numeral i.k (omega arith)), tt)
words_open place i (Compute arithmetic Constant) h = ((let k = h.k in decimal_numeral i.k (omega arith)), tt)
words_open place i (Compute arithmetic Index) h = tt
words_open place i Negate h = tt
words_open place i Jump h = (refl, tt)
words_open place i (Branch test Constant) h = ((let k = h.k in decimal_numeral i.k (omega arith)), (refl, (refl, tt)))
words_open place i (Branch test Index) h = (refl, (refl, tt))
words_open place i ReturnConstant h = ((let k = h.k in decimal_numeral i.k (omega arith)), tt)
words_open place i ReturnAccumulator h = tt
words_open place i ToIndex h = tt
words_open place i ToAccumulator h = tt

-- the first token after a mnemonic is not a colon
pub unnamed : (place : ℕ) (i : Insn) (o : Operation) → label_of (mnemonic o ∷ spelled_with (kinds o) (words_for place i o)) ≡ None
unnamed place i (LoadAbsolute Word) = refl
unnamed place i (LoadAbsolute Half) = refl
unnamed place i (LoadAbsolute Byte) = refl
unnamed place i (LoadIndirect Word) = refl
unnamed place i (LoadIndirect Half) = refl
unnamed place i (LoadIndirect Byte) = refl
unnamed place i LoadConstant = refl
unnamed place i LoadScratch = refl
unnamed place i LoadLength = refl
unnamed place i IndexConstant = refl
unnamed place i IndexScratch = refl
unnamed place i IndexLength = refl
unnamed place i IndexHeader = refl
unnamed place i StoreAccumulator = refl
unnamed place i StoreIndex = refl
unnamed place i (Compute Add Constant) = refl
unnamed place i (Compute Add Index) = refl
unnamed place i (Compute Subtract Constant) = refl
unnamed place i (Compute Subtract Index) = refl
unnamed place i (Compute Multiply Constant) = refl
unnamed place i (Compute Multiply Index) = refl
unnamed place i (Compute Divide Constant) = refl
unnamed place i (Compute Divide Index) = refl
unnamed place i (Compute Or Constant) = refl
unnamed place i (Compute Or Index) = refl
unnamed place i (Compute And Constant) = refl
unnamed place i (Compute And Index) = refl
unnamed place i (Compute ShiftLeft Constant) = refl
unnamed place i (Compute ShiftLeft Index) = refl
unnamed place i (Compute ShiftRight Constant) = refl
unnamed place i (Compute Modulo Constant) = refl
unnamed place i (Compute ExclusiveOr Constant) = refl
unnamed place i (Compute ShiftRight Index) = refl
unnamed place i (Compute Modulo Index) = refl
unnamed place i (Compute ExclusiveOr Index) = refl
unnamed place i Negate = refl
unnamed place i Jump = refl
unnamed place i (Branch Equal Constant) = refl
unnamed place i (Branch Equal Index) = refl
unnamed place i (Branch AtLeast Constant) = refl
unnamed place i (Branch AtLeast Index) = refl
unnamed place i (Branch Above Constant) = refl
unnamed place i (Branch Above Index) = refl
unnamed place i (Branch SharesBit Constant) = refl
unnamed place i (Branch SharesBit Index) = refl
unnamed place i ReturnConstant = refl
unnamed place i ReturnAccumulator = refl
unnamed place i ToIndex = refl
unnamed place i ToAccumulator = refl

pub unnamed_body : (place : ℕ) (i : Insn) (o : Operation) → body_of (mnemonic o ∷ spelled_with (kinds o) (words_for place i o)) ≡ mnemonic o ∷ spelled_with (kinds o) (words_for place i o)
unnamed_body place i (LoadAbsolute Word) = refl
unnamed_body place i (LoadAbsolute Half) = refl
unnamed_body place i (LoadAbsolute Byte) = refl
unnamed_body place i (LoadIndirect Word) = refl
unnamed_body place i (LoadIndirect Half) = refl
unnamed_body place i (LoadIndirect Byte) = refl
unnamed_body place i LoadConstant = refl
unnamed_body place i LoadScratch = refl
unnamed_body place i LoadLength = refl
unnamed_body place i IndexConstant = refl
unnamed_body place i IndexScratch = refl
unnamed_body place i IndexLength = refl
unnamed_body place i IndexHeader = refl
unnamed_body place i StoreAccumulator = refl
unnamed_body place i StoreIndex = refl
unnamed_body place i (Compute Add Constant) = refl
unnamed_body place i (Compute Add Index) = refl
unnamed_body place i (Compute Subtract Constant) = refl
unnamed_body place i (Compute Subtract Index) = refl
unnamed_body place i (Compute Multiply Constant) = refl
unnamed_body place i (Compute Multiply Index) = refl
unnamed_body place i (Compute Divide Constant) = refl
unnamed_body place i (Compute Divide Index) = refl
unnamed_body place i (Compute Or Constant) = refl
unnamed_body place i (Compute Or Index) = refl
unnamed_body place i (Compute And Constant) = refl
unnamed_body place i (Compute And Index) = refl
unnamed_body place i (Compute ShiftLeft Constant) = refl
unnamed_body place i (Compute ShiftLeft Index) = refl
unnamed_body place i (Compute ShiftRight Constant) = refl
unnamed_body place i (Compute Modulo Constant) = refl
unnamed_body place i (Compute ExclusiveOr Constant) = refl
unnamed_body place i (Compute ShiftRight Index) = refl
unnamed_body place i (Compute Modulo Index) = refl
unnamed_body place i (Compute ExclusiveOr Index) = refl
unnamed_body place i Negate = refl
unnamed_body place i Jump = refl
unnamed_body place i (Branch Equal Constant) = refl
unnamed_body place i (Branch Equal Index) = refl
unnamed_body place i (Branch AtLeast Constant) = refl
unnamed_body place i (Branch AtLeast Index) = refl
unnamed_body place i (Branch Above Constant) = refl
unnamed_body place i (Branch Above Index) = refl
unnamed_body place i (Branch SharesBit Constant) = refl
unnamed_body place i (Branch SharesBit Index) = refl
unnamed_body place i ReturnConstant = refl
unnamed_body place i ReturnAccumulator = refl
unnamed_body place i ToIndex = refl
unnamed_body place i ToAccumulator = refl

-- the tokens of a mark
abbrev pub mark_tokens : Bool → ℕ → List (List ℕ)
mark_tokens true place = label_text place ∷ codes ":" ∷ []
mark_tokens false place = []

pub marked_tokens : (m : Bool) (place : ℕ) (body : List ℕ) → place < 2 ^ 64 → tokens (mark_text m place ++ body) ≡ mark_tokens m place ++ tokens body
marked_tokens true place body h = ap (tokens_after (76 ∷ [])) (append_assoc (decimal place) (codes ": ") body) ∙ label_run place (codes ": " ++ body) h refl
marked_tokens false place body h = refl
