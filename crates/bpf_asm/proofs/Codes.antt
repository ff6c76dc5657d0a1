-- The code of each operation, and that the table agrees with it.
use Rattle.std.proofs.Common.{◌≡◌, ℕ, List, [], ◌∷◌, Bool, true, false, cond, ◌⊎◌, inl, inr, refl, ap, sym, ◌∙◌, Option, Some, None, arith, nat_eq}
use Rattle.std.proofs.lemmas.Bool.Decides.{nat_tests}
use Rattle.std.proofs.lemmas.Slice.Eq.{bytes_eq-Decides}
use Rattle.std.specs.Str.{bytes_eq}
use Rattle.bpf_check.specs.declared.operation.Width.TheVariants.{Word, Half, Byte}
use Rattle.bpf_check.specs.declared.operation.Operand.TheVariants.{Constant, Index}
use Rattle.bpf_check.specs.declared.operation.Arithmetic.TheVariants.{Add, Subtract, Multiply, Divide, Or, And, ShiftLeft, ShiftRight, Modulo, ExclusiveOr}
use Rattle.bpf_check.specs.declared.operation.Comparison.TheVariants.{Equal, AtLeast, Above, SharesBit}
use Rattle.bpf_check.specs.declared.operation.Operation.{Operation}
use Rattle.bpf_check.specs.declared.operation.Operation.TheVariants.{LoadAbsolute, LoadIndirect, LoadConstant, LoadScratch, LoadLength, IndexConstant, IndexScratch, IndexLength, IndexHeader, StoreAccumulator, StoreIndex, Compute, Negate, Jump, Branch, ReturnConstant, ReturnAccumulator, ToIndex, ToAccumulator}
use Rattle.bpf_check.specs.Operation.{table, in_rows, operation_of}
use Rattle.bpf_asm.specs.Form.{mnemonic}
use Rattle.bpf_asm.specs.Spelling.{kinds}
use Rattle.bpf_asm.specs.Reading.{Row, fill, row_words, row_or, find_row, has_mnemonic}

abbrev pub code_of : Operation → ℕ
code_of (LoadAbsolute Word) = 32
code_of (LoadAbsolute Half) = 40
code_of (LoadAbsolute Byte) = 48
code_of (LoadIndirect Word) = 64
code_of (LoadIndirect Half) = 72
code_of (LoadIndirect Byte) = 80
code_of LoadConstant = 0
code_of LoadScratch = 96
code_of LoadLength = 128
code_of IndexConstant = 1
code_of IndexScratch = 97
code_of IndexLength = 129
code_of IndexHeader = 177
code_of StoreAccumulator = 2
code_of StoreIndex = 3
code_of (Compute Add Constant) = 4
code_of (Compute Subtract Constant) = 20
code_of (Compute Multiply Constant) = 36
code_of (Compute Divide Constant) = 52
code_of (Compute Or Constant) = 68
code_of (Compute And Constant) = 84
code_of (Compute ShiftLeft Constant) = 100
code_of (Compute ShiftRight Constant) = 116
code_of (Compute Modulo Constant) = 148
code_of (Compute ExclusiveOr Constant) = 164
code_of (Compute Add Index) = 12
code_of (Compute Subtract Index) = 28
code_of (Compute Multiply Index) = 44
code_of (Compute Divide Index) = 60
code_of (Compute Or Index) = 76
code_of (Compute And Index) = 92
code_of (Compute ShiftLeft Index) = 108
code_of (Compute ShiftRight Index) = 124
code_of (Compute Modulo Index) = 156
code_of (Compute ExclusiveOr Index) = 172
code_of Negate = 132
code_of Jump = 5
code_of (Branch Equal Constant) = 21
code_of (Branch AtLeast Constant) = 53
code_of (Branch Above Constant) = 37
code_of (Branch SharesBit Constant) = 69
code_of (Branch Equal Index) = 29
code_of (Branch AtLeast Index) = 61
code_of (Branch Above Index) = 45
code_of (Branch SharesBit Index) = 77
code_of ReturnConstant = 6
code_of ReturnAccumulator = 22
code_of ToIndex = 7
code_of ToAccumulator = 135

-- each row's operation has the row's code
abbrev pub AreCodes : List (ℕ × Operation) → Type 0
AreCodes [] = Unit {0}
AreCodes (row ∷ rows) = (code_of row.1 ≡ row.0) × AreCodes rows

-- each row's code has the row's operation
abbrev pub Decode : List (ℕ × Operation) → Type 0
Decode [] = Unit {0}
Decode (row ∷ rows) = (operation_of row.0 ≡ Some row.1) × Decode rows

pub table_codes : AreCodes table
table_codes = (refl, (refl, (refl, (refl, (refl, (refl, (refl, (refl, (refl, (refl, (refl, (refl, (refl, (refl, (refl, (refl, (refl, (refl, (refl, (refl, (refl, (refl, (refl, (refl, (refl, (refl, (refl, (refl, (refl, (refl, (refl, (refl, (refl, (refl, (refl, (refl, (refl, (refl, (refl, (refl, (refl, (refl, (refl, (refl, (refl, (refl, (refl, (refl, (refl, tt)))))))))))))))))))))))))))))))))))))))))))))))))

pub table_decodes : Decode table
unfolding operation_of
table_decodes = (refl, (refl, (refl, (refl, (refl, (refl, (refl, (refl, (refl, (refl, (refl, (refl, (refl, (refl, (refl, (refl, (refl, (refl, (refl, (refl, (refl, (refl, (refl, (refl, (refl, (refl, (refl, (refl, (refl, (refl, (refl, (refl, (refl, (refl, (refl, (refl, (refl, (refl, (refl, (refl, (refl, (refl, (refl, (refl, (refl, (refl, (refl, (refl, (refl, tt)))))))))))))))))))))))))))))))))))))))))))))))))

taken : {A : Type 0} (b : Bool) (x y z : A) (o : Option A) → cond b (Some x) o ≡ Some z → ((b ≡ true) × (x ≡ z)) ⊎ (o ≡ Some z)
taken true x y z o e = inl (refl, cc)
taken false x y z o e = inr e

same_number : (x y : ℕ) → nat_eq x y ≡ true → x ≡ y
same_number x y e = grind (arith, nat_tests)

in_rows_code : (rows : List (ℕ × Operation)) → AreCodes rows → (code : ℕ) (operation : Operation) → in_rows rows code ≡ Some operation → code ≡ code_of operation
in_rows_code [] h code operation e = absurd (cc)
in_rows_code (row ∷ rows) h code operation e =
    elim (taken (nat_eq row.0 code) row.1 operation operation (in_rows rows code) e) [
      | inl p ↦ sym (same_number row.0 code p.0) ∙ sym h.0 ∙ ap code_of p.1
      | inr p ↦ in_rows_code rows h.1 code operation p
    ]

pub one_code : (code : ℕ) (operation : Operation) → operation_of code ≡ Some operation → code ≡ code_of operation
unfolding operation_of
one_code code operation e = in_rows_code table table_codes code operation e

same_word : (x y : List ℕ) → bytes_eq x y ≡ true → x ≡ y
same_word x y = (bytes_eq-Decides x y).0

-- the facts about a row that was found
pub record Found (word : List ℕ) (ts : List (List ℕ)) (r : Row) : Type 0 where
  pub decodes : operation_of r.code ≡ Some r.operation
  pub mnemonic : word ≡ mnemonic r.operation
  pub filled : fill (kinds r.operation) ts ≡ Some r.words

words_found : (b : Bool) (o : Option (List (List ℕ))) (ws : List (List ℕ)) → cond b o None ≡ Some ws → (b ≡ true) × (o ≡ Some ws)
words_found true o ws e = (refl, e)
words_found false o ws e = absurd (cc)

row_cases : (code : ℕ) (operation : Operation) (o : Option (List (List ℕ))) (later : Option Row) (r : Row) → row_or code operation o later ≡ Some r → ((ws : List (List ℕ)) × (o ≡ Some ws) × (code ≡ r.code) × (operation ≡ r.operation) × (ws ≡ r.words)) ⊎ (later ≡ Some r)
row_cases code operation None later r e = inr e
row_cases code operation (Some ws) later r e = inl (ws, refl, cc, cc, cc)

find_found : (rows : List (ℕ × Operation)) → Decode rows → (word : List ℕ) (ts : List (List ℕ)) (r : Row) → find_row rows word ts ≡ Some r → Found word ts r
find_found [] h word ts r e = absurd (cc)
find_found (row ∷ rows) h word ts r e =
    elim (row_cases row.0 row.1 (row_words row.1 word ts) (find_row rows word ts) r e) [
      | inl p ↦ (let q = words_found (bytes_eq word (mnemonic row.1)) (fill (kinds row.1) ts) p.0 p.1 in record {
        decodes = ap operation_of (sym p.2) ∙ h.0 ∙ ap (λ (o : Operation). Some o) p.3;
        mnemonic = same_word word (mnemonic row.1) q.0 ∙ ap mnemonic p.3;
        filled = ap (λ (o : Operation). fill (kinds o) ts) (sym p.3) ∙ q.1 ∙ ap (λ (ws : List (List ℕ)). Some ws) p.4;
      })
      | inr p ↦ find_found rows h.1 word ts r p
    ]

pub table_found : (word : List ℕ) (ts : List (List ℕ)) (r : Row) → find_row table word ts ≡ Some r → Found word ts r
table_found word ts r e = find_found table table_decodes word ts r e

either : (b : Bool) (c : Bool) → cond b true c ≡ true → (b ≡ true) ⊎ (c ≡ true)
either true c e = inl refl
either false c e = inr e

or_later : (b : Bool) (c : Bool) → (b ≡ true) ⊎ (c ≡ true) → cond b true c ≡ true
or_later true c h = refl
or_later false c (inl h) = absurd (cc)
or_later false c (inr h) = h

mnemonic_found : (rows : List (ℕ × Operation)) → Decode rows → (word : List ℕ) → has_mnemonic rows word ≡ true → (code : ℕ) × (operation : Operation) × (operation_of code ≡ Some operation) × (mnemonic operation ≡ word)
mnemonic_found [] h word e = absurd (cc)
mnemonic_found (row ∷ rows) h word e =
    elim (either (bytes_eq word (mnemonic row.1)) (has_mnemonic rows word) e) [
      | inl p ↦ (row.0, row.1, h.0, sym (same_word word (mnemonic row.1) p))
      | inr p ↦ mnemonic_found rows h.1 word p
    ]

pub table_mnemonic : (word : List ℕ) → has_mnemonic table word ≡ true → (code : ℕ) × (operation : Operation) × (operation_of code ≡ Some operation) × (mnemonic operation ≡ word)
table_mnemonic word e = mnemonic_found table table_decodes word e

in_rows_mnemonic : (rows : List (ℕ × Operation)) (code : ℕ) (operation : Operation) → in_rows rows code ≡ Some operation → has_mnemonic rows (mnemonic operation) ≡ true
in_rows_mnemonic [] code operation e = absurd (cc)
in_rows_mnemonic (row ∷ rows) code operation e =
    or_later (bytes_eq (mnemonic operation) (mnemonic row.1)) (has_mnemonic rows (mnemonic operation)) (elim (taken (nat_eq row.0 code) row.1 operation operation (in_rows rows code) e) [
      | inl p ↦ inl ((bytes_eq-Decides (mnemonic operation) (mnemonic row.1)).1 (ap mnemonic (sym p.1)))
      | inr p ↦ inr (in_rows_mnemonic rows code operation p)
    ])

-- the mnemonic of each operation with a code is in the table
pub mnemonic_in_table : (word : List ℕ) (code : ℕ) (operation : Operation) → operation_of code ≡ Some operation → mnemonic operation ≡ word → has_mnemonic table word ≡ true
unfolding operation_of
mnemonic_in_table word code operation e f = ap (has_mnemonic table) (sym f) ∙ in_rows_mnemonic table code operation e
