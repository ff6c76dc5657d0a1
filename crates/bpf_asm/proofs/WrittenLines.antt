-- The lines of a program's text.
use Rattle.std.proofs.Common.{◌≡◌, ℕ, zero, suc, ◌+◌, ◌-◌, ◌^◌, ◌<◌, List, [], ◌∷◌, ◌++◌, length, map, get_or, take, Bool, true, false, cond, ◌&&◌, not, nat_eq, decimal, Option, Some, None, refl, ap, sym, ◌∙◌, subst, arith, append_assoc}
use Rattle.std.proofs.lemmas.List.{append-nil}
use Rattle.std.proofs.lemmas.List.Folds.{list_all-append}
use Rattle.std.specs.Prelude.{codes, slice_get}
use Rattle.std.specs.Char.{is_ascii_digit}
use Rattle.std.specs.List.{list_all, slice_split, onto_first}
use Rattle.std.specs.Str.Lines.{lines, lines_of_parts, strip_carriage_return}
use Rattle.bpf_check.specs.declared.insn.Insn.{Insn}
use Rattle.bpf_check.specs.declared.operation.Width.TheVariants.{Word, Half, Byte}
use Rattle.bpf_check.specs.declared.operation.Operand.TheVariants.{Constant, Index}
use Rattle.bpf_check.specs.declared.operation.Arithmetic.TheVariants.{Add, Subtract, Multiply, Divide, Or, And, ShiftLeft, ShiftRight, Modulo, ExclusiveOr}
use Rattle.bpf_check.specs.declared.operation.Comparison.TheVariants.{Equal, AtLeast, Above, SharesBit}
use Rattle.bpf_check.specs.declared.operation.Operation.{Operation}
use Rattle.bpf_check.specs.declared.operation.Operation.TheVariants.{LoadAbsolute, LoadIndirect, LoadConstant, LoadScratch, LoadLength, IndexConstant, IndexScratch, IndexLength, IndexHeader, StoreAccumulator, StoreIndex, Compute, Negate, Jump, Branch, ReturnConstant, ReturnAccumulator, ToIndex, ToAccumulator}
use Rattle.bpf_check.specs.Operation.{operation_of}
use Rattle.bpf_asm.specs.declared.form.Piece.{Piece}
use Rattle.bpf_asm.specs.declared.form.Piece.TheVariants.{Number, Label}
use Rattle.bpf_asm.specs.Form.{mnemonic, pieces}
use Rattle.bpf_asm.specs.Token.{tokens}
use Rattle.bpf_asm.specs.Spelling.{kinds, spelled_with}
use Rattle.bpf_asm.specs.Text.{label_text, targets_by, pieces_text, operands_text, insn_text, mark_text, is_target, lines_text}
use Rattle.bpf_asm.proofs.Decimals.{both, and_true, digit_apart, decimal_digits}
use Rattle.bpf_asm.proofs.Written.{words_for, AreSmall, body_tokens, mark_tokens, marked_tokens}

-- neither LF nor CR
abbrev fine : ℕ → Bool
fine c = not (nat_eq c 10) && not (nat_eq c 13)

digits_fine : (ds : List ℕ) → list_all is_ascii_digit ds ≡ true → list_all fine ds ≡ true
digits_fine [] h = refl
digits_fine (c ∷ cs) h =
    let p = both (is_ascii_digit c) (list_all is_ascii_digit cs) h in
    and_true (fine c) (list_all fine cs) (and_true (not (nat_eq c 10)) (not (nat_eq c 13)) (ap not (digit_apart c 10 p.0 refl)) (ap not (digit_apart c 13 p.0 refl))) (digits_fine cs p.1)

all_of : (a b : List ℕ) → list_all fine a ≡ true → list_all fine b ≡ true → list_all fine (a ++ b) ≡ true
all_of a b p q = list_all-append fine a b ∙ and_true (list_all fine a) (list_all fine b) p q

decimal_fine : (n : ℕ) → n < 2 ^ 64 → list_all fine (decimal n) ≡ true
decimal_fine n h = digits_fine (decimal n) (decimal_digits n h)

abbrev SmallTargets : List ℕ → Type 0
SmallTargets [] = Unit {0}
SmallTargets (t ∷ ts) = (t < 2 ^ 64) × SmallTargets ts

pieces_fine : (k : ℕ) (ts : List ℕ) (ps : List Piece) → k < 2 ^ 64 → SmallTargets ts → list_all fine (pieces_text k ts ps) ≡ true
pieces_fine k ts [] small targets = refl
pieces_fine k ts (Number ∷ ps) small targets = all_of (decimal k) (pieces_text k ts ps) (decimal_fine k small) (pieces_fine k ts ps small targets)
pieces_fine k [] (Label ∷ ps) small targets = pieces_fine k [] ps small targets
pieces_fine k (t ∷ ts) (Label ∷ ps) small targets = all_of (label_text t) (pieces_text k ts ps) (decimal_fine t targets.0) (pieces_fine k ts ps small targets.1)
pieces_fine k ts (_ ∷ ps) small targets = pieces_fine k ts ps small targets

operands_fine : (k : ℕ) (ts : List ℕ) (ps : List Piece) → k < 2 ^ 64 → SmallTargets ts → list_all fine (operands_text k ts ps) ≡ true
operands_fine k ts [] small targets = refl
operands_fine k ts (p ∷ ps) small targets = pieces_fine k ts (p ∷ ps) small targets

mnemonic_fine : (o : Operation) → list_all fine (mnemonic o) ≡ true
mnemonic_fine (LoadAbsolute Word) = refl
mnemonic_fine (LoadAbsolute Half) = refl
mnemonic_fine (LoadAbsolute Byte) = refl
mnemonic_fine (LoadIndirect Word) = refl
mnemonic_fine (LoadIndirect Half) = refl
mnemonic_fine (LoadIndirect Byte) = refl
mnemonic_fine LoadConstant = refl
mnemonic_fine LoadScratch = refl
mnemonic_fine LoadLength = refl
mnemonic_fine IndexConstant = refl
mnemonic_fine IndexScratch = refl
mnemonic_fine IndexLength = refl
mnemonic_fine IndexHeader = refl
mnemonic_fine StoreAccumulator = refl
mnemonic_fine StoreIndex = refl
mnemonic_fine (Compute Add Constant) = refl
mnemonic_fine (Compute Add Index) = refl
mnemonic_fine (Compute Subtract Constant) = refl
mnemonic_fine (Compute Subtract Index) = refl
mnemonic_fine (Compute Multiply Constant) = refl
mnemonic_fine (Compute Multiply Index) = refl
mnemonic_fine (Compute Divide Constant) = refl
mnemonic_fine (Compute Divide Index) = refl
mnemonic_fine (Compute Or Constant) = refl
mnemonic_fine (Compute Or Index) = refl
mnemonic_fine (Compute And Constant) = refl
mnemonic_fine (Compute And Index) = refl
mnemonic_fine (Compute ShiftLeft Constant) = refl
mnemonic_fine (Compute ShiftLeft Index) = refl
mnemonic_fine (Compute ShiftRight Constant) = refl
mnemonic_fine (Compute Modulo Constant) = refl
mnemonic_fine (Compute ExclusiveOr Constant) = refl
mnemonic_fine (Compute ShiftRight Index) = refl
mnemonic_fine (Compute Modulo Index) = refl
mnemonic_fine (Compute ExclusiveOr Index) = refl
mnemonic_fine Negate = refl
mnemonic_fine Jump = refl
mnemonic_fine (Branch Equal Constant) = refl
mnemonic_fine (Branch Equal Index) = refl
mnemonic_fine (Branch AtLeast Constant) = refl
mnemonic_fine (Branch AtLeast Index) = refl
mnemonic_fine (Branch Above Constant) = refl
mnemonic_fine (Branch Above Index) = refl
mnemonic_fine (Branch SharesBit Constant) = refl
mnemonic_fine (Branch SharesBit Index) = refl
mnemonic_fine ReturnConstant = refl
mnemonic_fine ReturnAccumulator = refl
mnemonic_fine ToIndex = refl
mnemonic_fine ToAccumulator = refl

small_targets : (place : ℕ) (i : Insn) (o : Operation) → AreSmall place i → SmallTargets (targets_by place i o)
small_targets place i Jump h = let k = h.k in let p = h.near in (omega arith, tt)
small_targets place i (Branch test side) h = let a = h.jt in let b = h.jf in let p = h.near in (omega arith, (omega arith, tt))
small_targets place i _ h = tt

mark_fine : (m : Bool) (place : ℕ) → place < 2 ^ 64 → list_all fine (mark_text m place) ≡ true
mark_fine true place h = all_of (decimal place) (codes ": ") (decimal_fine place h) refl
mark_fine false place h = refl

abbrev is_break : ℕ → Bool
is_break c = nat_eq c 10

some_part : (xs : List ℕ) → (p : List ℕ) × (ps : List (List ℕ)) × (slice_split is_break xs ≡ p ∷ ps)
some_part [] = ([], [], refl)
some_part (x ∷ xs) =
    let more = some_part xs in
    elim (is_break x) as (λ b. (p : List ℕ) × (ps : List (List ℕ)) × (cond b ([] ∷ slice_split is_break xs) (onto_first x (slice_split is_break xs)) ≡ p ∷ ps)) [
      | true ↦ ([], slice_split is_break xs, refl)
      | false ↦ (x ∷ more.0, more.1, ap (onto_first x) more.2)
    ]

no_break : (c : ℕ) → fine c ≡ true → is_break c ≡ false
no_break c h = turned (is_break c) (both (not (is_break c)) (not (nat_eq c 13)) h).0
  where
    turned : (b : Bool) → not b ≡ true → b ≡ false
    turned true e = absurd (cc)
    turned false e = refl

front_part : (front rest p : List ℕ) (ps : List (List ℕ)) → list_all fine front ≡ true → slice_split is_break rest ≡ p ∷ ps → slice_split is_break (front ++ rest) ≡ (front ++ p) ∷ ps
front_part [] rest p ps h e = e
front_part (x ∷ xs) rest p ps h e =
    let q = both (fine x) (list_all fine xs) h in
    ap (λ (b : Bool). cond b ([] ∷ slice_split is_break (xs ++ rest)) (onto_first x (slice_split is_break (xs ++ rest)))) (no_break x q.0)
    ∙ ap (onto_first x) (front_part xs rest p ps q.1 e)

parts_cons : (x : List ℕ) (ps : List (List ℕ)) (p : List ℕ) (qs : List (List ℕ)) → ps ≡ p ∷ qs → lines_of_parts (x ∷ ps) ≡ strip_carriage_return x ∷ lines_of_parts ps
parts_cons x [] p qs e = absurd (cc)
parts_cons x (y ∷ ys) p qs e = refl

lines_break : (front rest : List ℕ) → list_all fine front ≡ true → lines (front ++ 10 ∷ rest) ≡ strip_carriage_return front ∷ lines rest
lines_break front rest h =
    let more = some_part rest in
    ap lines_of_parts (front_part front (10 ∷ rest) [] (slice_split is_break rest) h refl)
    ∙ ap (λ (f : List ℕ). lines_of_parts (f ∷ slice_split is_break rest)) (append-nil front)
    ∙ parts_cons front (slice_split is_break rest) more.0 more.1 more.2

no_return : (front : List ℕ) (n : ℕ) → list_all fine front ≡ true → nat_eq (get_or front n 0) 13 ≡ false
no_return [] n h = refl
no_return (c ∷ cs) zero h = turned (nat_eq c 13) (both (not (nat_eq c 10)) (not (nat_eq c 13)) (both (fine c) (list_all fine cs) h).0).1
  where
    turned : (b : Bool) → not b ≡ true → b ≡ false
    turned true e = absurd (cc)
    turned false e = refl
no_return (c ∷ cs) (suc n) h = no_return cs n (both (fine c) (list_all fine cs) h).1

stripped : (front : List ℕ) → list_all fine front ≡ true → strip_carriage_return front ≡ front
stripped front h = ap (λ (b : Bool). cond b (take (length front - 1) front) front) (no_return front (length front - 1) h)

shaped : (a b r : List ℕ) → (a ++ (b ++ 10 ∷ [])) ++ r ≡ (a ++ b) ++ (10 ∷ r)
shaped a b r = append_assoc a (b ++ 10 ∷ []) r ∙ ap (λ (x : List ℕ). a ++ x) (append_assoc b (10 ∷ []) r) ∙ sym (append_assoc a b (10 ∷ r))

-- the tokens of an instruction
abbrev pub insn_tokens : ℕ → Insn → Option Operation → List (List ℕ)
insn_tokens place i None = []
insn_tokens place i (Some o) = mnemonic o ∷ spelled_with (kinds o) (words_for place i o)

-- the tokens of the lines of these instructions, the first of which is at an index
abbrev pub token_list : List Insn → ℕ → List Insn → List (List (List ℕ))
token_list p place [] = []
token_list p place (i ∷ is) = (mark_tokens (is_target place 0 p) place ++ insn_tokens place i (operation_of i.code)) ∷ token_list p (place + 1) is

insn_fine : (place : ℕ) (i : Insn) (o : Option Operation) → AreSmall place i → list_all fine (insn_text place i o) ≡ true
unfolding insn_text
insn_fine place i None h = refl
insn_fine place i (Some o) h = let k = h.k in all_of (mnemonic o) (operands_text i.k (targets_by place i o) (pieces o)) (mnemonic_fine o) (operands_fine i.k (targets_by place i o) (pieces o) (omega arith) (small_targets place i o h))

insn_read : (place : ℕ) (i : Insn) (o : Option Operation) → AreSmall place i → tokens (insn_text place i o) ≡ insn_tokens place i o
unfolding insn_text
insn_read place i None h = refl
insn_read place i (Some o) h = body_tokens place i o h

pub lines_read : (p : List Insn) (place : ℕ) (is : List Insn) → ((n : ℕ) (i : Insn) → slice_get is n ≡ Some i → AreSmall (place + n) i) → map tokens (lines (lines_text p place is)) ≡ token_list p place is
lines_read p place [] small = refl
lines_read p place (i ∷ is) small =
    let marked = is_target place 0 p in
    let body = insn_text place i (operation_of i.code) in
    let zero_place : place + 0 ≡ place = omega arith in
    let own : AreSmall place i = subst (λ (n : ℕ). AreSmall n i) zero_place (small 0 i refl) in
    let near = own.near in
    let front_fine = all_of (mark_text marked place) body (mark_fine marked place (omega arith)) (insn_fine place i (operation_of i.code) own) in
    ap (λ (t : List ℕ). map tokens (lines t)) (shaped (mark_text marked place) body (lines_text p (place + 1) is))
    ∙ ap (map tokens) (lines_break (mark_text marked place ++ body) (lines_text p (place + 1) is) front_fine)
    ∙ ap (λ (l : List ℕ). tokens l ∷ map tokens (lines (lines_text p (place + 1) is))) (stripped (mark_text marked place ++ body) front_fine)
    ∙ ap (λ (l : List (List ℕ)). l ∷ map tokens (lines (lines_text p (place + 1) is))) (marked_tokens marked place body (omega arith) ∙ ap (λ (t : List (List ℕ)). mark_tokens marked place ++ t) (insn_read place i (operation_of i.code) own))
    ∙ ap (λ (ls : List (List (List ℕ))). (mark_tokens marked place ++ insn_tokens place i (operation_of i.code)) ∷ ls)
    (lines_read p (place + 1) is (λ n j e. let shift : place + suc n ≡ place + 1 + n = omega arith in subst (λ (m : ℕ). AreSmall m j) shift (small (suc n) j e)))
