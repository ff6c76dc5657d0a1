-- The text of an accepted program is a text of it, with 0 in the fields that it doesn't use.
use Rattle.std.proofs.Common.{◌≡◌, ℕ, zero, suc, ◌+◌, ◌^◌, ◌<◌, ◌≤◌, ◌⊎◌, inl, inr, List, [], ◌∷◌, ◌++◌, length, map, Bool, true, false, ◌||◌, nat_eq, decimal, Option, Some, None, Result, Ok, Err, refl, ap, sym, ◌∙◌, subst, arith, eq-eqb}
use Rattle.std.specs.Prelude.{slice_get, IsSomeAnd, IfOk}
use Rattle.std.specs.Option.{option_map}
use Rattle.std.proofs.lemmas.Bool.Decides.{nat_tests}
use Rattle.std.proofs.lemmas.Option.{slice_get_within, slice_get-map}
use Rattle.std.proofs.lemmas.Fmt.{decimal_injective}
use Rattle.bpf_check.specs.declared.insn.Insn.{Insn}
use Rattle.bpf_check.specs.declared.operation.Operand.TheVariants.{Constant, Index}
use Rattle.bpf_check.specs.declared.operation.Operation.{Operation}
use Rattle.bpf_check.specs.declared.operation.Operation.TheVariants.{LoadAbsolute, LoadIndirect, LoadConstant, LoadScratch, LoadLength, IndexConstant, IndexScratch, IndexLength, IndexHeader, StoreAccumulator, StoreIndex, Compute, Negate, Jump, Branch, ReturnConstant, ReturnAccumulator, ToIndex, ToAccumulator}
use Rattle.bpf_check.specs.Operation.{operation_of}
use Rattle.bpf_check.specs.Accepted.{FieldsFit, IsAccepted}
use Rattle.bpf_asm.specs.Form.{mnemonic}
use Rattle.bpf_asm.specs.Spelling.{kinds, spelled_with}
use Rattle.bpf_asm.specs.Text.{label_text, targets_by, targets, has_number, is_target, program_text}
use Rattle.bpf_asm.specs.Assembly.{token_lines, label_of, body_of, has_body, instruction_index, LabelAt, IsAtDistance, Puts, IsInsn, Assembles}
use Rattle.bpf_check.specs.Insn.{AreInRange}
use Rattle.bpf_asm.specs.Cleared.{cleared_as, cleared}
use Rattle.bpf_asm.proofs.Decimals.{decimal_number}
use Rattle.bpf_asm.proofs.Places.{length_shown, some_same, place_yes, body_true}
use Rattle.bpf_asm.proofs.Jumps.{there_is}
use Rattle.bpf_asm.proofs.Written.{words_for, AreSmall, words_open, unnamed, unnamed_body, mark_tokens}
use Rattle.bpf_asm.proofs.WrittenLines.{insn_tokens, token_list, lines_read}

some_and : {A : Type 0} (o : Option A) (P : A → Type 0) → IsSomeAnd o P → (x : A) × (o ≡ Some x) × P x
some_and None P h = absurd h
some_and (Some x) P h = (x, refl, h)

-- ---- jumps and their targets

or_right : (a b : Bool) → b ≡ true → (a || b) ≡ true
or_right true b e = refl
or_right false b e = e

either : (a b : Bool) → (a || b) ≡ true → (a ≡ true) ⊎ (b ≡ true)
either true b e = inl refl
either false b e = inr e

hold_first : (x : ℕ) (ys : List ℕ) → has_number x (x ∷ ys) ≡ true
hold_first x ys = ap (λ (b : Bool). b || has_number x ys) (eq-eqb x x refl)

hold_second : (x y : ℕ) → has_number x (y ∷ x ∷ []) ≡ true
hold_second x y = or_right (nat_eq y x) (has_number x (x ∷ [])) (hold_first x [])

same_number : (x y : ℕ) → nat_eq x y ≡ true → x ≡ y
same_number x y e = grind (arith, nat_tests)

held : (x : ℕ) (ys : List ℕ) → has_number x (ys) ≡ true → (n : ℕ) × (y : ℕ) × (slice_get ys n ≡ Some y) × (y ≡ x)
held x [] e = absurd (cc)
held x (y ∷ ys) e = elim (either (nat_eq y x) (has_number x ys) e) [
  | inl p ↦ (0, y, refl, same_number y x p)
  | inr p ↦ (let r = held x ys p in (suc r.0, r.1, r.2, r.3))
]

none_past : {A : Type 0} (n : ℕ) (x : A) → slice_get [] n ≡ Some x → ⊥
none_past n x e = absurd (cc)

target_inside : (count place : ℕ) (i : Insn) (o : Operation) (n t : ℕ) → FieldsFit count place i o → slice_get (targets_by place i o) n ≡ Some t → t < count
target_inside count place i Jump zero t fit e = let same : place + 1 + i.k ≡ t = cc in omega arith
target_inside count place i Jump (suc n) t fit e = absurd (none_past n t e)
target_inside count place i (Branch test side) zero t fit e = let same : place + 1 + i.jt ≡ t = cc in omega (arith, fit.0)
target_inside count place i (Branch test side) (suc zero) t fit e = let same : place + 1 + i.jf ≡ t = cc in omega (arith, fit.1)
target_inside count place i (Branch test side) (suc (suc n)) t fit e = absurd (none_past n t e)
target_inside count place i _ n t fit e = absurd (none_past n t e)

targets_some : (place : ℕ) (i : Insn) (o : Operation) → targets place i (Some o) ≡ targets_by place i o
unfolding targets
targets_some place i o = refl

is_target_true : (p : List Insn) (place n t m : ℕ) (i : Insn) → m ≡ place + n → slice_get p n ≡ Some i → has_number t (targets m i (operation_of i.code)) ≡ true → is_target t place p ≡ true
is_target_true [] place n t m i e found h = absurd (none_past n i found)
is_target_true (j ∷ is) place zero t m i e found h =
    let same : j ≡ i = cc in
    let here : m ≡ place = omega arith in
    let own : has_number t (targets place j (operation_of j.code)) ≡ true = ap (λ (x : Insn). has_number t (targets place x (operation_of x.code))) same ∙ ap (λ (k : ℕ). has_number t (targets k i (operation_of i.code))) (sym here) ∙ h in
    ap (λ (b : Bool). b || is_target t (place + 1) is) own
is_target_true (j ∷ is) place (suc n) t m i e found h =
    or_right (has_number t (targets place j (operation_of j.code))) (is_target t (place + 1) is) (is_target_true is (place + 1) n t m i (omega arith) found h)

-- ---- the lines

abbrev line_for : List Insn → ℕ → Insn → List (List ℕ)
line_for p n i = mark_tokens (is_target n 0 p) n ++ insn_tokens n i (operation_of i.code)

token_at : (p : List Insn) (place : ℕ) (is : List Insn) (n m : ℕ) (i : Insn) → m ≡ place + n → slice_get is n ≡ Some i → slice_get (token_list p place is) n ≡ Some (line_for p m i)
token_at p place [] n m i e found = absurd (none_past n i found)
token_at p place (j ∷ is) zero m i e found =
    let same : j ≡ i = cc in
    let here : place ≡ m = omega arith in
    ap (λ (k : ℕ). Some (line_for p k j)) here ∙ ap (λ (x : Insn). Some (line_for p m x)) same
token_at p place (j ∷ is) (suc n) m i e found = token_at p (place + 1) is n m i (omega arith) found

token_length : (p : List Insn) (place : ℕ) (is : List Insn) → length (token_list p place is) ≡ length is
token_length p place [] = refl
token_length p place (i ∷ is) = ap suc (token_length p (place + 1) is)

abbrev body_for : ℕ → Insn → Operation → List (List ℕ)
body_for n i o = mnemonic o ∷ spelled_with (kinds o) (words_for n i o)

marked_label : (m : Bool) (n : ℕ) (body : List (List ℕ)) → m ≡ true → label_of (mark_tokens m n ++ body) ≡ Some (label_text n)
marked_label true n body e = refl
marked_label false n body e = absurd (cc)

own_label : (m : Bool) (n : ℕ) (i : Insn) (o : Operation) (label : List ℕ) → label_of (mark_tokens m n ++ body_for n i o) ≡ Some label → label ≡ label_text n
own_label true n i o label e = cc
own_label false n i o label e = absurd (let f = unnamed n i o in cc)

own_body : (m : Bool) (n : ℕ) (i : Insn) (o : Operation) → body_of (mark_tokens m n ++ body_for n i o) ≡ body_for n i o
own_body true n i o = refl
own_body false n i o = unnamed_body n i o

-- ---- the instructions

puts_back : (ls : List (List (List ℕ))) (place : ℕ) (i : Insn) (o : Operation) → AreSmall place i → ((d : ℕ) → has_number (place + 1 + d) (targets_by place i o) ≡ true → IsAtDistance ls place (label_text (place + 1 + d)) d) → Puts ls place (cleared_as i (Some o)) o (words_for place i o)
puts_back ls place i (LoadAbsolute width) h leads = (decimal_number i.k h.k, refl, refl)
puts_back ls place i (LoadIndirect width) h leads = (decimal_number i.k h.k, refl, refl)
puts_back ls place i LoadConstant h leads = (decimal_number i.k h.k, refl, refl)
puts_back ls place i LoadScratch h leads = (decimal_number i.k h.k, refl, refl)
puts_back ls place i LoadLength h leads = (refl, refl, refl)
puts_back ls place i IndexConstant h leads = (decimal_number i.k h.k, refl, refl)
puts_back ls place i IndexScratch h leads = (decimal_number i.k h.k, refl, refl)
puts_back ls place i IndexLength h leads = (refl, refl, refl)
puts_back ls place i IndexHeader h leads = (decimal_number i.k h.k, refl, refl)
puts_back ls place i StoreAccumulator h leads = (decimal_number i.k h.k, refl, refl)
puts_back ls place i StoreIndex h leads = (decimal_number i.k h.k, refl, refl)
puts_back ls place i (Compute arithmetic Constant) h leads = (decimal_number i.k h.k, refl, refl)
puts_back ls place i (Compute arithmetic Index) h leads = (refl, refl, refl)
puts_back ls place i Negate h leads = (refl, refl, refl)
puts_back ls place i Jump h leads = (leads i.k (hold_first (place + 1 + i.k) []), refl, refl)
puts_back ls place i (Branch test Constant) h leads = (decimal_number i.k h.k, leads i.jt (hold_first (place + 1 + i.jt) ((place + 1 + i.jf) ∷ [])), leads i.jf (hold_second (place + 1 + i.jf) (place + 1 + i.jt)))
puts_back ls place i (Branch test Index) h leads = (refl, leads i.jt (hold_first (place + 1 + i.jt) ((place + 1 + i.jf) ∷ [])), leads i.jf (hold_second (place + 1 + i.jf) (place + 1 + i.jt)))
puts_back ls place i ReturnConstant h leads = (decimal_number i.k h.k, refl, refl)
puts_back ls place i ReturnAccumulator h leads = (refl, refl, refl)
puts_back ls place i ToIndex h leads = (refl, refl, refl)
puts_back ls place i ToAccumulator h leads = (refl, refl, refl)

ranges_back : (place : ℕ) (i : Insn) (o : Operation) → AreSmall place i → (let j = cleared_as i (Some o) in (j.jt < 2 ^ 8) × (j.jf < 2 ^ 8))
ranges_back place i (Branch test side) h = (h.jt, h.jf)
ranges_back place i _ h = (omega arith, omega arith)

-- ---- the program

pub written_read : (p : List Insn) → IsAccepted p → AreInRange p → Assembles (token_lines (program_text p)) (map cleared p)
written_read p accepted ranges = subst (λ (ls : List (List (List ℕ))). Assembles ls (map cleared p)) (sym read) (record {
  labels = labels;
  each = each;
  count = length_shown cleared p ∙ sym (ap (instruction_index ls) (token_length p 0 p) ∙ place_is (length p) (omega arith));
  short = (let few = length_shown cleared p in let short = accepted.short in omega arith);
})
  where
    ls : List (List (List ℕ))
    ls = token_list p 0 p

    small : (n : ℕ) (i : Insn) → slice_get p n ≡ Some i → AreSmall n i
    small n i found =
        let range = ranges n i found in
        let within = slice_get_within p n i found in
        let short = accepted.short in
        record { k = range.3; jt = range.1; jf = range.2; near = omega arith }

    read : token_lines (program_text p) ≡ ls
    read = lines_read p 0 p (λ n i found. let same : n ≡ 0 + n = omega arith in subst (λ (m : ℕ). AreSmall m i) same (small n i found))

    operation_at : (n : ℕ) (i : Insn) → slice_get p n ≡ Some i → (o : Operation) × (operation_of i.code ≡ Some o) × FieldsFit (length p) n i o
    operation_at n i found = some_and (operation_of i.code) (FieldsFit (length p) n i) (accepted.each n i found)

    line_at : (n : ℕ) (i : Insn) (o : Operation) → slice_get p n ≡ Some i → operation_of i.code ≡ Some o → slice_get ls n ≡ Some (mark_tokens (is_target n 0 p) n ++ body_for n i o)
    line_at n i o found e = token_at p 0 p n n i (omega arith) found ∙ ap (λ (x : Option Operation). Some (mark_tokens (is_target n 0 p) n ++ insn_tokens n i x)) e

    line_within : (n : ℕ) (line : List (List ℕ)) → slice_get ls n ≡ Some line → n < length p
    line_within n line found = let few = token_length p 0 p in omega (arith, slice_get_within ls n line found)

    place_is : (n : ℕ) → n ≤ length p → instruction_index ls n ≡ n
    place_is zero h = refl
    place_is (suc n) h =
        let i = there_is p n (omega arith) in
        let o = operation_at n i.0 i.1 in
        let here = line_at n i.0 o.0 i.1 o.1 in
        let body = body_true (mark_tokens (is_target n 0 p) n ++ body_for n i.0 o.0) (mnemonic o.0) (spelled_with (kinds o.0) (words_for n i.0 o.0)) (own_body (is_target n 0 p) n i.0 o.0) in
        let step = place_yes ls n (mark_tokens (is_target n 0 p) n ++ body_for n i.0 o.0) here body in
        let before = place_is n (omega arith) in
        let next : n + 1 ≡ suc n = omega arith in
        ap (instruction_index ls) (sym next) ∙ step ∙ ap (λ (k : ℕ). k + 1) before ∙ next

    label_is : (n : ℕ) (label : List ℕ) → LabelAt ls n label → label ≡ label_text n
    label_is n label at =
        let i = there_is p n (line_within n at.0 at.1) in
        let o = operation_at n i.0 i.1 in
        let same = some_same (slice_get ls n) at.0 (mark_tokens (is_target n 0 p) n ++ body_for n i.0 o.0) at.1 (line_at n i.0 o.0 i.1 o.1) in
        own_label (is_target n 0 p) n i.0 o.0 label (ap label_of (sym same) ∙ at.2)

    labels : (m n : ℕ) (label : List ℕ) → LabelAt ls m label → LabelAt ls n label → m ≡ n
    labels m n label a b =
        let e : label_text m ≡ label_text n = sym (label_is m label a) ∙ label_is n label b in
        let d : decimal m ≡ decimal n = cc in
        let x = line_within m a.0 a.1 in
        let y = line_within n b.0 b.1 in
        let short = accepted.short in
        decimal_injective m n (omega arith) (omega arith) d

    leads : (n : ℕ) (i : Insn) (o : Operation) → slice_get p n ≡ Some i → operation_of i.code ≡ Some o → FieldsFit (length p) n i o → (d : ℕ) → has_number (n + 1 + d) (targets_by n i o) ≡ true → IsAtDistance ls n (label_text (n + 1 + d)) d
    leads n i o found e fit d h =
        let t = n + 1 + d in
        let r = held t (targets_by n i o) h in
        let inside : t < length p = subst (λ (k : ℕ). k < length p) r.3 (target_inside (length p) n i o r.0 r.1 fit r.2) in
        let j = there_is p t inside in
        let q = operation_at t j.0 j.1 in
        let marked = is_target_true p 0 n t n i (omega arith) found (ap (λ (x : Option Operation). has_number t (targets n i x)) e ∙ ap (has_number t) (targets_some n i o) ∙ h) in
        (t, (mark_tokens (is_target t 0 p) t ++ body_for t j.0 q.0, line_at t j.0 q.0 j.1 q.1, marked_label (is_target t 0 p) t (body_for t j.0 q.0) marked), place_is t (omega arith))

    made : (n : ℕ) (i : Insn) (o : Operation) → slice_get p n ≡ Some i → operation_of i.code ≡ Some o → FieldsFit (length p) n i o → IsInsn ls n (body_for n i o) (cleared i)
    made n i o found e fit = subst (λ (x : Option Operation). IsInsn ls n (body_for n i o) (cleared_as i x)) (sym e) (record {
      operation = o;
      ws = words_for n i o;
      written = record { row = e; form = words_open n i o (small n i found); spelled = refl };
      puts = puts_back ls n i o (small n i found) (leads n i o found e fit);
      ranges = ranges_back n i o (small n i found);
    })

    each : (n : ℕ) (line : List (List ℕ)) → slice_get ls n ≡ Some line → has_body line ≡ true → (i : Insn) × (slice_get (map cleared p) (instruction_index ls n) ≡ Some i) × IsInsn ls (instruction_index ls n) (body_of line) i
    each n line found body =
        let within = line_within n line found in
        let i = there_is p n within in
        let o = operation_at n i.0 i.1 in
        let same = some_same (slice_get ls n) (mark_tokens (is_target n 0 p) n ++ body_for n i.0 o.0) line (line_at n i.0 o.0 i.1 o.1) found in
        let own : body_for n i.0 o.0 ≡ body_of line = sym (own_body (is_target n 0 p) n i.0 o.0) ∙ ap body_of same in
        let there : slice_get (map cleared p) n ≡ Some (cleared i.0) = slice_get-map cleared p n ∙ ap (option_map cleared) i.1 in
        subst (λ (k : ℕ). (j : Insn) × (slice_get (map cleared p) k ≡ Some j) × IsInsn ls k (body_of line) j) (sym (place_is n (omega arith)))
        (cleared i.0, there, subst (λ (b : List (List ℕ)). IsInsn ls n b (cleared i.0)) own (made n i.0 o.0 i.1 o.1 o.2))

pub same_read : (p : List Insn) → IsAccepted p → AreInRange p → map cleared p ≡ p → Assembles (token_lines (program_text p)) p
same_read p accepted ranges e = subst (Assembles (token_lines (program_text p))) e (written_read p accepted ranges)

pub text_read : {S E : Type 0} (octets : S → List ℕ) (r : Result S E) (old new : List Insn) → IfOk r (λ text. octets text ≡ program_text old) → Assembles (token_lines (program_text old)) new → IfOk r (λ text. Assembles (token_lines (octets text)) new)
text_read octets (Ok text) old new e is = subst (λ (t : List ℕ). Assembles (token_lines t) new) (sym e) is
text_read octets (Err fault) old new e is = tt
