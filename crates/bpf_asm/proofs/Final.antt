-- A text of a program has no fault, and is a text of no other program.
use Rattle.std.proofs.Common.{◌≡◌, ℕ, zero, suc, ◌+◌, ◌<◌, ◌^◌, inl, inr, List, [], ◌∷◌, length, Bool, true, false, Option, Some, Result, Ok, Err, MatchResult, refl, ap, sym, ◌∙◌, subst, arith}
use Rattle.std.specs.Prelude.{slice_get}
use Rattle.std.proofs.lemmas.Option.{slice_get_within}
use Rattle.bpf_check.specs.declared.insn.Insn.{Insn}
use Rattle.bpf_check.specs.declared.operation.Operand.TheVariants.{Constant, Index}
use Rattle.bpf_check.specs.declared.operation.Operation.{Operation}
use Rattle.bpf_check.specs.declared.operation.Operation.TheVariants.{Jump, Branch}
use Rattle.bpf_asm.specs.declared.fault.AsmFault.{AsmFault}
use Rattle.bpf_asm.specs.declared.fault.AsmFault.TheVariants as faults
use Rattle.bpf_asm.specs.Spelling.{kinds, AreOpen}
use Rattle.bpf_asm.specs.declared.number.Notation.{Notation}
use Rattle.bpf_asm.specs.declared.number.Notation.TheVariants.{Decimal, Hexadecimal, Address}
use Rattle.bpf_asm.specs.Number.{notation, HasValue, IsNumber}
use Rattle.bpf_asm.proofs.Addresses.{address_same}
use Rattle.bpf_asm.specs.Assembly.{body_of, some_token, has_body, instruction_index, LabelAt, IsAtDistance, Puts, IsInsn, Assembles, labels_in, WrongNumber, IsBranch, BodyFault, LineFault, JumpFault, FaultAt, IsAssemblyFault}
use Rattle.bpf_asm.proofs.Bodies.{one_body}
use Rattle.bpf_asm.proofs.Places.{place_less, place_line}
use Rattle.bpf_asm.proofs.Passes.{is_mnemonic_of, no_empty_fault, first_word}
use Rattle.bpf_asm.proofs.Jumps.{body_has, led_right}

-- ---- no fault

number_put : (ls : List (List (List ℕ))) (place : ℕ) (i : Insn) (o : Operation) (ws : List (List ℕ)) → Puts ls place i o ws → WrongNumber ws o → ⊥
number_put ls place i o [] puts wrong = wrong
number_put ls place i Jump (w ∷ ws) puts wrong = wrong
number_put ls place i (Branch test Index) (w ∷ ws) puts wrong = wrong
number_put ls place i (Branch test Constant) (w ∷ []) puts wrong = wrong i.k puts.0
number_put ls place i (Branch test Constant) (w ∷ l ∷ []) puts wrong = puts
number_put ls place i (Branch test Constant) (w ∷ l ∷ m ∷ []) puts wrong = wrong i.k puts.0
number_put ls place i (Branch test Constant) (w ∷ l ∷ m ∷ v ∷ ws) puts wrong = puts
number_put ls place i _ (w ∷ []) puts wrong = wrong i.k puts.0
number_put ls place i _ (w ∷ v ∷ ws) puts wrong = puts

no_insn_fault : (ls : List (List (List ℕ))) (place : ℕ) (body : List (List ℕ)) (i : Insn) (line : ℕ) (fault : AsmFault) → IsInsn ls place body i → BodyFault body line fault → ⊥
no_insn_fault ls place body i line (faults.Mnemonic k) is h = first_word body (is_mnemonic_of body i.code is.operation is.ws is.written) h.1
no_insn_fault ls place body i line (faults.Operand k) is h = h.2 (i.code, is.operation, is.ws, is.written)
no_insn_fault ls place body i line (faults.Number k) is h =
    let p = h.1 in
    let e = one_body body p.0 i.code p.1 is.operation p.2 is.ws p.3 is.written in
    number_put ls place i is.operation is.ws is.puts (subst (λ (ws : List (List ℕ)). WrongNumber ws is.operation) e.words (subst (WrongNumber p.2) e.operation p.4))
no_insn_fault ls place body i line _ is h = h

-- the labels of an instruction lead to its targets
record IsLed (ls : List (List (List ℕ))) (place : ℕ) (o : Operation) (label : List ℕ) : Type 0 where
  distance : ℕ
  lead : IsAtDistance ls place label distance
  near : IsBranch o → distance < 256

none_past : {A : Type 0} (n : ℕ) (x : A) → slice_get [] n ≡ Some x → ⊥
none_past n x e = absurd (cc)

led : (ls : List (List (List ℕ))) (place : ℕ) (o : Operation) (own label : List ℕ) (distance : ℕ) → own ≡ label → IsAtDistance ls place own distance → (IsBranch o → distance < 256) → IsLed ls place o label
led ls place o own label distance same lead near = record { distance = distance; lead = subst (λ (l : List ℕ). IsAtDistance ls place l distance) same lead; near = near }

puts_leads : (ls : List (List (List ℕ))) (place : ℕ) (i : Insn) (o : Operation) (ws : List (List ℕ)) → (i.jt < 2 ^ 8) × (i.jf < 2 ^ 8) → AreOpen (kinds o) ws → Puts ls place i o ws → (j : ℕ) (label : List ℕ) → slice_get (labels_in ws o) j ≡ Some label → IsLed ls place o label
puts_leads ls place i Jump [] ranges fits puts j label e = absurd fits
puts_leads ls place i Jump (l ∷ []) ranges fits puts zero label e = led ls place Jump l label i.k (cc) puts.0 (λ b. absurd b)
puts_leads ls place i Jump (l ∷ []) ranges fits puts (suc j) label e = absurd (none_past j label e)
puts_leads ls place i Jump (l ∷ m ∷ ws) ranges fits puts j label e = absurd fits.1
puts_leads ls place i (Branch test Constant) [] ranges fits puts j label e = absurd fits
puts_leads ls place i (Branch test Constant) (w ∷ []) ranges fits puts j label e = absurd fits.1
puts_leads ls place i (Branch test Constant) (w ∷ l ∷ []) ranges fits puts j label e = absurd fits.1.1
puts_leads ls place i (Branch test Constant) (w ∷ l ∷ m ∷ []) ranges fits puts zero label e = led ls place (Branch test Constant) l label i.jt (cc) puts.1 (λ b. ranges.0)
puts_leads ls place i (Branch test Constant) (w ∷ l ∷ m ∷ []) ranges fits puts (suc zero) label e = led ls place (Branch test Constant) m label i.jf (cc) puts.2 (λ b. ranges.1)
puts_leads ls place i (Branch test Constant) (w ∷ l ∷ m ∷ []) ranges fits puts (suc (suc j)) label e = absurd (none_past j label e)
puts_leads ls place i (Branch test Constant) (w ∷ l ∷ m ∷ v ∷ ws) ranges fits puts j label e = absurd fits.1.1.1
puts_leads ls place i (Branch test Index) [] ranges fits puts j label e = absurd fits
puts_leads ls place i (Branch test Index) (l ∷ []) ranges fits puts j label e = absurd fits.1
puts_leads ls place i (Branch test Index) (l ∷ m ∷ []) ranges fits puts zero label e = led ls place (Branch test Index) l label i.jt (cc) puts.1 (λ b. ranges.0)
puts_leads ls place i (Branch test Index) (l ∷ m ∷ []) ranges fits puts (suc zero) label e = led ls place (Branch test Index) m label i.jf (cc) puts.2 (λ b. ranges.1)
puts_leads ls place i (Branch test Index) (l ∷ m ∷ []) ranges fits puts (suc (suc j)) label e = absurd (none_past j label e)
puts_leads ls place i (Branch test Index) (l ∷ m ∷ v ∷ ws) ranges fits puts j label e = absurd fits.1.1
puts_leads ls place i _ ws ranges fits puts j label e = absurd (none_past j label e)

body_empty : (line body : List (List ℕ)) → body_of line ≡ body → has_body line ≡ false → body ≡ []
body_empty line [] e h = refl
body_empty line (t ∷ ts) e h = absurd (let f : has_body line ≡ true = ap some_token e in cc)

no_body_fault : (ls : List (List (List ℕ))) (p : List Insn) (n : ℕ) (line : List (List ℕ)) (b : Bool) (fault : AsmFault) → Assembles ls p → slice_get ls n ≡ Some line → has_body line ≡ b → BodyFault (body_of line) (n + 1) fault → ⊥
no_body_fault ls p n line true fault is here body h = let i = is.each n line here body in no_insn_fault ls (instruction_index ls n) (body_of line) i.0 (n + 1) fault i.2 h
no_body_fault ls p n line false fault is here body h = no_empty_fault (n + 1) fault (subst (λ (ts : List (List ℕ)). BodyFault ts (n + 1) fault) (body_empty line (body_of line) refl body) h)

no_line_fault : (ls : List (List (List ℕ))) (p : List Insn) (time n : ℕ) (line : List (List ℕ)) (fault : AsmFault) → Assembles ls p → slice_get ls n ≡ Some line → LineFault ls time n line fault → ⊥
no_line_fault ls p time n line (faults.DoubleLabel k) is here h =
    let d = h.2 in
    let same = is.labels d.earlier n d.label d.first (line, here, d.named) in
    let before = d.before in
    omega arith
no_line_fault ls p time n line (faults.TooLong k) is here h =
    let less = place_less ls n (length ls) line here h.2 (slice_get_within ls n line here) in
    let count = is.count in
    let short = is.short in
    omega (arith, h.3)
no_line_fault ls p time n line fault is here h = no_body_fault ls p n line (has_body line) fault is here refl h.1

no_jump_fault : (ls : List (List (List ℕ))) (p : List Insn) (time n : ℕ) (line : List (List ℕ)) (fault : AsmFault) → Assembles ls p → slice_get ls n ≡ Some line → JumpFault ls time n line fault → ⊥
no_jump_fault ls p time n line fault is here b =
    let i = is.each n line here (body_has line b.code b.operation b.ws b.written) in
    let e = one_body (body_of line) i.0.code b.code i.2.operation b.operation i.2.ws b.ws i.2.written b.written in
    let named = ap (λ (ws : List (List ℕ)). slice_get (labels_in ws i.2.operation) b.j) e.words ∙ ap (λ (o : Operation). slice_get (labels_in b.ws o) b.j) e.operation ∙ b.named in
    let led = puts_leads ls (instruction_index ls n) i.0 i.2.operation i.2.ws i.2.ranges i.2.written.form i.2.puts b.j b.label named in
    led_right ls (instruction_index ls n) b.operation b.label led.distance (λ k m x y. is.labels k m b.label x y) led.lead (λ branch. led.near (subst IsBranch (sym e.operation) branch)) (n + 1) fault b.wrong

pub no_fault : (ls : List (List (List ℕ))) (p : List Insn) (time : ℕ) (fault : AsmFault) → Assembles ls p → FaultAt ls time fault → ⊥
no_fault ls p time fault is h = elim h.3 [
  | inl a ↦ no_line_fault ls p time h.0 h.1 fault is h.2 a
  | inr b ↦ no_jump_fault ls p time h.0 h.1 fault is h.2 b
]

-- ---- one program

value_same : (k : Notation) (w : List ℕ) (m n : ℕ) → HasValue k w m → HasValue k w n → m ≡ n
value_same Decimal w m n p q = sym p.1 ∙ q.1
value_same Hexadecimal w m n p q = sym p.1 ∙ q.1
value_same Address w m n p q = address_same w m n p q

number_same : (w : List ℕ) (m n : ℕ) → IsNumber w m → IsNumber w n → m ≡ n
unfolding IsNumber
number_same w m n p q = value_same (notation w) w m n p.0 q.0

lead_same : (ls : List (List (List ℕ))) (place : ℕ) (label : List ℕ) (d e : ℕ) → ((m n : ℕ) (l : List ℕ) → LabelAt ls m l → LabelAt ls n l → m ≡ n) → IsAtDistance ls place label d → IsAtDistance ls place label e → d ≡ e
lead_same ls place label d e one a b = let same = ap (instruction_index ls) (one a.0 b.0 label a.1 b.1) in let x = a.2 in let y = b.2 in omega arith

zeros : (a b : ℕ) → a ≡ 0 → b ≡ 0 → a ≡ b
zeros a b p q = p ∙ sym q

fields_same : (ls : List (List (List ℕ))) (place : ℕ) (i j : Insn) (o : Operation) (ws : List (List ℕ)) → ((m n : ℕ) (l : List ℕ) → LabelAt ls m l → LabelAt ls n l → m ≡ n) → AreOpen (kinds o) ws → Puts ls place i o ws → Puts ls place j o ws → (i.jt ≡ j.jt) × (i.jf ≡ j.jf) × (i.k ≡ j.k)
fields_same ls place i j Jump [] one fits a b = absurd fits
fields_same ls place i j Jump (l ∷ []) one fits a b = (zeros i.jt j.jt a.1 b.1, zeros i.jf j.jf a.2 b.2, lead_same ls place l i.k j.k one a.0 b.0)
fields_same ls place i j Jump (l ∷ m ∷ ws) one fits a b = absurd fits.1
fields_same ls place i j (Branch test Constant) [] one fits a b = absurd fits
fields_same ls place i j (Branch test Constant) (w ∷ []) one fits a b = absurd fits.1
fields_same ls place i j (Branch test Constant) (w ∷ l ∷ []) one fits a b = absurd fits.1.1
fields_same ls place i j (Branch test Constant) (w ∷ l ∷ m ∷ []) one fits a b = (lead_same ls place l i.jt j.jt one a.1 b.1, lead_same ls place m i.jf j.jf one a.2 b.2, number_same w i.k j.k a.0 b.0)
fields_same ls place i j (Branch test Constant) (w ∷ l ∷ m ∷ v ∷ ws) one fits a b = absurd fits.1.1.1
fields_same ls place i j (Branch test Index) [] one fits a b = absurd fits
fields_same ls place i j (Branch test Index) (l ∷ []) one fits a b = absurd fits.1
fields_same ls place i j (Branch test Index) (l ∷ m ∷ []) one fits a b = (lead_same ls place l i.jt j.jt one a.1 b.1, lead_same ls place m i.jf j.jf one a.2 b.2, zeros i.k j.k a.0 b.0)
fields_same ls place i j (Branch test Index) (l ∷ m ∷ v ∷ ws) one fits a b = absurd fits.1.1
fields_same ls place i j _ [] one fits a b = (zeros i.jt j.jt a.1 b.1, zeros i.jf j.jf a.2 b.2, zeros i.k j.k a.0 b.0)
fields_same ls place i j _ (w ∷ []) one fits a b = (zeros i.jt j.jt a.1 b.1, zeros i.jf j.jf a.2 b.2, number_same w i.k j.k a.0 b.0)
fields_same ls place i j _ (w ∷ v ∷ ws) one fits a b = absurd a

insn_same : (i j : Insn) → i.code ≡ j.code → (i.jt ≡ j.jt) × (i.jf ≡ j.jf) × (i.k ≡ j.k) → i ≡ j
insn_same i j code e = λ t. record { code = code t; jt = e.0 t; jf = e.1 t; k = e.2 t }

one_insn : (ls : List (List (List ℕ))) (place : ℕ) (body : List (List ℕ)) (i j : Insn) → ((m n : ℕ) (l : List ℕ) → LabelAt ls m l → LabelAt ls n l → m ≡ n) → IsInsn ls place body i → IsInsn ls place body j → i ≡ j
one_insn ls place body i j one a b =
    let e = one_body body j.code i.code b.operation a.operation b.ws a.ws b.written a.written in
    let puts = subst (λ (ws : List (List ℕ)). Puts ls place j a.operation ws) e.words (subst (λ (o : Operation). Puts ls place j o b.ws) e.operation b.puts) in
    insn_same i j (sym e.code) (fields_same ls place i j a.operation a.ws one a.written.form a.puts puts)

some_same : {A : Type 0} (o : Option A) (x y : A) → o ≡ Some x → o ≡ Some y → x ≡ y
some_same o x y p q = cc

same_list : (p q : List Insn) → length p ≡ length q → ((n : ℕ) (i j : Insn) → slice_get p n ≡ Some i → slice_get q n ≡ Some j → i ≡ j) → p ≡ q
same_list [] [] e h = refl
same_list [] (j ∷ q) e h = absurd (omega arith)
same_list (i ∷ p) [] e h = absurd (omega arith)
same_list (i ∷ p) (j ∷ q) e h =
    let first = h 0 i j refl refl in
    let rest = same_list p q (omega arith) (λ n x y. h (suc n) x y) in
    λ t. first t ∷ rest t

pub one_program : (ls : List (List (List ℕ))) (p q : List Insn) → Assembles ls p → Assembles ls q → p ≡ q
one_program ls p q a b = same_list p q (a.count ∙ sym b.count) same
  where
    same : (k : ℕ) (i j : Insn) → slice_get p k ≡ Some i → slice_get q k ≡ Some j → i ≡ j
    same k i j x y =
        let within = slice_get_within p k i x in
        let count = a.count in
        let r = place_line ls k (omega arith) in
        let s = a.each r.n r.x r.found r.passes in
        let t = b.each r.n r.x r.found r.passes in
        let e = some_same (slice_get p k) s.0 i (ap (slice_get p) (sym r.earlier) ∙ s.1) x in
        let f = some_same (slice_get q k) t.0 j (ap (slice_get q) (sym r.earlier) ∙ t.1) y in
        sym e ∙ one_insn ls (instruction_index ls r.n) (body_of r.x) s.0 t.0 a.labels s.2 t.2 ∙ f

only_memory : (ls : List (List (List ℕ))) (p : List Insn) (fault : AsmFault) → Assembles ls p → IsAssemblyFault ls fault → fault ≡ faults.NoMemory
only_memory ls p faults.NoMemory is h = refl
only_memory ls p fault is h = absurd (no_fault ls p h.time fault is h.has)

pub only_answer : {V : Type 0} (items : V → List Insn) (r : Result V AsmFault) (ls : List (List (List ℕ))) → MatchResult r (λ v. Assembles ls (items v)) (λ f. IsAssemblyFault ls f) → (p : List Insn) → Assembles ls p → MatchResult r (λ v. items v ≡ p) (λ f. f ≡ faults.NoMemory)
only_answer items (Ok v) ls h p is = one_program ls (items v) p h is
only_answer items (Err f) ls h p is = only_memory ls p f is h
