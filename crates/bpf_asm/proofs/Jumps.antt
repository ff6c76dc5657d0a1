-- The second pass: the instructions of the drafts, and which label is the first wrong one.
use Rattle.std.proofs.Common.{◌≡◌, ℕ, zero, suc, ◌+◌, ◌*◌, ◌<◌, ◌≤◌, ◌^◌, ◌⊎◌, inl, inr, List, [], ◌∷◌, ◌++◌, length, true, Option, Some, None, refl, ap, sym, ◌∙◌, subst, arith}
use Rattle.std.specs.Prelude.{slice_get, IfSome, IsSomeAnd}
use Rattle.std.proofs.lemmas.List.{length_push}
use Rattle.bpf_check.specs.Accepted.{most_insns}
use Rattle.std.proofs.lemmas.Option.{slice_get_within}
use Rattle.bpf_check.specs.declared.insn.Insn.{Insn}
use Rattle.bpf_check.specs.declared.operation.Operand.TheVariants.{Constant, Index}
use Rattle.bpf_check.specs.declared.operation.Operation.{Operation}
use Rattle.bpf_check.specs.declared.operation.Operation.TheVariants.{Jump, Branch}
use Rattle.bpf_asm.specs.declared.fault.AsmFault.{AsmFault}
use Rattle.bpf_asm.specs.declared.fault.AsmFault.TheVariants as faults
use Rattle.bpf_asm.specs.Form.{mnemonic}
use Rattle.bpf_asm.specs.Spelling.{kinds, AreOpen}
use Rattle.bpf_asm.specs.Number.{IsNumber}
use Rattle.bpf_asm.specs.Assembly.{body_of, has_body, instruction_index, LabelAt, IsBody, IsAtDistance, Puts, IsInsn, Assembles, IsBranch, labels_in, LabelFault, BodyFault, LineFault, JumpFault, FaultAt, IsFirstFault, IsAssemblyFault}
use Rattle.bpf_asm.specs.Drafts.{Draft, Keeps, IsDraft, IsTable, NoneBefore, Resolves, IsResolved, labels_kept, FineLabel, WrongLabel, Unresolved, HasInsn, InsnRefused, IsInsnAt}
use Rattle.bpf_asm.proofs.Bodies.{one_body}
use Rattle.bpf_asm.proofs.Resolving.{each_pushed}
use Rattle.bpf_asm.proofs.Places.{moved, place_less, place_injective, body_true}

pub body_has : (line : List (List ℕ)) (code : ℕ) (operation : Operation) (ws : List (List ℕ)) → IsBody (body_of line) code operation ws → has_body line ≡ true
body_has line code operation ws is = body_true line (mnemonic operation) _ is.spelled

pub label_within : (ls : List (List (List ℕ))) (m : ℕ) (label : List ℕ) → LabelAt ls m label → m < length ls
label_within ls m label h = slice_get_within ls m h.0 h.1

pub there_is : {A : Type 0} (xs : List A) (n : ℕ) → n < length xs → (x : A) × (slice_get xs n ≡ Some x)
there_is [] n h = absurd (omega arith)
there_is (x ∷ xs) zero h = (x, refl)
there_is (x ∷ xs) (suc n) h = there_is xs n (omega arith)

same_labels : (d : Draft) (o : Operation) (ws : List (List ℕ)) → AreOpen (kinds o) ws → Keeps d o ws → labels_in ws o ≡ labels_kept d o
same_labels d Jump [] fits keeps = absurd fits
same_labels d Jump (l ∷ []) fits keeps = ap (λ (x : List ℕ). x ∷ []) (sym keeps.1)
same_labels d Jump (l ∷ m ∷ ws) fits keeps = absurd fits.1
same_labels d (Branch test Constant) [] fits keeps = absurd fits
same_labels d (Branch test Constant) (w ∷ []) fits keeps = absurd fits.1
same_labels d (Branch test Constant) (w ∷ l ∷ []) fits keeps = absurd fits.1.1
same_labels d (Branch test Constant) (w ∷ l ∷ m ∷ []) fits keeps = (let a = keeps.1 in let b = keeps.2 in λ i. sym a i ∷ sym b i ∷ [])
same_labels d (Branch test Constant) (w ∷ l ∷ m ∷ v ∷ ws) fits keeps = absurd fits.1.1.1
same_labels d (Branch test Index) [] fits keeps = absurd fits
same_labels d (Branch test Index) (l ∷ []) fits keeps = absurd fits.1
same_labels d (Branch test Index) (l ∷ m ∷ []) fits keeps = (let a = keeps.1 in let b = keeps.2 in λ i. sym a i ∷ sym b i ∷ [])
same_labels d (Branch test Index) (l ∷ m ∷ v ∷ ws) fits keeps = absurd fits.1.1
same_labels d _ ws fits keeps = refl

-- the label of a jump on a draft's line is the draft's label
jump_label : (ls : List (List (List ℕ))) (n m : ℕ) (line other : List (List ℕ)) (d : Draft) (time : ℕ) (fault : AsmFault) → slice_get ls n ≡ Some line → slice_get ls m ≡ Some other → instruction_index ls m ≡ instruction_index ls n → IsDraft (body_of line) d → (b : JumpFault ls time m other fault)
    → (slice_get (labels_kept d d.operation) b.j ≡ Some b.label) × (d.operation ≡ b.operation)
jump_label ls n m line other d time fault here there place is b =
    let one = place_injective ls n m line other here there (body_has line d.code d.operation is.ws is.written) (body_has other b.code b.operation b.ws b.written) (sym place) in
    let own = moved (λ k l. IsDraft (body_of l) d) ls n m line other one here there is in
    let e = one_body (body_of other) d.code b.code d.operation b.operation own.ws b.ws own.written b.written in
    (ap (λ (l : List (List ℕ)). slice_get l b.j) (sym (same_labels d d.operation own.ws own.written.form own.kept) ∙ ap (λ (ws : List (List ℕ)). labels_in ws d.operation) e.words ∙ ap (labels_in b.ws) e.operation) ∙ b.named, e.operation)

none_past : {A : Type 0} (n : ℕ) (x : A) → slice_get [] n ≡ Some x → ⊥
none_past n x e = absurd (cc)

resolved_fine : (look : List ℕ → Option ℕ) (place : ℕ) (i : Insn) (d : Draft) (o : Operation) → Resolves look place i d o → (j : ℕ) (l : List ℕ) → slice_get (labels_kept d o) j ≡ Some l → FineLabel look place o l
resolved_fine look place i d Jump res zero l e = (i.k, (let same : d.first ≡ l = cc in ap look (sym same) ∙ res.0), λ b. absurd b)
resolved_fine look place i d Jump res (suc j) l e = absurd (none_past j l e)
resolved_fine look place i d (Branch test side) res zero l e = (i.jt, (let same : d.first ≡ l = cc in ap look (sym same) ∙ res.1), λ b. res.3)
resolved_fine look place i d (Branch test side) res (suc zero) l e = (i.jf, (let same : d.second ≡ l = cc in ap look (sym same) ∙ res.2), λ b. res.4)
resolved_fine look place i d (Branch test side) res (suc (suc j)) l e = absurd (none_past j l e)
resolved_fine look place i d _ res j l e = absurd (none_past j l e)

-- a label of a later instruction within reach has no fault
pub led_right : (ls : List (List (List ℕ))) (place : ℕ) (o : Operation) (label : List ℕ) (distance : ℕ) → ((m n : ℕ) → LabelAt ls m label → LabelAt ls n label → m ≡ n) → IsAtDistance ls place label distance → (IsBranch o → distance < 256)
    → (line : ℕ) (fault : AsmFault) → LabelFault ls place o label line fault → ⊥
led_right ls place o label distance one lead near line (faults.NoLabel k) h = h.1 lead.0 lead.1
led_right ls place o label distance one lead near line (faults.Backward k) h =
    let same = ap (instruction_index ls) (one lead.0 h.1.0 lead.1 h.1.1) in
    let to = lead.2 in
    omega (arith, h.1.2)
led_right ls place o label distance one lead near line (faults.Far k) h =
    let same = ap (instruction_index ls) (one lead.0 h.2.0 lead.1 h.2.1) in
    let to = lead.2 in
    let short = near h.1 in
    omega (arith, h.2.2)
led_right ls place o label distance one lead near line _ h = h

fine_right : (ls : List (List (List ℕ))) (look : List ℕ → Option ℕ) (place : ℕ) (o : Operation) (label : List ℕ) → IsTable ls (length ls) look → FineLabel look place o label → (line : ℕ) (fault : AsmFault) → LabelFault ls place o label line fault → ⊥
fine_right ls look place o label table fine line fault h =
    let f = table.found label (place + 1 + fine.0) fine.1 in
    led_right ls place o label fine.0 (λ m n a b. table.unique m n label (label_within ls m label a) (label_within ls n label b) a b) (f.0, f.2, f.3) fine.2 line fault h

wrong_right : (ls : List (List (List ℕ))) (look : List ℕ → Option ℕ) (place : ℕ) (o : Operation) (label : List ℕ) (line : ℕ) (fault : AsmFault) → IsTable ls (length ls) look → WrongLabel look place o label line fault → LabelFault ls place o label line fault
wrong_right ls look place o label line (faults.NoLabel k) table h = (h.0, λ m at. table.missing label h.1 m (label_within ls m label at) at)
wrong_right ls look place o label line (faults.Backward k) table h = let f = table.found label h.1.0 h.1.1 in let e = f.3 in (h.0, (f.0, f.2, omega (arith, h.1.2)))
wrong_right ls look place o label line (faults.Far k) table h = let f = table.found label h.2.0 h.2.1 in let e = f.3 in (h.0, h.1, (f.0, f.2, omega (arith, h.2.2)))
wrong_right ls look place o label line _ table h = h

line_early : (ls : List (List (List ℕ))) (time n : ℕ) (line : List (List ℕ)) (fault : AsmFault) → LineFault ls time n line fault → time ≤ 3 * n + 2
line_early ls time n line (faults.DoubleLabel k) h = omega (arith, h.1)
line_early ls time n line (faults.TooLong k) h = omega (arith, h.1)
line_early ls time n line _ h = omega (arith, h.0)

three : (m n : ℕ) → (m < n) ⊎ ((n < m) ⊎ (m ≡ n))
three m n = grind arith

no_memory_fault : (ls : List (List (List ℕ))) (time : ℕ) → FaultAt ls time faults.NoMemory → ⊥
no_memory_fault ls time h = elim h.3 [ inl a ↦ a.1 | inr b ↦ b.wrong ]

pub first_answer : (ls : List (List (List ℕ))) (fault : AsmFault) → IsFirstFault ls fault → IsAssemblyFault ls fault
first_answer ls faults.NoMemory h = absurd (no_memory_fault ls h.time h.has)
first_answer ls _ h = h

-- no fault of the first pass comes after all lines
past_lines : (ls : List (List (List ℕ))) (time when n : ℕ) (line : List (List ℕ)) (fault : AsmFault) → slice_get ls n ≡ Some line → LineFault ls when n line fault → 3 * length ls + time ≤ when → ⊥
past_lines ls time when n line fault here h low = let early = line_early ls when n line fault h in let within = slice_get_within ls n line here in omega arith

-- each fault comes after the jumps before this index
abbrev pub NoneBeforePlace : List (List (List ℕ)) → ℕ → Type 0
NoneBeforePlace ls place = NoneBefore ls (3 * length ls + 2 * place)

-- a jump's label that is within reach has no fault
refuted : (ls : List (List (List ℕ))) (look : List ℕ → Option ℕ) (n m : ℕ) (line other : List (List ℕ)) (d : Draft) (time : ℕ) (fault : AsmFault) → IsTable ls (length ls) look → slice_get ls n ≡ Some line → slice_get ls m ≡ Some other → instruction_index ls m ≡ instruction_index ls n → IsDraft (body_of line) d → (b : JumpFault ls time m other fault)
    → ((l : List ℕ) → slice_get (labels_kept d d.operation) b.j ≡ Some l → FineLabel look (instruction_index ls n) d.operation l) → ⊥
refuted ls look n m line other d time fault table here there place is b fine =
    let named = jump_label ls n m line other d time fault here there place is b in
    let good = subst (λ (o : Operation). FineLabel look (instruction_index ls n) o b.label) named.1 (fine b.label named.0) in
    fine_right ls look (instruction_index ls n) b.operation b.label table good (m + 1) fault (subst (λ (k : ℕ). LabelFault ls k b.operation b.label (m + 1) fault) place b.wrong)

-- the jump of a line is right
pub place_resolved : (ls : List (List (List ℕ))) (look : List ℕ → Option ℕ) (n : ℕ) (line : List (List ℕ)) (i : Insn) → IsTable ls (length ls) look → slice_get ls n ≡ Some line → HasInsn look (instruction_index ls n) (body_of line) i → NoneBeforePlace ls (instruction_index ls n) → NoneBeforePlace ls (instruction_index ls n + 1)
place_resolved ls look n line i table here h none when other f = elim f.3 [
  | inl a ↦ absurd (past_lines ls (2 * instruction_index ls n) when f.0 f.1 other f.2 a (none when other f))
  | inr b ↦ elim (three (instruction_index ls f.0) (instruction_index ls n)) [
    | inl lt ↦ absurd (let low = none when other f in omega (arith, b.after, b.one_of_two))
    | inr r ↦ elim r [
      | inl gt ↦ omega (arith, b.after)
      | inr same ↦ absurd (refuted ls look n f.0 line f.1 h.d when other table here f.2 same h.draft b (resolved_fine look (instruction_index ls n) i h.d h.d.operation h.resolved.1 b.j))
    ]
  ]
]

-- the first label of a line that is wrong
pub place_unresolved : (ls : List (List (List ℕ))) (look : List ℕ → Option ℕ) (n : ℕ) (line : List (List ℕ)) (d : Draft) (fault : AsmFault) → IsTable ls (length ls) look → slice_get ls n ≡ Some line → IsDraft (body_of line) d → d.line ≡ n + 1 → NoneBeforePlace ls (instruction_index ls n) → Unresolved look (instruction_index ls n) d fault → IsFirstFault ls fault
place_unresolved ls look n line d fault table here is numbered none u = record {
  time = 3 * length ls + 2 * instruction_index ls n + u.j;
  has = (
    n,
    line,
    here,
    inr (record {
      code = d.code;
      operation = d.operation;
      ws = is.ws;
      written = is.written;
      j = u.j;
      one_of_two = u.one_of_two;
      label = u.label;
      named = ap (λ (l : List (List ℕ)). slice_get l u.j) (same_labels d d.operation is.ws is.written.form is.kept) ∙ u.named;
      after = refl;
      wrong = subst (λ (k : ℕ). LabelFault ls (instruction_index ls n) d.operation u.label k fault) numbered (wrong_right ls look (instruction_index ls n) d.operation u.label d.line fault table u.wrong);
    }),
  );
  first = first;
}
  where
    jump_first : (when m : ℕ) (line : List (List ℕ)) (other : AsmFault) → slice_get ls m ≡ Some line → 3 * length ls + 2 * instruction_index ls n ≤ when → JumpFault ls when m line other → 3 * length ls + 2 * instruction_index ls n + u.j ≤ when
    jump_first when m there other found low b = elim (three (instruction_index ls m) (instruction_index ls n)) [
      | inl lt ↦ absurd (omega (arith, b.after, b.one_of_two, low))
      | inr r ↦ elim r [
        | inl gt ↦ omega (arith, b.after, u.one_of_two)
        | inr same ↦ elim (three b.j u.j) [
          | inl lt ↦ absurd (refuted ls look n m line there d when other table here found same is b (λ l e. u.before b.j l lt e))
          | inr s ↦ elim s [ inl gt ↦ omega (arith, b.after, same) | inr equal ↦ omega (arith, b.after, same) ]
        ]
      ]
    ]

    first : (when : ℕ) (other : AsmFault) → FaultAt ls when other → 3 * length ls + 2 * instruction_index ls n + u.j ≤ when
    first when other f = elim f.3 [
      | inl a ↦ absurd (past_lines ls (2 * instruction_index ls n) when f.0 f.1 other f.2 a (none when other f))
      | inr b ↦ jump_first when f.0 f.1 other f.2 (none when other f) b
    ]

-- the body of a line that is refused in the second pass
pub insn_answer : (ls : List (List (List ℕ))) (look : List ℕ → Option ℕ) (n place at : ℕ) (line : List (List ℕ)) (fault : AsmFault) → IsTable ls (length ls) look → slice_get ls n ≡ Some line → place ≡ instruction_index ls n → at ≡ n + 1 → NoneBeforePlace ls place → InsnRefused look place at (body_of line) fault → IsAssemblyFault ls fault
insn_answer ls look n place at line fault table here place_is at_is none h = first_answer ls fault (elim h [
  | inl a ↦ absurd (let low = none (3 * n + 1) fault (n, line, here, inl (body_line fault (subst (λ (k : ℕ). BodyFault (body_of line) k fault) at_is a))) in let within = slice_get_within ls n line here in omega arith)
  | inr u ↦ place_unresolved ls look n line u.0 fault table here u.1 (u.2 ∙ at_is) (subst (NoneBeforePlace ls) place_is none) (subst (λ (k : ℕ). Unresolved look k u.0 fault) place_is u.3)
])
  where
    body_line : (fault : AsmFault) → BodyFault (body_of line) (n + 1) fault → LineFault ls (3 * n + 1) n line fault
    body_line (faults.Mnemonic k) h = (refl, h)
    body_line (faults.Operand k) h = (refl, h)
    body_line (faults.Number k) h = (refl, h)
    body_line _ h = absurd h

-- if neither pass finds a fault, the text has none
pub none_found : (ls : List (List (List ℕ))) → NoneBeforePlace ls (instruction_index ls (length ls)) → (time : ℕ) (fault : AsmFault) → FaultAt ls time fault → ⊥
none_found ls none time fault f = elim f.3 [
  | inl a ↦ past_lines ls (2 * instruction_index ls (length ls)) time f.0 f.1 fault f.2 a (none time fault f)
  | inr b ↦ (let low = none time fault f in let less = place_less ls f.0 (length ls) f.1 f.2 (body_has f.1 b.code b.operation b.ws b.written) (slice_get_within ls f.0 f.1 f.2) in omega (arith, b.after, b.one_of_two))
]

-- ---- the program

leads : (ls : List (List (List ℕ))) (look : List ℕ → Option ℕ) (place : ℕ) (own label : List ℕ) (distance : ℕ) → IsTable ls (length ls) look → own ≡ label → look own ≡ Some (place + 1 + distance) → IsAtDistance ls place label distance
leads ls look place own label distance table same e = let f = table.found label (place + 1 + distance) (ap look (sym same) ∙ e) in (f.0, f.2, f.3)

resolved_puts : (ls : List (List (List ℕ))) (look : List ℕ → Option ℕ) (place : ℕ) (i : Insn) (d : Draft) (o : Operation) (ws : List (List ℕ)) → IsTable ls (length ls) look → AreOpen (kinds o) ws → Keeps d o ws → Resolves look place i d o → Puts ls place i o ws
resolved_puts ls look place i d Jump [] table fits keeps res = absurd fits
resolved_puts ls look place i d Jump (l ∷ []) table fits keeps res = (leads ls look place d.first l i.k table keeps.1 res.0, res.1, res.2)
resolved_puts ls look place i d Jump (l ∷ m ∷ ws) table fits keeps res = absurd fits.1
resolved_puts ls look place i d (Branch test Constant) [] table fits keeps res = absurd fits
resolved_puts ls look place i d (Branch test Constant) (w ∷ []) table fits keeps res = absurd fits.1
resolved_puts ls look place i d (Branch test Constant) (w ∷ l ∷ []) table fits keeps res = absurd fits.1.1
resolved_puts ls look place i d (Branch test Constant) (w ∷ l ∷ m ∷ []) table fits keeps res = (subst (IsNumber w) (sym res.0) keeps.0, leads ls look place d.first l i.jt table keeps.1 res.1, leads ls look place d.second m i.jf table keeps.2 res.2)
resolved_puts ls look place i d (Branch test Constant) (w ∷ l ∷ m ∷ v ∷ ws) table fits keeps res = absurd fits.1.1.1
resolved_puts ls look place i d (Branch test Index) [] table fits keeps res = absurd fits
resolved_puts ls look place i d (Branch test Index) (l ∷ []) table fits keeps res = absurd fits.1
resolved_puts ls look place i d (Branch test Index) (l ∷ m ∷ []) table fits keeps res = (res.0 ∙ keeps.0, leads ls look place d.first l i.jt table keeps.1 res.1, leads ls look place d.second m i.jf table keeps.2 res.2)
resolved_puts ls look place i d (Branch test Index) (l ∷ m ∷ v ∷ ws) table fits keeps res = absurd fits.1.1
resolved_puts ls look place i d _ [] table fits keeps res = (res.0 ∙ keeps, res.1, res.2)
resolved_puts ls look place i d _ (w ∷ []) table fits keeps res = (subst (IsNumber w) (sym res.0) keeps, res.1, res.2)
resolved_puts ls look place i d _ (w ∷ v ∷ ws) table fits keeps res = absurd keeps

resolved_ranges : (look : List ℕ → Option ℕ) (place : ℕ) (i : Insn) (d : Draft) (o : Operation) → Resolves look place i d o → (i.jt < 2 ^ 8) × (i.jf < 2 ^ 8)
resolved_ranges look place i d Jump res = (omega (arith, res.1), omega (arith, res.2))
resolved_ranges look place i d (Branch test side) res = (res.3, res.4)
resolved_ranges look place i d _ res = (omega (arith, res.1), omega (arith, res.2))

made_insn : (ls : List (List (List ℕ))) (look : List ℕ → Option ℕ) (place : ℕ) (body : List (List ℕ)) (i : Insn) (d : Draft) → IsTable ls (length ls) look → IsDraft body d → IsResolved look place d i → IsInsn ls place body i
made_insn ls look place body i d table is res = record {
  operation = d.operation;
  ws = is.ws;
  written = subst (λ (code : ℕ). IsBody body code d.operation is.ws) (sym res.0) is.written;
  puts = resolved_puts ls look place i d d.operation is.ws table is.written.form is.kept res.1;
  ranges = resolved_ranges look place i d d.operation res.1;
}

-- the instructions of the lines before an index
abbrev pub AreInsns : List (List (List ℕ)) → ℕ → List Insn → Type 0
AreInsns ls place p = (length p ≡ place) × ((q : ℕ) (i : Insn) → slice_get p q ≡ Some i → IsInsnAt ls q i)

pub insn_made : (ls : List (List (List ℕ))) (look : List ℕ → Option ℕ) (n : ℕ) (line : List (List ℕ)) (i : Insn) → IsTable ls (length ls) look → slice_get ls n ≡ Some line → HasInsn look (instruction_index ls n) (body_of line) i → IsInsnAt ls (instruction_index ls n) i
insn_made ls look n line i table here h = record {
  n = n;
  line = line;
  found = here;
  here = refl;
  insn = made_insn ls look (instruction_index ls n) (body_of line) i h.d table h.draft h.resolved;
}

-- one more instruction is kept
pub kept_more : {V : Type 0} (items : V → List Insn) (old new : Option V) (ls : List (List (List ℕ))) (place : ℕ) (i : Insn) → IfSome new (λ v. IsSomeAnd old (λ u. items v ≡ items u ++ i ∷ [])) → IfSome old (λ u. AreInsns ls place (items u)) → IsInsnAt ls place i → IfSome new (λ v. AreInsns ls (place + 1) (items v))
kept_more items old None ls place i pushed before is = tt
kept_more items None (Some v) ls place i pushed before is = absurd pushed
kept_more items (Some u) (Some v) ls place i pushed before is = (
  ap length pushed ∙ length_push (items u) i ∙ ap (λ (n : ℕ). n + 1) before.0,
  rw pushed (each_pushed (IsInsnAt ls) (items u) i before.1 (rw before.0 is)),
)

pub assembled : (ls : List (List (List ℕ))) (look : List ℕ → Option ℕ) (p : List Insn) → IsTable ls (length ls) look → instruction_index ls (length ls) ≤ most_insns → AreInsns ls (instruction_index ls (length ls)) p → Assembles ls p
assembled ls look p table short are = record {
  labels = λ m n label a b. table.unique m n label (label_within ls m label a) (label_within ls n label b) a b;
  each = each;
  count = are.0;
  short = (let e = are.0 in omega arith);
}
  where
    each : (n : ℕ) (line : List (List ℕ)) → slice_get ls n ≡ Some line → has_body line ≡ true → (i : Insn) × (slice_get p (instruction_index ls n) ≡ Some i) × IsInsn ls (instruction_index ls n) (body_of line) i
    each n line here body =
        let within = slice_get_within ls n line here in
        let less = place_less ls n (length ls) line here body within in
        let long = are.0 in
        let i = there_is p (instruction_index ls n) (omega arith) in
        let at = are.1 (instruction_index ls n) i.0 i.1 in
        let one = place_injective ls at.n n at.line line at.found here (body_has at.line i.0.code at.insn.operation at.insn.ws at.insn.written) body at.here in
        (i.0, i.1, moved (λ k l. IsInsn ls (instruction_index ls n) (body_of l) i.0) ls at.n n at.line line one at.found here at.insn)
