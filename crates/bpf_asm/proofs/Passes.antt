-- The first pass, line by line: the labels it collects, and the first fault.
use Rattle.std.proofs.Common.{◌≡◌, ℕ, zero, suc, ◌+◌, ◌*◌, ◌<◌, ◌≤◌, ◌⊎◌, inl, inr, List, [], ◌∷◌, length, Bool, true, false, cond, Option, Some, None, refl, ap, sym, ◌∙◌, subst, arith}
use Rattle.std.specs.Prelude.{slice_get, IfSome, IsSomeAnd, if◌then◌else◌}
use Rattle.std.specs.Str.{bytes_eq}
use Rattle.std.proofs.lemmas.Slice.Eq.{bytes_eq-Decides}
use Rattle.std.proofs.lemmas.Option.{slice_get_within}
use Rattle.bpf_check.specs.declared.operation.Operand.TheVariants.{Constant, Index}
use Rattle.bpf_check.specs.declared.operation.Operation.{Operation}
use Rattle.bpf_check.specs.declared.operation.Operation.TheVariants.{Jump, Branch}
use Rattle.bpf_check.specs.Accepted.{most_insns}
use Rattle.bpf_asm.specs.declared.fault.AsmFault.{AsmFault}
use Rattle.bpf_asm.specs.declared.fault.AsmFault.TheVariants as faults
use Rattle.bpf_asm.specs.Assembly.{label_of, body_of, has_body, instruction_index, LabelAt, IsBody, IsMnemonic, FirstWord, WrongNumber, BodyFault, IsDouble, LineFault, JumpFault, FaultAt, IsFirstFault}
use Rattle.bpf_asm.specs.Labels.{Places, place_in, begins_with, behind, found_from, found_in, named_by, LabelKept}
use Rattle.bpf_asm.specs.Drafts.{Draft, Keeps, IsDraft, LabelRefused, Counted, CountRefused, IsTable, NoneBefore}
use Rattle.bpf_asm.proofs.Bodies.{one_body}
use Rattle.bpf_asm.proofs.Places.{moved, place_start, place_first, place_yes, place_no, body_true, body_false}

-- ---- the time of a fault

raised : (ls : List (List (List ℕ))) (time next : ℕ) → next ≡ time + 1 → NoneBefore ls time → ((other : AsmFault) → FaultAt ls time other → ⊥) → NoneBefore ls next
raised ls time next e none not when other h =
    let low = none when other h in
    let apart : when ≡ time → ⊥ = (λ same. not other (subst (λ (t : ℕ). FaultAt ls t other) same h)) in
    omega arith

double_from : (ls : List (List (List ℕ))) (n m : ℕ) (line there : List (List ℕ)) (other : AsmFault) → slice_get ls n ≡ Some line → slice_get ls m ≡ Some there → LineFault ls (3 * n) m there other → IsDouble ls n line
double_from ls n m line there (faults.DoubleLabel k) here found h = moved (IsDouble ls) ls m n there line (omega (arith, h.1)) found here h.2
double_from ls n m line there (faults.TooLong k) here found h = absurd (omega (arith, h.1))
double_from ls n m line there _ here found h = absurd (omega (arith, h.0))

body_from : (ls : List (List (List ℕ))) (n m : ℕ) (line there : List (List ℕ)) (other : AsmFault) → slice_get ls n ≡ Some line → slice_get ls m ≡ Some there → LineFault ls (3 * n + 1) m there other → BodyFault (body_of line) (n + 1) other
body_from ls n m line there (faults.DoubleLabel k) here found h = absurd (omega (arith, h.1))
body_from ls n m line there (faults.TooLong k) here found h = absurd (omega (arith, h.1))
body_from ls n m line there fault here found h = moved (λ k l. BodyFault (body_of l) (k + 1) fault) ls m n there line (omega (arith, h.0)) found here h.1

limit_from : (ls : List (List (List ℕ))) (n m : ℕ) (line there : List (List ℕ)) (other : AsmFault) → slice_get ls n ≡ Some line → slice_get ls m ≡ Some there → LineFault ls (3 * n + 2) m there other → (has_body line ≡ true) × (most_insns ≤ instruction_index ls n)
limit_from ls n m line there (faults.DoubleLabel k) here found h = absurd (omega (arith, h.1))
limit_from ls n m line there (faults.TooLong k) here found h = moved (λ k l. (has_body l ≡ true) × (most_insns ≤ instruction_index ls k)) ls m n there line (omega (arith, h.1)) found here (h.2, h.3)
limit_from ls n m line there _ here found h = absurd (omega (arith, h.0))

too_late : (ls : List (List (List ℕ))) (n m time : ℕ) (line there : List (List ℕ)) (other : AsmFault) → slice_get ls n ≡ Some line → time < 3 * n + 3 → JumpFault ls time m there other → ⊥
too_late ls n m time line there other here early h = let within = slice_get_within ls n line here in omega (arith, h.after)

double_at : (ls : List (List (List ℕ))) (n : ℕ) (line : List (List ℕ)) (other : AsmFault) → slice_get ls n ≡ Some line → FaultAt ls (3 * n) other → IsDouble ls n line
double_at ls n line other here h = elim h.3 [
  | inl a ↦ double_from ls n h.0 line h.1 other here h.2 a
  | inr b ↦ absurd (too_late ls n h.0 (3 * n) line h.1 other here (omega arith) b)
]

body_at : (ls : List (List (List ℕ))) (n : ℕ) (line : List (List ℕ)) (other : AsmFault) → slice_get ls n ≡ Some line → FaultAt ls (3 * n + 1) other → BodyFault (body_of line) (n + 1) other
body_at ls n line other here h = elim h.3 [
  | inl a ↦ body_from ls n h.0 line h.1 other here h.2 a
  | inr b ↦ absurd (too_late ls n h.0 (3 * n + 1) line h.1 other here (omega arith) b)
]

limit_at : (ls : List (List (List ℕ))) (n : ℕ) (line : List (List ℕ)) (other : AsmFault) → slice_get ls n ≡ Some line → FaultAt ls (3 * n + 2) other → (has_body line ≡ true) × (most_insns ≤ instruction_index ls n)
limit_at ls n line other here h = elim h.3 [
  | inl a ↦ limit_from ls n h.0 line h.1 other here h.2 a
  | inr b ↦ absurd (too_late ls n h.0 (3 * n + 2) line h.1 other here (omega arith) b)
]

-- ---- the label of a line

eq_itself : (w : List ℕ) → bytes_eq w w ≡ true
eq_itself w = (bytes_eq-Decides w w).1 refl

none_not_some : {A : Type 0} (o : Option A) (x : A) → o ≡ None → o ≡ Some x → ⊥
none_not_some o x e f = absurd (cc)

-- the label, if there is one, is not defined yet
abbrev Unnamed : (List ℕ → Option ℕ) → Option (List ℕ) → Type 0
Unnamed look None = Unit {0}
Unnamed look (Some label) = look label ≡ None

unnamed : (look : List ℕ → Option ℕ) (old new : Option Places) (place : ℕ) (o : Option (List ℕ)) → LabelKept look old new place o → Unnamed look o
unnamed look old new place None h = tt
unnamed look old new place (Some label) h = h.0

none_labelled : (ls : List (List (List ℕ))) (n : ℕ) (look : List ℕ → Option ℕ) (line : List (List ℕ)) (o : Option (List ℕ)) → label_of line ≡ o → IsTable ls n look → Unnamed look o → IsDouble ls n line → ⊥
none_labelled ls n look line None e table h d = absurd (let f = d.named in cc)
none_labelled ls n look line (Some label) e table h d =
    let same : label ≡ d.label = (let f = d.named in cc) in
    table.missing d.label (ap look (sym same) ∙ h) d.earlier d.before d.first

pub after_label : (ls : List (List (List ℕ))) (n : ℕ) (look : List ℕ → Option ℕ) (old new : Option Places) (place : ℕ) (line : List (List ℕ)) → slice_get ls n ≡ Some line → IsTable ls n look → LabelKept look old new place (label_of line) → NoneBefore ls (3 * n) → NoneBefore ls (3 * n + 1)
after_label ls n look old new place line here table h none =
    raised ls (3 * n) (3 * n + 1) refl none (λ other f. none_labelled ls n look line (label_of line) refl table (unnamed look old new place (label_of line) h) (double_at ls n line other here f))

pub label_answer : (ls : List (List (List ℕ))) (n : ℕ) (look : List ℕ → Option ℕ) (line : List (List ℕ)) (fault : AsmFault) → slice_get ls n ≡ Some line → IsTable ls n look → NoneBefore ls (3 * n) → LabelRefused look (n + 1) (label_of line) fault → IsFirstFault ls fault
label_answer ls n look line (faults.DoubleLabel k) here table none h = record {
  time = 3 * n;
  has = (let l = h.1.0 in let f = table.found l h.1.2 h.1.3 in
      (n, line, here, inl (h.0, refl, record { label = l; named = h.1.1; earlier = f.0; before = f.1; first = f.2 })));
  first = none;
}
label_answer ls n look line _ here table none h = absurd h

-- the effect of a line's label on the table of labels
abbrev Labelled : (List ℕ → Option ℕ) → (List ℕ → Option ℕ) → ℕ → Option (List ℕ) → Type 0
Labelled old new place None = (other : List ℕ) → new other ≡ old other
Labelled old new place (Some label) = (old label ≡ None) × ((other : List ℕ) → new other ≡ (if bytes_eq label other then Some place else old other))

lt_cases : (a m : ℕ) → a < m + 1 → (a < m) ⊎ (a ≡ m)
lt_cases a m h = grind arith

label_same : (ls : List (List (List ℕ))) (n m : ℕ) (line : List (List ℕ)) (label : List ℕ) → slice_get ls n ≡ Some line → m ≡ n → LabelAt ls m label → label_of line ≡ Some label
label_same ls n m line label here e h = moved (λ k l. label_of l ≡ Some label) ls m n h.0 line e h.1 here h.2

table_with : (ls : List (List (List ℕ))) (n : ℕ) (look new : List ℕ → Option ℕ) (line : List (List ℕ)) (o : Option (List ℕ)) → slice_get ls n ≡ Some line → label_of line ≡ o → IsTable ls n look → Labelled look new (instruction_index ls n) o → IsTable ls (n + 1) new
table_with ls n look new line None here named table h = record { found = found; missing = missing; unique = unique }
  where
    found : (label : List ℕ) (place : ℕ) → new label ≡ Some place → (m : ℕ) × (m < n + 1) × LabelAt ls m label × (instruction_index ls m ≡ place)
    found label place e = let f = table.found label place (sym (h label) ∙ e) in (f.0, omega (arith, f.1), f.2, f.3)

    earlier : (m : ℕ) (label : List ℕ) → m < n + 1 → LabelAt ls m label → m < n
    earlier m label below at = elim (lt_cases m n below) [ inl lt ↦ lt | inr e ↦ absurd (none_not_some (label_of line) label named (label_same ls n m line label here e at)) ]

    missing : (label : List ℕ) → new label ≡ None → (m : ℕ) → m < n + 1 → LabelAt ls m label → ⊥
    missing label e m below at = table.missing label (sym (h label) ∙ e) m (earlier m label below at) at

    unique : (k m : ℕ) (label : List ℕ) → k < n + 1 → m < n + 1 → LabelAt ls k label → LabelAt ls m label → k ≡ m
    unique k m label a b f g = table.unique k m label (earlier k label a f) (earlier m label b g) f g
table_with ls n look new line (Some own) here named table h = record { found = found; missing = missing; unique = unique }
  where
    looked : (b : Bool) (label : List ℕ) (place : ℕ) → bytes_eq own label ≡ b → cond b (Some (instruction_index ls n)) (look label) ≡ Some place → (m : ℕ) × (m < n + 1) × LabelAt ls m label × (instruction_index ls m ≡ place)
    looked true label place is e =
        let same : own ≡ label = (bytes_eq-Decides own label).0 is in
        (n, omega arith, (line, here, named ∙ ap (λ (l : List ℕ). Some l) same), cc)
    looked false label place is e = let f = table.found label place e in (f.0, omega (arith, f.1), f.2, f.3)

    found : (label : List ℕ) (place : ℕ) → new label ≡ Some place → (m : ℕ) × (m < n + 1) × LabelAt ls m label × (instruction_index ls m ≡ place)
    found label place e = looked (bytes_eq own label) label place refl (sym (h.1 label) ∙ e)

    own_at : (m : ℕ) (label : List ℕ) → m ≡ n → LabelAt ls m label → own ≡ label
    own_at m label e at = let f = label_same ls n m line label here e at in cc

    unnamed : (b : Bool) (label : List ℕ) → bytes_eq own label ≡ b → cond b (Some (instruction_index ls n)) (look label) ≡ None → (look label ≡ None) × (own ≡ label → ⊥)
    unnamed true label is e = absurd (cc)
    unnamed false label is e = (e, λ same. (let t : bytes_eq own label ≡ true = (bytes_eq-Decides own label).1 same in absurd (cc)))

    missing : (label : List ℕ) → new label ≡ None → (m : ℕ) → m < n + 1 → LabelAt ls m label → ⊥
    missing label e m below at =
        let u = unnamed (bytes_eq own label) label refl (sym (h.1 label) ∙ e) in
        elim (lt_cases m n below) [ inl lt ↦ table.missing label u.0 m lt at | inr same ↦ u.1 (own_at m label same at) ]

    not_earlier : (m k : ℕ) (label : List ℕ) → m < n → k ≡ n → LabelAt ls m label → LabelAt ls k label → ⊥
    not_earlier m k label lt e f g = table.missing label (ap look (sym (own_at k label e g)) ∙ h.0) m lt f

    unique : (k m : ℕ) (label : List ℕ) → k < n + 1 → m < n + 1 → LabelAt ls k label → LabelAt ls m label → k ≡ m
    unique k m label a b f g = elim (lt_cases k n a) [
      | inl lt ↦ elim (lt_cases m n b) [ inl less ↦ table.unique k m label lt less f g | inr e ↦ absurd (not_earlier k m label lt e f g) ]
      | inr e ↦ elim (lt_cases m n b) [ inl less ↦ absurd (not_earlier m k label less e g f) | inr d ↦ e ∙ sym d ]
    ]

-- ---- labels found by scanning the text

begun_with : (o : Option (List ℕ)) (label : List ℕ) → begins_with o label ≡ true → o ≡ Some label
begun_with None label e = absurd (cc)
begun_with (Some own) label e = ap (λ (l : List ℕ). Some l) ((bytes_eq-Decides own label).0 e)

begins_own : (o : Option (List ℕ)) (label : List ℕ) → o ≡ Some label → begins_with o label ≡ true
begins_own o label e = ap (λ (x : Option (List ℕ)). begins_with x label) e ∙ eq_itself label

-- the index of a line that begins with a label, counted from a first index
pub record IsFound (place : ℕ) (ls : List (List (List ℕ))) (n : ℕ) (label : List ℕ) (found : ℕ) : Type 0 where
  pub m : ℕ
  pub before : m < n
  pub at : LabelAt ls m label
  pub there : place + instruction_index ls m ≡ found

found_later : (place : ℕ) (line : List (List ℕ)) (ls : List (List (List ℕ))) (n : ℕ) (label : List ℕ) (found : ℕ) (b : Bool) → has_body line ≡ b → IsFound (behind place b) ls n label found → IsFound place (line ∷ ls) (suc n) label found
found_later place line ls n label found true e f = record { m = suc f.m; before = omega (arith, f.before); at = f.at; there = (let step = place_first line ls f.m in let t = f.there in let one : cond {A = ℕ} (has_body line) 1 0 ≡ 1 = ap (λ (b : Bool). cond {A = ℕ} b 1 0) e in omega arith) }
found_later place line ls n label found false e f = record { m = suc f.m; before = omega (arith, f.before); at = f.at; there = (let step = place_first line ls f.m in let t = f.there in let one : cond {A = ℕ} (has_body line) 1 0 ≡ 0 = ap (λ (b : Bool). cond {A = ℕ} b 1 0) e in omega arith) }

found_step : (place : ℕ) (line : List (List ℕ)) (ls : List (List (List ℕ))) (n : ℕ) (label : List ℕ) (found : ℕ) (b : Bool) → begins_with (label_of line) label ≡ b → (found_from (behind place (has_body line)) ls n label ≡ Some found → IsFound (behind place (has_body line)) ls n label found)
    → cond b (Some place) (found_from (behind place (has_body line)) ls n label) ≡ Some found → IsFound place (line ∷ ls) (suc n) label found
found_step place line ls n label found true is rest e = record { m = 0; before = omega arith; at = (line, refl, begun_with (label_of line) label is); there = (let same : place ≡ found = cc in let none = place_start (line ∷ ls) in omega arith) }
found_step place line ls n label found false is rest e = found_later place line ls n label found (has_body line) refl (rest e)

found_some : (place : ℕ) (ls : List (List (List ℕ))) (n : ℕ) (label : List ℕ) (found : ℕ) → found_from place ls n label ≡ Some found → IsFound place ls n label found
found_some place [] n label found e = absurd (cc)
found_some place (line ∷ ls) zero label found e = absurd (cc)
found_some place (line ∷ ls) (suc n) label found e = found_step place line ls n label found (begins_with (label_of line) label) refl (found_some (behind place (has_body line)) ls n label found) e

none_past : {A : Type 0} (m : ℕ) (x : A) → slice_get [] m ≡ Some x → ⊥
none_past m x e = absurd (cc)

missing_step : (place : ℕ) (line : List (List ℕ)) (ls : List (List (List ℕ))) (n : ℕ) (label : List ℕ) (b : Bool) → begins_with (label_of line) label ≡ b → cond b (Some place) (found_from (behind place (has_body line)) ls n label) ≡ None
    → (found_from (behind place (has_body line)) ls n label ≡ None → (m : ℕ) → m < n → LabelAt ls m label → ⊥) → (m : ℕ) → m < suc n → LabelAt (line ∷ ls) m label → ⊥
missing_step place line ls n label true is e rest m below at = absurd (cc)
missing_step place line ls n label false is e rest zero below at =
    let same : line ≡ at.0 = (let f = at.1 in cc) in
    let own = begins_own (label_of line) label (ap label_of same ∙ at.2) in
    absurd (cc)
missing_step place line ls n label false is e rest (suc m) below at = rest e m (omega arith) at

found_none : (place : ℕ) (ls : List (List (List ℕ))) (n : ℕ) (label : List ℕ) → found_from place ls n label ≡ None → (m : ℕ) → m < n → LabelAt ls m label → ⊥
found_none place [] n label e m below at = none_past m at.0 at.1
found_none place (line ∷ ls) zero label e m below at = omega arith
found_none place (line ∷ ls) (suc n) label e m below at = missing_step place line ls n label (begins_with (label_of line) label) refl e (found_none (behind place (has_body line)) ls n label) m below at

pub found_none_left : (place : ℕ) (ls : List (List (List ℕ))) (n : ℕ) (label : List ℕ) → n ≡ 0 → found_from place ls n label ≡ None
found_none_left place [] n label e = refl
found_none_left place (line ∷ ls) n label e = ap (λ (k : ℕ). found_from place (line ∷ ls) k label) e

pub found_here : (place : ℕ) (line : List (List ℕ)) (ls : List (List (List ℕ))) (n k : ℕ) (label : List ℕ) → n ≡ k + 1 → begins_with (label_of line) label ≡ true → found_from place (line ∷ ls) n label ≡ Some place
found_here place line ls n k label e is =
    let same : n ≡ suc k = omega arith in
    ap (λ (m : ℕ). found_from place (line ∷ ls) m label) same ∙ ap (λ (b : Bool). cond b (Some place) (found_from (behind place (has_body line)) ls k label)) is

pub found_behind : (place : ℕ) (line : List (List ℕ)) (ls : List (List (List ℕ))) (n k : ℕ) (label : List ℕ) → n ≡ k + 1 → begins_with (label_of line) label ≡ false → found_from place (line ∷ ls) n label ≡ found_from (behind place (has_body line)) ls k label
found_behind place line ls n k label e is =
    let same : n ≡ suc k = omega arith in
    ap (λ (m : ℕ). found_from place (line ∷ ls) m label) same ∙ ap (λ (b : Bool). cond b (Some place) (found_from (behind place (has_body line)) ls k label)) is

-- the indices found by scanning the lines, if no label is defined twice
found_table : (ls : List (List (List ℕ))) (n : ℕ) → ((k m : ℕ) (label : List ℕ) → k < n → m < n → LabelAt ls k label → LabelAt ls m label → k ≡ m) → IsTable ls n (found_in ls n)
found_table ls n unique = record {
  found = λ label place e. (let f = found_some 0 ls n label place e in (f.m, f.before, f.at, (let t = f.there in omega arith)));
  missing = λ label e. found_none 0 ls n label e;
  unique = unique;
}

kept_unnamed : (ls : List (List (List ℕ))) (n : ℕ) (old new : Option Places) (line : List (List ℕ)) → slice_get ls n ≡ Some line → label_of line ≡ None → IsTable ls n (named_by old ls n) → new ≡ old → IsTable ls (n + 1) (named_by new ls (n + 1))
kept_unnamed ls n (Some l) new line here named table e =
    subst (λ (o : Option Places). IsTable ls (n + 1) (named_by o ls (n + 1))) (sym e) (table_with ls n (place_in l) (place_in l) line None here named table (λ other. refl))
kept_unnamed ls n None new line here named table e =
    let look = found_in ls n in
    let all = table_with ls n look look line None here named table (λ other. refl) in
    subst (λ (o : Option Places). IsTable ls (n + 1) (named_by o ls (n + 1))) (sym e) (found_table ls (n + 1) all.unique)

kept_named : (ls : List (List (List ℕ))) (n : ℕ) (old new : Option Places) (line : List (List ℕ)) (label : List ℕ) → slice_get ls n ≡ Some line → label_of line ≡ Some label → IsTable ls n (named_by old ls n) → named_by old ls n label ≡ None
    → IfSome new (λ m. IsSomeAnd old (λ l. (other : List ℕ) → place_in m other ≡ (if bytes_eq label other then Some (instruction_index ls n) else place_in l other))) → IsTable ls (n + 1) (named_by new ls (n + 1))
kept_named ls n old None line label here named table fresh h =
    let look = named_by old ls n in
    let all = table_with ls n look (λ other. if bytes_eq label other then Some (instruction_index ls n) else look other) line (Some label) here named table (fresh, λ other. refl) in
    found_table ls (n + 1) all.unique
kept_named ls n None (Some m) line label here named table fresh h = absurd h
kept_named ls n (Some l) (Some m) line label here named table fresh h = table_with ls n (place_in l) (place_in m) line (Some label) here named table (fresh, h)

table_by : (ls : List (List (List ℕ))) (n : ℕ) (old new : Option Places) (line : List (List ℕ)) (o : Option (List ℕ)) → slice_get ls n ≡ Some line → label_of line ≡ o → IsTable ls n (named_by old ls n) → LabelKept (named_by old ls n) old new (instruction_index ls n) o → IsTable ls (n + 1) (named_by new ls (n + 1))
table_by ls n old new line None here named table h = kept_unnamed ls n old new line here named table h
table_by ls n old new line (Some label) here named table h = kept_named ls n old new line label here named table h.0 h.1

pub table_more : (ls : List (List (List ℕ))) (n : ℕ) (old new : Option Places) (line : List (List ℕ)) → slice_get ls n ≡ Some line → IsTable ls n (named_by old ls n) → LabelKept (named_by old ls n) old new (instruction_index ls n) (label_of line) → IsTable ls (n + 1) (named_by new ls (n + 1))
table_more ls n old new line here table h = table_by ls n old new line (label_of line) here refl table h

pub empty_table : (ls : List (List (List ℕ))) (look : List ℕ → Option ℕ) → ((label : List ℕ) → look label ≡ None) → IsTable ls 0 look
empty_table ls look none = record {
  found = λ label place e. absurd (none_not_some (look label) place (none label) e);
  missing = λ label e m below at. absurd (omega arith);
  unique = λ k m label a b f g. absurd (omega arith);
}

-- ---- the body of a line

pub is_mnemonic_of : (body : List (List ℕ)) (code : ℕ) (operation : Operation) (ws : List (List ℕ)) → IsBody body code operation ws → FirstWord IsMnemonic body
is_mnemonic_of [] code operation ws is = absurd (let e = is.spelled in cc)
is_mnemonic_of (w ∷ ts) code operation ws is = (code, operation, is.row, (let e = is.spelled in cc))

pub first_word : (body : List (List ℕ)) → FirstWord IsMnemonic body → FirstWord (λ word. IsMnemonic word → ⊥) body → ⊥
first_word [] h g = h
first_word (w ∷ ts) h g = g h

number_kept : (d : Draft) (o : Operation) (ws : List (List ℕ)) → Keeps d o ws → WrongNumber ws o → ⊥
number_kept d o [] keeps wrong = wrong
number_kept d Jump (w ∷ ws) keeps wrong = wrong
number_kept d (Branch test Index) (w ∷ ws) keeps wrong = wrong
number_kept d (Branch test Constant) (w ∷ []) keeps wrong = wrong d.k keeps
number_kept d (Branch test Constant) (w ∷ l ∷ []) keeps wrong = keeps
number_kept d (Branch test Constant) (w ∷ l ∷ m ∷ []) keeps wrong = wrong d.k keeps.0
number_kept d (Branch test Constant) (w ∷ l ∷ m ∷ v ∷ ws) keeps wrong = keeps
number_kept d _ (w ∷ []) keeps wrong = wrong d.k keeps
number_kept d _ (w ∷ v ∷ ws) keeps wrong = keeps

pub no_body_fault : (body : List (List ℕ)) (d : Draft) (line : ℕ) (fault : AsmFault) → IsDraft body d → BodyFault body line fault → ⊥
no_body_fault body d line (faults.Mnemonic k) is h = first_word body (is_mnemonic_of body d.code d.operation is.ws is.written) h.1
no_body_fault body d line (faults.Operand k) is h = h.2 (d.code, d.operation, is.ws, is.written)
no_body_fault body d line (faults.Number k) is h =
    let p = h.1 in
    let e = one_body body p.0 d.code p.1 d.operation p.2 is.ws p.3 is.written in
    number_kept d d.operation is.ws is.kept (subst (λ (ws : List (List ℕ)). WrongNumber ws d.operation) e.words (subst (WrongNumber p.2) e.operation p.4))
no_body_fault body d line _ is h = h

pub no_empty_fault : (line : ℕ) (fault : AsmFault) → BodyFault [] line fault → ⊥
no_empty_fault line (faults.Mnemonic k) h = h.1
no_empty_fault line (faults.Operand k) h = h.1
no_empty_fault line (faults.Number k) h = absurd (let e = h.1.3.spelled in cc)
no_empty_fault line _ h = h

counted_fine : (place next line : ℕ) (body : List (List ℕ)) (fault : AsmFault) → Counted place next body → BodyFault body line fault → ⊥
counted_fine place next line [] fault h f = no_empty_fault line fault f
counted_fine place next line (t ∷ ts) fault h f = no_body_fault (t ∷ ts) h.2.0 line fault h.2.1 f

pub after_body : (ls : List (List (List ℕ))) (n place next : ℕ) (line : List (List ℕ)) → slice_get ls n ≡ Some line → Counted place next (body_of line) → NoneBefore ls (3 * n + 1) → NoneBefore ls (3 * n + 2)
after_body ls n place next line here h none =
    raised ls (3 * n + 1) (3 * n + 2) (omega arith) none (λ other f. counted_fine place next (n + 1) (body_of line) other h (body_at ls n line other here f))

limit_kept : (ls : List (List (List ℕ))) (n next : ℕ) (line body : List (List ℕ)) → body_of line ≡ body → Counted (instruction_index ls n) next body → (has_body line ≡ true) × (most_insns ≤ instruction_index ls n) → ⊥
limit_kept ls n next line [] e h f = absurd (let g = body_false line e in let k = f.0 in cc)
limit_kept ls n next line (t ∷ ts) e h f = omega (arith, h.1, f.1)

pub after_limit : (ls : List (List (List ℕ))) (n next : ℕ) (line : List (List ℕ)) → slice_get ls n ≡ Some line → Counted (instruction_index ls n) next (body_of line) → NoneBefore ls (3 * n + 2) → NoneBefore ls (3 * (n + 1))
after_limit ls n next line here h none =
    raised ls (3 * n + 2) (3 * (n + 1)) (omega arith) none (λ other f. limit_kept ls n next line (body_of line) refl h (limit_at ls n line other here f))

-- the index after a line
pub record IsBehind (ls : List (List (List ℕ))) (n next : ℕ) : Type 0 where
  pub here : next ≡ instruction_index ls (n + 1)
  pub short : next ≤ most_insns

behind_by : (ls : List (List (List ℕ))) (n next : ℕ) (line body : List (List ℕ)) → slice_get ls n ≡ Some line → body_of line ≡ body → instruction_index ls n ≤ most_insns → Counted (instruction_index ls n) next body → IsBehind ls n next
behind_by ls n next line [] here e short h = let step = place_no ls n line here (body_false line e) in record { here = h ∙ sym step; short = omega arith }
behind_by ls n next line (t ∷ ts) here e short h = let step = place_yes ls n line here (body_true line t ts e) in record { here = h.0 ∙ sym step; short = omega (arith, h.0, h.1) }

pub place_behind : (ls : List (List (List ℕ))) (n next : ℕ) (line : List (List ℕ)) → slice_get ls n ≡ Some line → instruction_index ls n ≤ most_insns → Counted (instruction_index ls n) next (body_of line) → IsBehind ls n next
place_behind ls n next line here short h = behind_by ls n next line (body_of line) here refl short h

body_first : (ls : List (List (List ℕ))) (n : ℕ) (line : List (List ℕ)) (fault : AsmFault) → NoneBefore ls (3 * n + 1) → FaultAt ls (3 * n + 1) fault → IsFirstFault ls fault
body_first ls n line fault none has = record { time = 3 * n + 1; has = has; first = none }

some_body : (line body : List (List ℕ)) → body_of line ≡ body → 0 < length body → has_body line ≡ true
some_body line [] e h = absurd (omega arith)
some_body line (t ∷ ts) e h = body_true line t ts e

pub body_answer : (ls : List (List (List ℕ))) (n : ℕ) (line : List (List ℕ)) (fault : AsmFault) → slice_get ls n ≡ Some line → NoneBefore ls (3 * n + 1) → CountRefused (instruction_index ls n) (n + 1) (body_of line) fault → IsFirstFault ls fault
body_answer ls n line (faults.TooLong k) here none h = record {
  time = 3 * n + 2;
  has = (n, line, here, inl (h.0, refl, some_body line (body_of line) refl h.2, h.1));
  first = raised ls (3 * n + 1) (3 * n + 2) (omega arith) none (λ other f. no_body_fault (body_of line) h.3.0 (n + 1) other h.3.1 (body_at ls n line other here f));
}
body_answer ls n line (faults.Mnemonic k) here none h = body_first ls n line (faults.Mnemonic k) none (n, line, here, inl (refl, h))
body_answer ls n line (faults.Operand k) here none h = body_first ls n line (faults.Operand k) none (n, line, here, inl (refl, h))
body_answer ls n line (faults.Number k) here none h = body_first ls n line (faults.Number k) none (n, line, here, inl (refl, h))
body_answer ls n line _ here none h = absurd h

pub none_at_start : (ls : List (List (List ℕ))) → NoneBefore ls 0
none_at_start ls when other h = omega arith
