-- The words read from the tokens spell the tokens, and are numerals and labels.
use Rattle.bpf_check.specs.declared.operation.Operand.TheVariants.{Constant, Index}
use Rattle.bpf_check.specs.declared.operation.Operation.{Operation}
use Rattle.bpf_check.specs.declared.operation.Operation.TheVariants.{Compute, Branch}
use Rattle.std.proofs.Common.{◌≡◌, ◌≤◌, ◌+◌, ℕ, arith, length, map, List, [], ◌∷◌, ◌++◌, Bool, true, false, cond, ◌⊎◌, inl, inr, Option, Some, None, option_and_then, refl, ap, sym, ◌∙◌, subst}
use Rattle.std.specs.Option.{option_map}
use Rattle.std.specs.Str.{bytes_eq}
use Rattle.std.proofs.lemmas.Slice.Eq.{bytes_eq-Decides}
use Rattle.bpf_asm.specs.declared.form.Piece.{Piece}
use Rattle.bpf_asm.specs.declared.form.Piece.TheVariants.{Number, Label}
use Rattle.bpf_asm.specs.Token.{ended, starts_word, is_label}
use Rattle.bpf_asm.specs.Number.{IsNumeral}
use Rattle.bpf_asm.specs.Spelling.{Kind, a_number, a_label, exactly, kind, kinds, spelled_with, AreOpen}
use Rattle.bpf_asm.specs.Reading.{Front, is_numeral, number_front, label_front, left_of, fill, open_places}
use Rattle.bpf_asm.proofs.Addresses.{test_numeral}

and_then : {A B : Type 0} (o : Option A) (g : A → Option B) (y : B) → option_and_then g o ≡ Some y → (x : A) × (o ≡ Some x) × (g x ≡ Some y)
and_then None g y e = absurd (cc)
and_then (Some x) g y e = (x, refl, e)

mapped : {A B : Type 0} (o : Option A) (g : A → B) (y : B) → option_map g o ≡ Some y → (x : A) × (o ≡ Some x) × (g x ≡ y)
mapped None g y e = absurd (cc)
mapped (Some x) g y e = (x, refl, cc)

chosen : {A : Type 0} (b : Bool) (x y : Option A) (z : A) → cond b x y ≡ Some z → ((b ≡ true) × (x ≡ Some z)) ⊎ ((b ≡ false) × (y ≡ Some z))
chosen true x y z e = inl (refl, e)
chosen false x y z e = inr (refl, e)

front_same : (w : List ℕ) (ts : List (List ℕ)) (x : Front) → (let a : Option Front = Some (record { word = w; left = ts }) in a ≡ Some x) → (w ≡ x.word) × (ts ≡ x.left)
front_same w ts x e = (cc, cc)

number_took : (ts : List (List ℕ)) (x : Front) → number_front ts ≡ Some x → ts ≡ ended x.word ++ x.left
number_took [] x e = let p = front_same [] [] x e in rw (← p.0, ← p.1) refl
number_took ([] ∷ ts) x e = absurd (cc)
number_took ((c ∷ cs) ∷ ts) x e =
    elim (chosen (is_numeral (c ∷ cs)) _ _ x e) [
      | inl h ↦ (let p = front_same (c ∷ cs) ts x h.1 in rw (← p.0, ← p.1) refl)
      | inr h ↦ elim (chosen (starts_word (c ∷ cs)) None _ x h.1) [
        | inl g ↦ absurd (let k = g.1 in cc)
        | inr g ↦ (let p = front_same [] ((c ∷ cs) ∷ ts) x g.1 in rw (← p.0, ← p.1) refl)
      ]
    ]

label_took : (ts : List (List ℕ)) (x : Front) → label_front ts ≡ Some x → ts ≡ x.word ∷ x.left
label_took [] x e = absurd (cc)
label_took (t ∷ ts) x e =
    elim (chosen (is_label t) _ None x e) [
      | inl h ↦ (let p = front_same t ts x h.1 in rw (← p.0, ← p.1) refl)
      | inr h ↦ absurd (let k = h.1 in cc)
    ]

exact_took : (token : List ℕ) (ts left : List (List ℕ)) → left_of token ts ≡ Some left → ts ≡ token ∷ left
exact_took token [] left e = absurd (cc)
exact_took token (t ∷ ts) left e =
    elim (chosen (bytes_eq t token) (Some ts) None left e) [
      | inl h ↦ (let a = (bytes_eq-Decides t token).0 h.0 in let b : ts ≡ left = (let k = h.1 in cc) in λ i. a i ∷ b i)
      | inr h ↦ absurd (let k = h.1 in cc)
    ]

pub read_spelled : (ks : List Kind) (ts ws : List (List ℕ)) → fill ks ts ≡ Some ws → ts ≡ spelled_with ks ws
read_spelled [] [] ws e = refl
read_spelled [] (t ∷ ts) ws e = absurd (cc)
read_spelled (a_number ∷ ks) ts ws e =
    let p = and_then (number_front ts) (λ x. option_map (λ (us : List (List ℕ)). x.word ∷ us) (fill ks x.left)) ws e in
    let q = mapped (fill ks p.0.left) (λ us. p.0.word ∷ us) ws p.2 in
    number_took ts p.0 p.1 ∙ ap (λ (us : List (List ℕ)). ended p.0.word ++ us) (read_spelled ks p.0.left q.0 q.1) ∙ ap (spelled_with (a_number ∷ ks)) q.2
read_spelled (a_label ∷ ks) ts ws e =
    let p = and_then (label_front ts) (λ x. option_map (λ (us : List (List ℕ)). x.word ∷ us) (fill ks x.left)) ws e in
    let q = mapped (fill ks p.0.left) (λ us. p.0.word ∷ us) ws p.2 in
    label_took ts p.0 p.1 ∙ ap (λ (us : List (List ℕ)). p.0.word ∷ us) (read_spelled ks p.0.left q.0 q.1) ∙ ap (spelled_with (a_label ∷ ks)) q.2
read_spelled (exactly token ∷ ks) ts ws e =
    let p = and_then (left_of token ts) (λ left. fill ks left) ws e in
    exact_took token ts p.0 p.1 ∙ ap (λ (us : List (List ℕ)). token ∷ us) (read_spelled ks p.0 ws p.2)

empty_numeral : IsNumeral []
unfolding IsNumeral
empty_numeral = refl

number_is : (ts : List (List ℕ)) (x : Front) → number_front ts ≡ Some x → IsNumeral x.word
number_is [] x e = let p = front_same [] [] x e in rw (← p.0) empty_numeral
number_is ([] ∷ ts) x e = absurd (cc)
number_is ((c ∷ cs) ∷ ts) x e =
    elim (chosen (is_numeral (c ∷ cs)) _ _ x e) [
      | inl h ↦ (let p = front_same (c ∷ cs) ts x h.1 in rw (← p.0) (test_numeral _ h.0))
      | inr h ↦ elim (chosen (starts_word (c ∷ cs)) None _ x h.1) [
        | inl g ↦ absurd (let k = g.1 in cc)
        | inr g ↦ (let p = front_same [] ((c ∷ cs) ∷ ts) x g.1 in rw (← p.0) empty_numeral)
      ]
    ]

label_is : (ts : List (List ℕ)) (x : Front) → label_front ts ≡ Some x → is_label x.word ≡ true
label_is [] x e = absurd (cc)
label_is (t ∷ ts) x e =
    elim (chosen (is_label t) _ None x e) [
      | inl h ↦ (let p = front_same t ts x h.1 in ap is_label (sym p.0) ∙ h.0)
      | inr h ↦ absurd (let k = h.1 in cc)
    ]

pub read_open : (ks : List Kind) (ts ws : List (List ℕ)) → fill ks ts ≡ Some ws → AreOpen ks ws
read_open [] [] ws e = let n : [] ≡ ws = cc in subst (AreOpen []) n tt
read_open [] (t ∷ ts) ws e = absurd (cc)
read_open (a_number ∷ ks) ts ws e =
    let p = and_then (number_front ts) (λ x. option_map (λ (us : List (List ℕ)). x.word ∷ us) (fill ks x.left)) ws e in
    let q = mapped (fill ks p.0.left) (λ us. p.0.word ∷ us) ws p.2 in
    subst (AreOpen (a_number ∷ ks)) q.2 (number_is ts p.0 p.1, read_open ks p.0.left q.0 q.1)
read_open (a_label ∷ ks) ts ws e =
    let p = and_then (label_front ts) (λ x. option_map (λ (us : List (List ℕ)). x.word ∷ us) (fill ks x.left)) ws e in
    let q = mapped (fill ks p.0.left) (λ us. p.0.word ∷ us) ws p.2 in
    subst (AreOpen (a_label ∷ ks)) q.2 (label_is ts p.0 p.1, read_open ks p.0.left q.0 q.1)
read_open (exactly token ∷ ks) ts ws e =
    let p = and_then (left_of token ts) (λ left. fill ks left) ws e in
    read_open ks p.0 ws p.2

-- there is a word for each placeholder
pub fill_opens : (ks : List Kind) (ts ws : List (List ℕ)) → fill ks ts ≡ Some ws → length ws ≡ open_places ks
fill_opens [] [] ws e = let n : [] ≡ ws = cc in ap length (sym n)
fill_opens [] (t ∷ ts) ws e = absurd (cc)
fill_opens (a_number ∷ ks) ts ws e =
    let p = and_then (number_front ts) (λ x. option_map (λ (us : List (List ℕ)). x.word ∷ us) (fill ks x.left)) ws e in
    let q = mapped (fill ks p.0.left) (λ us. p.0.word ∷ us) ws p.2 in
    let long = fill_opens ks p.0.left q.0 q.1 in
    let same = ap length q.2 in
    omega arith
fill_opens (a_label ∷ ks) ts ws e =
    let p = and_then (label_front ts) (λ x. option_map (λ (us : List (List ℕ)). x.word ∷ us) (fill ks x.left)) ws e in
    let q = mapped (fill ks p.0.left) (λ us. p.0.word ∷ us) ws p.2 in
    let long = fill_opens ks p.0.left q.0 q.1 in
    let same = ap length q.2 in
    omega arith
fill_opens (exactly token ∷ ks) ts ws e =
    let p = and_then (left_of token ts) (λ left. fill ks left) ws e in
    fill_opens ks p.0 ws p.2

-- no operation has more than three
pub few_open : (o : Operation) → open_places (kinds o) ≤ 3
few_open (Compute arithmetic Constant) = omega arith
few_open (Compute arithmetic Index) = omega arith
few_open (Branch comparison Constant) = omega arith
few_open (Branch comparison Index) = omega arith
few_open _ = omega arith

pub number_opens : (ps rest : List Piece) (p : Piece) → ps ≡ p ∷ rest → p ≡ Number → open_places (map kind ps) ≡ 1 + open_places (map kind rest)
number_opens ps rest p e f = ap (λ (x : List Piece). open_places (map kind x)) e ∙ ap (λ (q : Piece). open_places (kind q ∷ map kind rest)) f

pub label_opens : (ps rest : List Piece) (p : Piece) → ps ≡ p ∷ rest → p ≡ Label → open_places (map kind ps) ≡ 1 + open_places (map kind rest)
label_opens ps rest p e f = ap (λ (x : List Piece). open_places (map kind x)) e ∙ ap (λ (q : Piece). open_places (kind q ∷ map kind rest)) f
