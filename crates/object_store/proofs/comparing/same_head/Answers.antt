-- Heads held in vectors are compared field by field.
use Rattle.std.proofs.Common.{◌≡◌, ℕ, Bool, true, false, ◌&&◌, List, [], ◌∷◌, Vec, nat_eq, refl, sym, ap, ◌∙◌}
use Rattle.std.specs.declared.alloc.Global.{Global}
use Rattle.std.specs.Cmp.Lexicographic.{pointwise, bytes_decides}
use Rattle.object_store.specs.Object.{head_of}
use Rattle.object_store.proofs.comparing.same_head.Goals as goal

-- whether two fields have the same name and the same value
abbrev same_field : Vec ℕ Global × Vec ℕ Global → Vec ℕ Global × Vec ℕ Global → Bool
same_field x y = pointwise nat_eq x.0.items y.0.items && pointwise nat_eq x.1.items y.1.items

first_so : (s t : Bool) → (s && t) ≡ true → s ≡ true
first_so true t h = refl
first_so false t h = h

second_so : (s t : Bool) → (s && t) ≡ true → t ≡ true
second_so true t h = h
second_so false t h = absurd (cc)

-- the first element of a list, or a default if it is empty, and the others
abbrev first_or : List ℕ × List ℕ → List (List ℕ × List ℕ) → List ℕ × List ℕ
first_or d [] = d
first_or d (x ∷ xs) = x

abbrev others : List (List ℕ × List ℕ) → List (List ℕ × List ℕ)
others [] = []
others (x ∷ xs) = xs

equal_from_same : (xs ys : List (Vec ℕ Global × Vec ℕ Global)) → pointwise same_field xs ys ≡ true → head_of xs ≡ head_of ys
equal_from_same [] [] h = refl
equal_from_same [] (y ∷ ys) h = absurd (cc)
equal_from_same (x ∷ xs) [] h = absurd (cc)
equal_from_same (x ∷ xs) (y ∷ ys) h =
    let here : same_field x y ≡ true = first_so (same_field x y) (pointwise same_field xs ys) h in
    let names : x.0.items ≡ y.0.items = (bytes_decides x.0.items y.0.items).0 (first_so _ (pointwise nat_eq x.1.items y.1.items) here) in
    let values : x.1.items ≡ y.1.items = (bytes_decides x.1.items y.1.items).0 (second_so (pointwise nat_eq x.0.items y.0.items) _ here) in
    let rest : head_of xs ≡ head_of ys = equal_from_same xs ys (second_so (same_field x y) (pointwise same_field xs ys) h) in
    λ i. (names i, values i) ∷ rest i

same_from_equal : (xs ys : List (Vec ℕ Global × Vec ℕ Global)) → head_of xs ≡ head_of ys → pointwise same_field xs ys ≡ true
same_from_equal [] [] e = refl
same_from_equal [] (y ∷ ys) e = absurd (cc)
same_from_equal (x ∷ xs) [] e = absurd (cc)
same_from_equal (x ∷ xs) (y ∷ ys) e =
    let d : List ℕ × List ℕ = ([], []) in
    let names : x.0.items ≡ y.0.items = ap (λ head. (first_or d head).0) e in
    let values : x.1.items ≡ y.1.items = ap (λ head. (first_or d head).1) e in
    let names-same : pointwise nat_eq x.0.items y.0.items ≡ true = (bytes_decides x.0.items y.0.items).1 names in
    let values-same : pointwise nat_eq x.1.items y.1.items ≡ true = (bytes_decides x.1.items y.1.items).1 values in
    let rest : pointwise same_field xs ys ≡ true = same_from_equal xs ys (ap others e) in
    λ i. (names-same i && values-same i) && rest i

pub returns : goal.returns
returns c =
    let is = c.eq.ensures in
    (λ t. equal_from_same c.args.a.now c.args.b.now (sym is ∙ t), λ e. is ∙ same_from_equal c.args.a.now c.args.b.now e)
