-- Lists of distinct numbers, and of non-descending ones.
use Rattle.std.proofs.Common.{◌≡◌, ℕ, ◌≤◌, Bool, true, false, List, [], ◌∷◌, ◌++◌, length, refl, arith, nat_eq, nat_le, ◌==◌, if◌then◌else◌}
use Rattle.std.proofs.lemmas.Bool.Decides.{nat_tests}
use Rattle.std.specs.List.{list_any, list_all, IsDistinct, AllByRecursion, filter}
use Rattle.pending_fetch.specs.Legal.{is_rising}

All-cut : (P : ℕ → Type 0) (a w b : List ℕ) → AllByRecursion P (a ++ (w ++ b)) → AllByRecursion P (a ++ b)
All-cut P [] [] b h = h
All-cut P [] (x ∷ w) b h = All-cut P [] w b h.1
All-cut P (x ∷ a) w b h = (h.0, All-cut P a w b h.1)

-- a part in the middle left out
pub IsDistinct-cut : (a w b : List ℕ) → IsDistinct nat_eq (a ++ (w ++ b)) → IsDistinct nat_eq (a ++ b)
unfolding IsDistinct
IsDistinct-cut [] [] b h = h
IsDistinct-cut [] (x ∷ w) b h = IsDistinct-cut [] w b h.1
IsDistinct-cut (x ∷ a) w b h = (All-cut (λ y. nat_eq x y ≡ false) a w b h.0, IsDistinct-cut a w b h.1)

All-insert : (P : ℕ → Type 0) (a b : List ℕ) (c : ℕ) → P c → AllByRecursion P (a ++ b) → AllByRecursion P (a ++ c ∷ b)
All-insert P [] b c p h = (p, h)
All-insert P (x ∷ a) b c p h = (h.0, All-insert P a b c p h.1)

none_of : (c : ℕ) (xs : List ℕ) → list_any (λ w. w == c) xs ≡ false → AllByRecursion (λ y. nat_eq c y ≡ false) xs
none_of c [] h = tt
none_of c (x ∷ xs) h =
    let here : nat_eq c x ≡ false = grind (arith, nat_tests) in
    let there : list_any (λ w. w == c) xs ≡ false = grind arith in
    (here, none_of c xs there)

-- a new number inserted anywhere
pub IsDistinct-insert : (a b : List ℕ) (c : ℕ) → IsDistinct nat_eq (a ++ b) → list_any (λ w. w == c) (a ++ b) ≡ false → IsDistinct nat_eq (a ++ c ∷ b)
unfolding IsDistinct
IsDistinct-insert [] b c h k = (none_of c b k, h)
IsDistinct-insert (x ∷ a) b c h k =
    let here : nat_eq x c ≡ false = grind (arith, nat_tests) in
    let there : list_any (λ w. w == c) (a ++ b) ≡ false = grind arith in
    (All-insert (λ y. nat_eq x y ≡ false) a b c here h.0, IsDistinct-insert a b c h.1 there)

All-filter : (P : ℕ → Type 0) (p : ℕ → Bool) (xs : List ℕ) → AllByRecursion P xs → AllByRecursion P (filter p xs)
All-filter P p [] h = h
All-filter P p (x ∷ xs) h =
    elim (p x) as (λ v. AllByRecursion P (if v then x ∷ filter p xs else filter p xs)) [
      | true ↦ (h.0, All-filter P p xs h.1)
      | false ↦ All-filter P p xs h.1
    ]

-- only some of them
pub IsDistinct-filter : (p : ℕ → Bool) (xs : List ℕ) → IsDistinct nat_eq xs → IsDistinct nat_eq (filter p xs)
unfolding IsDistinct
IsDistinct-filter p [] h = h
IsDistinct-filter p (x ∷ xs) h =
    elim (p x) as (λ v. IsDistinct nat_eq (if v then x ∷ filter p xs else filter p xs)) [
      | true ↦ (All-filter (λ y. nat_eq x y ≡ false) p xs h.0, IsDistinct-filter p xs h.1)
      | false ↦ IsDistinct-filter p xs h.1
    ]

pub length-filter : (p : ℕ → Bool) (xs : List ℕ) → length (filter p xs) ≤ length xs
length-filter p [] = omega arith
length-filter p (x ∷ xs) =
    elim (p x) as (λ v. length (if v then x ∷ filter p xs else filter p xs) ≤ length (x ∷ xs)) [
      | true ↦ omega (arith, length-filter p xs)
      | false ↦ omega (arith, length-filter p xs)
    ]

list_all-cut : (p : ℕ → Bool) (a w b : List ℕ) → list_all p (a ++ (w ++ b)) ≡ true → list_all p (a ++ b) ≡ true
list_all-cut p [] [] b h = h
list_all-cut p [] (x ∷ w) b h = let rest : list_all p (w ++ b) ≡ true = grind arith in list_all-cut p [] w b rest
list_all-cut p (x ∷ a) w b h =
    let here : p x ≡ true = grind arith in
    let rest : list_all p (a ++ (w ++ b)) ≡ true = grind arith in
    rw (here, list_all-cut p a w b rest) refl

pub is_rising-cut : (a w b : List ℕ) → is_rising (a ++ (w ++ b)) ≡ true → is_rising (a ++ b) ≡ true
is_rising-cut [] [] b h = h
is_rising-cut [] (x ∷ w) b h = let rest : is_rising (w ++ b) ≡ true = grind arith in is_rising-cut [] w b rest
is_rising-cut (x ∷ a) w b h =
    let here : list_all (λ other. nat_le x other) (a ++ (w ++ b)) ≡ true = grind arith in
    let rest : is_rising (a ++ (w ++ b)) ≡ true = grind arith in
    rw (list_all-cut (λ other. nat_le x other) a w b here, is_rising-cut a w b rest) refl

list_all-last : (p : ℕ → Bool) (xs : List ℕ) (x : ℕ) → list_all p xs ≡ true → p x ≡ true → list_all p (xs ++ x ∷ []) ≡ true
list_all-last p [] x h k = rw k refl
list_all-last p (y ∷ xs) x h k =
    let here : p y ≡ true = grind arith in
    let rest : list_all p xs ≡ true = grind arith in
    rw (here, list_all-last p xs x rest k) refl

-- one more at the end, no less than the others
pub is_rising-push : (xs : List ℕ) (x : ℕ) → is_rising xs ≡ true → list_all (λ other. nat_le other x) xs ≡ true → is_rising (xs ++ x ∷ []) ≡ true
is_rising-push [] x h k = refl
is_rising-push (y ∷ xs) x h k =
    let here : list_all (λ other. nat_le y other) xs ≡ true = grind arith in
    let rest : is_rising xs ≡ true = grind arith in
    let last : nat_le y x ≡ true = grind arith in
    let others : list_all (λ other. nat_le other x) xs ≡ true = grind arith in
    rw (list_all-last (λ other. nat_le y other) xs x here last, is_rising-push xs x rest others) refl
