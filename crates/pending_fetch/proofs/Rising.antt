-- Ascending numbers: insertion, removal, and the index that a binary search finds.
use Rattle.std.proofs.Common.{nat_cmp, ◌≡◌, ℕ, suc, zero, ◌+◌, ◌<◌, ◌≤◌, Bool, true, false, not, cond, eqb, nat_lt, nat_le, ◌&&◌, List, [], ◌∷◌, ◌++◌, length, take, drop, get_or, refl, ap, sym, ◌∙◌, arith, ◌==◌, ◌||◌, nat_eq, Some, None}
use Rattle.std.specs.Prelude.{Option, Result, Ok, Err, is_some}
use Rattle.std.specs.List.{list_all, list_any, position, position_or_len}
use Rattle.std.specs.Result.{result_ok, MatchResult}
use Rattle.std.specs.List.Sorted.{IsBinarySearchResult}
use Rattle.std.proofs.lemmas.Bool.Decides.{nat_tests}
use Rattle.std.proofs.lemmas.List.{take_more}
use Rattle.std.proofs.lemmas.List.Sorted.{searched}
use Rattle.pending_fetch.specs.Numbers.{is_climbing, rises_to, is_taken}

-- what holds of all holds at an index
all_at : (p : ℕ → Bool) (xs : List ℕ) (i : ℕ) → list_all p xs ≡ true → i < length xs → p (get_or xs i 0) ≡ true
all_at p [] i h l = absurd (omega arith)
all_at p (x ∷ xs) zero h l = let here : p x ≡ true = grind arith in here
all_at p (x ∷ xs) (suc i) h l = let there : list_all p xs ≡ true = grind arith in all_at p xs i there (omega arith)

-- a strictly ascending list has a number at one index only
at_first : (xs : List ℕ) (x i : ℕ) → is_climbing xs ≡ true → i < length xs → get_or xs i 0 ≡ x → position_or_len (λ n. n == x) xs ≡ i
at_first [] x i h l e = absurd (omega arith)
at_first (y ∷ ys) x zero h l e = let same : eqb y x ≡ true = grind (arith, nat_tests) in rw same refl
at_first (y ∷ ys) x (suc i) h l e =
    let above : list_all (λ other. nat_lt y other) ys ≡ true = grind arith in
    let climbs : is_climbing ys ≡ true = grind arith in
    let under : nat_lt y (get_or ys i 0) ≡ true = all_at (λ other. nat_lt y other) ys i above (omega arith) in
    let other : eqb y x ≡ false = grind (arith, nat_tests) in
    let rest : position_or_len (λ n. n == x) ys ≡ i = at_first ys x i climbs (omega arith) e in
    rw other (omega (arith, rest))

rises : (xs : List ℕ) (i j : ℕ) → is_climbing xs ≡ true → i ≤ j → j < length xs → get_or xs i 0 ≤ get_or xs j 0
rises [] i j h le l = absurd (omega arith)
rises (x ∷ xs) zero zero h le l = omega arith
rises (x ∷ xs) zero (suc j) h le l =
    let above : list_all (λ other. nat_lt x other) xs ≡ true = grind arith in
    let under : nat_lt x (get_or xs j 0) ≡ true = all_at (λ other. nat_lt x other) xs j above (omega arith) in
    grind (arith, nat_tests)
rises (x ∷ xs) (suc i) zero h le l = absurd (omega arith)
rises (x ∷ xs) (suc i) (suc j) h le l = let climbs : is_climbing xs ≡ true = grind arith in rises xs i j climbs (omega arith) (omega arith)

nowhere : (xs : List ℕ) (x : ℕ) → ((k : ℕ) → k < length xs → eqb (get_or xs k 0) x ≡ false) → position_or_len (λ n. n == x) xs ≡ length xs
nowhere [] x h = refl
nowhere (y ∷ ys) x h =
    let here : eqb y x ≡ false = h 0 (omega arith) in
    let rest : position_or_len (λ n. n == x) ys ≡ length ys = nowhere ys x (λ k l. h (suc k) (omega arith)) in
    rw here (omega (arith, rest))

at_place : (xs : List ℕ) (x i : ℕ) → position_or_len (λ n. n == x) xs ≡ i → i < length xs → position (λ n. n == x) xs ≡ Some i
at_place xs x i e l =
    let inside : nat_lt (position_or_len (λ n. n == x) xs) (length xs) ≡ true = grind arith in
    ap (λ v. cond v (Some (position_or_len (λ n. n == x) xs)) None) inside ∙ ap (λ n. Some n) e

-- the index of a number that stands at it
pub placed_at : (xs : List ℕ) (x i : ℕ) → is_climbing xs ≡ true → i < length xs → get_or xs i 0 ≡ x → Some i ≡ position (λ n. n == x) xs
placed_at xs x i climbs l e = sym (at_place xs x i (at_first xs x i climbs l e) l)

past_all : (xs : List ℕ) (x : ℕ) → position_or_len (λ n. n == x) xs ≡ length xs → position (λ n. n == x) xs ≡ None
past_all xs x e =
    let outside : nat_lt (position_or_len (λ n. n == x) xs) (length xs) ≡ false = grind arith in
    ap (λ v. cond v (Some (position_or_len (λ n. n == x) xs)) None) outside

-- a binary search finds the index
pub found_by_halves : (xs : List ℕ) (x : ℕ) (r : Result ℕ ℕ) → IsBinarySearchResult (λ y. nat_cmp y x) xs r → is_climbing xs ≡ true → result_ok r ≡ position (λ n. n == x) xs
found_by_halves xs x (Ok i) h climbs =
    let at = searched xs x (Ok i) h (λ i j le l. rises xs i j climbs le l) in
    sym (at_place xs x i (at_first xs x i climbs at.0 at.1) at.0)
found_by_halves xs x (Err i) h climbs =
    let at = searched xs x (Err i) h (λ i j le l. rises xs i j climbs le l) in
    sym (past_all xs x (nowhere xs x (λ k l. differs at k l)))
  where
    differs : ((i ≤ length xs) × ((k : ℕ) → k < i → get_or xs k 0 < x) × ((k : ℕ) → i ≤ k → k < length xs → x < get_or xs k 0)) → (k : ℕ) → k < length xs → eqb (get_or xs k 0) x ≡ false
    differs at k l =
        elim (nat_lt k i) as (λ v. nat_lt k i ≡ v → eqb (get_or xs k 0) x ≡ false) [
          | true ↦ λ e. let under : k < i = grind arith in let less : get_or xs k 0 < x = at.1 k under in grind (arith, nat_tests)
          | false ↦ λ e. let over : i ≤ k = grind arith in let more : x < get_or xs k 0 = at.2 k over l in grind (arith, nat_tests)
        ] refl

-- one more, above all others
all_under : (x : ℕ) (xs : List ℕ) (top number : ℕ) → list_all (λ n. nat_le n top) xs ≡ true → nat_lt top number ≡ true → list_all (λ n. nat_lt x n) xs ≡ true → nat_lt x number ≡ true → list_all (λ n. nat_lt x n) (xs ++ number ∷ []) ≡ true
all_under x [] top number h t k l = rw l refl
all_under x (y ∷ xs) top number h t k l =
    let here : nat_lt x y ≡ true = grind arith in
    let rest : list_all (λ n. nat_lt x n) xs ≡ true = grind arith in
    let below : list_all (λ n. nat_le n top) xs ≡ true = grind arith in
    rw (here, all_under x xs top number below t rest l) refl

climbing_more : (xs : List ℕ) (top number : ℕ) → is_climbing xs ≡ true → list_all (λ n. nat_le n top) xs ≡ true → nat_lt top number ≡ true → is_climbing (xs ++ number ∷ []) ≡ true
climbing_more [] top number h k l = refl
climbing_more (x ∷ xs) top number h k l =
    let above : list_all (λ n. nat_lt x n) xs ≡ true = grind arith in
    let climbs : is_climbing xs ≡ true = grind arith in
    let first : nat_le x top ≡ true = grind arith in
    let below : list_all (λ n. nat_le n top) xs ≡ true = grind arith in
    let under : nat_lt x number ≡ true = grind (arith, nat_tests) in
    rw (all_under x xs top number below l above under, climbing_more xs top number climbs below l) refl

below_more : (xs : List ℕ) (top number : ℕ) → list_all (λ n. nat_le n top) xs ≡ true → nat_lt top number ≡ true → list_all (λ n. nat_le n number) (xs ++ number ∷ []) ≡ true
below_more [] top number h l = let same : nat_le number number ≡ true = grind (arith, nat_tests) in rw same refl
below_more (x ∷ xs) top number h l =
    let first : nat_le x top ≡ true = grind arith in
    let rest : list_all (λ n. nat_le n top) xs ≡ true = grind arith in
    let here : nat_le x number ≡ true = grind (arith, nat_tests) in
    rw (here, below_more xs top number rest l) refl

pub rises_more : (xs : List ℕ) (top number : ℕ) → rises_to (Some top) xs ≡ true → top < number → rises_to (Some number) (xs ++ number ∷ []) ≡ true
rises_more xs top number h less =
    let l : nat_lt top number ≡ true = grind (arith, nat_tests) in
    let climbs : is_climbing xs ≡ true = grind arith in
    let below : list_all (λ n. nat_le n top) xs ≡ true = grind arith in
    rw (climbing_more xs top number climbs below l, below_more xs top number below l) refl

-- one less
all_drop : (p : ℕ → Bool) (xs : List ℕ) (n : ℕ) → list_all p xs ≡ true → list_all p (drop n xs) ≡ true
all_drop p xs zero h = h
all_drop p [] (suc n) h = refl
all_drop p (x ∷ xs) (suc n) h = let rest : list_all p xs ≡ true = grind arith in all_drop p xs n rest

all_less : (p : ℕ → Bool) (xs : List ℕ) (i n : ℕ) → i ≤ n → list_all p xs ≡ true → list_all p (take i xs ++ drop n xs) ≡ true
all_less p xs zero n le h = all_drop p xs n h
all_less p xs (suc i) zero le h = absurd (omega arith)
all_less p [] (suc i) (suc n) le h = refl
all_less p (x ∷ xs) (suc i) (suc n) le h =
    let here : p x ≡ true = grind arith in
    let rest : list_all p xs ≡ true = grind arith in
    rw (here, all_less p xs i n (omega arith) rest) refl

climbing_drop : (xs : List ℕ) (n : ℕ) → is_climbing xs ≡ true → is_climbing (drop n xs) ≡ true
climbing_drop xs zero h = h
climbing_drop [] (suc n) h = refl
climbing_drop (x ∷ xs) (suc n) h = let rest : is_climbing xs ≡ true = grind arith in climbing_drop xs n rest

climbing_less : (xs : List ℕ) (i n : ℕ) → i ≤ n → is_climbing xs ≡ true → is_climbing (take i xs ++ drop n xs) ≡ true
climbing_less xs zero n le h = climbing_drop xs n h
climbing_less xs (suc i) zero le h = absurd (omega arith)
climbing_less [] (suc i) (suc n) le h = refl
climbing_less (x ∷ xs) (suc i) (suc n) le h =
    let above : list_all (λ n. nat_lt x n) xs ≡ true = grind arith in
    let rest : is_climbing xs ≡ true = grind arith in
    rw (all_less (λ n. nat_lt x n) xs i n (omega arith) above, climbing_less xs i n (omega arith) rest) refl

pub rises_less : (top : Option ℕ) (xs : List ℕ) (i : ℕ) → rises_to top xs ≡ true → rises_to top (take i xs ++ drop (i + 1) xs) ≡ true
rises_less None xs i h = refl
rises_less (Some top) xs i h =
    let climbs : is_climbing xs ≡ true = grind arith in
    let below : list_all (λ n. nat_le n top) xs ≡ true = grind arith in
    rw (climbing_less xs i (i + 1) (omega arith) climbs, all_less (λ n. nat_le n top) xs i (i + 1) (omega arith) below) refl

-- the next of a list, above those before it
pub rises_next : (xs : List ℕ) (top number i d : ℕ) → rises_to (Some top) (take i xs) ≡ true → i < length xs → number ≡ get_or xs i d → top < number → rises_to (Some number) (take (i + 1) xs) ≡ true
rises_next xs top number i d h l is above =
    let more : take (i + 1) xs ≡ take i xs ++ number ∷ [] = take_more xs i d l ∙ ap (λ n. take i xs ++ n ∷ []) (sym is) in
    ap (rises_to (Some number)) more ∙ rises_more (take i xs) top number h above

-- a number of the list has an index
placed-inside : (x : ℕ) (xs : List ℕ) → nat_lt (position_or_len (λ n. n == x) xs) (length xs) ≡ list_any (λ m. nat_eq x m) xs
placed-inside x [] = refl
placed-inside x (y ∷ ys) =
    let rest : nat_lt (position_or_len (λ n. n == x) ys) (length ys) ≡ list_any (λ m. nat_eq x m) ys = placed-inside x ys in
    elim (eqb y x) as (λ v. eqb y x ≡ v → nat_lt (cond (not v) (1 + position_or_len (λ n. n == x) ys) 0) (length (y ∷ ys)) ≡ (nat_eq x y || list_any (λ m. nat_eq x m) ys)) [
      | true ↦ λ e. let here : nat_eq x y ≡ true = grind (arith, nat_tests) in rw here (grind (arith, nat_tests))
      | false ↦ λ e. let here : nat_eq x y ≡ false = grind (arith, nat_tests) in rw here (grind (arith, nat_tests))
    ] refl

is_some-cond : (v : Bool) (n : ℕ) → is_some (cond v (Some n) None) ≡ v
is_some-cond true n = refl
is_some-cond false n = refl

pub placed-taken : (x : ℕ) (xs : List ℕ) → is_some (position (λ n. n == x) xs) ≡ is_taken xs x
placed-taken x xs = is_some-cond (nat_lt (position_or_len (λ n. n == x) xs) (length xs)) (position_or_len (λ n. n == x) xs) ∙ placed-inside x xs
