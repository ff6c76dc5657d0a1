-- The index of the fetch with a number: the entry there, and the list with it changed or removed.
use Rattle.std.proofs.Common.{◌≡◌, ℕ, zero, suc, ◌+◌, ◌<◌, ◌≤◌, Bool, true, false, not, cond, nat_lt, List, [], ◌∷◌, ◌++◌, length, map, take, drop, set, get_or, refl, ap, sym, ◌∙◌, subst, arith, nat_eq, ◌==◌, ◌||◌, if◌then◌else◌, Some, None, Option}
use Rattle.std.proofs.lemmas.Bool.{eqb-true}
use Rattle.std.proofs.lemmas.List.Folds.{list_any-append}
use Rattle.std.proofs.Math.Seq.{take-append_seam, get_or-append_seam, set-append_seam, drop-append-add}
use Rattle.std.specs.List.{list_any, position, position_or_len, IsDistinct, find}
use Rattle.std.specs.Option.{option_map}
use Rattle.neighbours.specs.declared.neighbour.Neighbour.{Neighbour}
use Rattle.peer_select.specs.Poll.{matches}
use Rattle.pending_fetch.specs.Calls.{fits, told, may_advance}
use Rattle.pending_fetch.specs.Fetches.{PendingFetch, numbers, changed, has_number, without, waiters_of, waiters_in, fetch_of}
use Rattle.pending_fetch.proofs.Words.{numbers-append, changed-seam, changed-none, without-seam, without-none, none_later, find-seam, find-none}

-- the i-th fetch is the first that passes the test
pub record IsFirst (test : PendingFetch → Bool) (list : List PendingFetch) (i : ℕ) : Type 0 where
  pub front : List PendingFetch
  pub fetch : PendingFetch
  pub back : List PendingFetch
  pub split : list ≡ front ++ fetch ∷ back
  pub place : length front ≡ i
  pub passes : test fetch ≡ true
  pub first : list_any test front ≡ false

is_below : (a b : ℕ) → a < b → nat_lt a b ≡ true
is_below a b h = grind arith

-- the first fetch that passes a test
first_from : (test : PendingFetch → Bool) (list : List PendingFetch) → position_or_len test list < length list → IsFirst test list (position_or_len test list)
first_from test [] h = absurd (omega arith)
first_from test (x ∷ xs) h =
    elim (test x) as (λ v. test x ≡ v → cond (not v) (1 + position_or_len test xs) 0 < length (x ∷ xs) → IsFirst test (x ∷ xs) (cond (not v) (1 + position_or_len test xs) 0)) [
      | true ↦ λ t k. record { front = []; fetch = x; back = xs; split = refl; place = refl; passes = t; first = refl }
      | false ↦ λ t k.
          let rest : IsFirst test xs (position_or_len test xs) = first_from test xs (omega arith) in
          record {
            front = x ∷ rest.front;
            fetch = rest.fetch;
            back = rest.back;
            split = ap (λ l. x ∷ l) rest.split;
            place = omega (arith, rest.place);
            passes = rest.passes;
            first = ap (λ v. v || list_any test rest.front) t ∙ rest.first;
          }
    ] refl h

pub first_at : (test : PendingFetch → Bool) (list : List PendingFetch) (i : ℕ) → position test list ≡ Some i → IsFirst test list i
first_at test list i e =
    elim (nat_lt (position_or_len test list) (length list)) as (λ v. nat_lt (position_or_len test list) (length list) ≡ v → cond v (Some (position_or_len test list)) None ≡ Some i → IsFirst test list i) [
      | true ↦ λ t s.
          let same : position_or_len test list ≡ i = cc in
          let inside : position_or_len test list < length list = grind arith in
          let P : ℕ → Type 0 = λ k. IsFirst test list k in
          subst P same (first_from test list inside)
      | false ↦ λ t s. absurd cc
    ] refl e

none_from : (test : PendingFetch → Bool) (list : List PendingFetch) → length list ≤ position_or_len test list → list_any test list ≡ false
none_from test [] h = refl
none_from test (x ∷ xs) h =
    elim (test x) as (λ v. length (x ∷ xs) ≤ cond (not v) (1 + position_or_len test xs) 0 → (v || list_any test xs) ≡ false) [
      | true ↦ λ k. absurd (omega arith)
      | false ↦ λ k. none_from test xs (omega arith)
    ] h

pub none_at : (test : PendingFetch → Bool) (list : List PendingFetch) → position test list ≡ None → list_any test list ≡ false
none_at test list e =
    elim (nat_lt (position_or_len test list) (length list)) as (λ v. nat_lt (position_or_len test list) (length list) ≡ v → cond v (Some (position_or_len test list)) None ≡ None → list_any test list ≡ false) [
      | true ↦ λ t s. absurd cc
      | false ↦ λ t s. let past : length list ≤ position_or_len test list = grind arith in none_from test list past
    ] refl e

get_at : (list front : List PendingFetch) (fetch : PendingFetch) (back : List PendingFetch) (i : ℕ) (d : PendingFetch) → list ≡ front ++ fetch ∷ back → length front ≡ i → get_or list i d ≡ fetch
get_at list front fetch back i d e p =
    ap (λ l. get_or l i d) e ∙ ap (λ n. get_or (front ++ fetch ∷ back) n d) (sym p) ∙ get_or-append_seam front fetch back d

set_at : (list front : List PendingFetch) (fetch : PendingFetch) (back : List PendingFetch) (i : ℕ) (new : PendingFetch) → list ≡ front ++ fetch ∷ back → length front ≡ i → set list i new ≡ front ++ new ∷ back
set_at list front fetch back i new e p =
    ap (λ l. set l i new) e ∙ ap (λ n. set (front ++ fetch ∷ back) n new) (sym p) ∙ set-append_seam front fetch back new

-- whether a fetch has the number
abbrev pub is_it : ℕ → PendingFetch → Bool
is_it number fetch = fetch.number == number

-- a position, read at an equal list
pub shift : (number : ℕ) (xs ys : List PendingFetch) (r o : Option ℕ) → r ≡ position (is_it number) xs → xs ≡ ys → r ≡ o → position (is_it number) ys ≡ o
shift number xs ys r o a b e = sym (a ∙ ap (position (is_it number)) b) ∙ e

pub absent : (number : ℕ) (list : List PendingFetch) → position (is_it number) list ≡ None → has_number number list ≡ false
absent number list e = none_at (is_it number) list e

pub present : (number : ℕ) (list : List PendingFetch) (i : ℕ) → position (is_it number) list ≡ Some i → has_number number list ≡ true
present number list i e =
    let w : IsFirst (is_it number) list i = first_at (is_it number) list i e in
    ap (list_any (is_it number)) w.split ∙ list_any-append (is_it number) w.front (w.fetch ∷ w.back) ∙ ap (λ v. v || (is_it number w.fetch || list_any (is_it number) w.back)) w.first ∙ ap (λ v. v || list_any (is_it number) w.back) w.passes

pub none_changed : (change : PendingFetch → PendingFetch) (number : ℕ) (list : List PendingFetch) → position (is_it number) list ≡ None → list ≡ changed change number list
none_changed change number list e = sym (changed-none change number list (absent number list e))

pub none_without : (number : ℕ) (list : List PendingFetch) → position (is_it number) list ≡ None → list ≡ without number list
none_without number list e = sym (without-none number list (absent number list e))

pub no_fetch : (number : ℕ) (list : List PendingFetch) → position (is_it number) list ≡ None → fetch_of number list ≡ None
no_fetch number list e = find-none (is_it number) list (absent number list e)

pub fetch_at : (number : ℕ) (list : List PendingFetch) (i : ℕ) (d : PendingFetch) → position (is_it number) list ≡ Some i → fetch_of number list ≡ Some (get_or list i d)
fetch_at number list i d e =
    let w : IsFirst (is_it number) list i = first_at (is_it number) list i e in
    let old : get_or list i d ≡ w.fetch = get_at list w.front w.fetch w.back i d w.split w.place in
    ap (fetch_of number) w.split ∙ find-seam (is_it number) w.front w.fetch w.back w.first w.passes ∙ ap (λ f. Some f) (sym old)

pub set_changed : (change : PendingFetch → PendingFetch) (number : ℕ) (list : List PendingFetch) (i : ℕ) (d new : PendingFetch) →
    position (is_it number) list ≡ Some i → new ≡ change (get_or list i d) → set list i new ≡ changed change number list
set_changed change number list i d new e is =
    let w : IsFirst (is_it number) list i = first_at (is_it number) list i e in
    let old : get_or list i d ≡ w.fetch = get_at list w.front w.fetch w.back i d w.split w.place in
    set_at list w.front w.fetch w.back i new w.split w.place ∙ ap (λ f. w.front ++ f ∷ w.back) (is ∙ ap change old)
    ∙ sym (ap (changed change number) w.split ∙ changed-seam change number w.front w.fetch w.back w.first w.passes)

pub cut_without : (number : ℕ) (list : List PendingFetch) (i : ℕ) → position (is_it number) list ≡ Some i → IsDistinct nat_eq (numbers list) →
    take i list ++ drop (i + 1) list ≡ without number list
cut_without number list i e apart =
    let w : IsFirst (is_it number) list i = first_at (is_it number) list i e in
    let front : take i list ≡ w.front = ap (take i) w.split ∙ ap (λ n. take n (w.front ++ w.fetch ∷ w.back)) (sym w.place) ∙ take-append_seam w.front (w.fetch ∷ w.back) in
    let back : drop (i + 1) list ≡ w.back =
    ap (drop (i + 1)) w.split ∙ ap (λ n. drop (n + 1) (w.front ++ w.fetch ∷ w.back)) (sym w.place) ∙ drop-append-add w.front (w.fetch ∷ w.back) 1 in
    let P : List ℕ → Type 0 = λ l. IsDistinct nat_eq l in
    let later : has_number w.fetch.number w.back ≡ false = none_later w.front w.fetch w.back (subst P (ap numbers w.split) apart) in
    let same : w.fetch.number ≡ number = eqb-true w.fetch.number number w.passes in
    let none : has_number number w.back ≡ false = sym (ap (λ n. has_number n w.back) same) ∙ later in
    ap (λ l. l ++ drop (i + 1) list) front ∙ ap (λ l. w.front ++ l) back
    ∙ sym (ap (without number) w.split ∙ without-seam number w.front w.fetch w.back w.first w.passes none)

-- the numbers in the order of opening
pol-numbers : (number : ℕ) (list : List PendingFetch) → position_or_len (λ n. n == number) (numbers list) ≡ position_or_len (is_it number) list
pol-numbers number [] = refl
pol-numbers number (f ∷ list) = ap (λ k. cond (not (f.number == number)) (1 + k) 0) (pol-numbers number list)

pub length-numbers : (list : List PendingFetch) → length (numbers list) ≡ length list
length-numbers [] = refl
length-numbers (f ∷ list) = ap suc (length-numbers list)

pub position-numbers : (number : ℕ) (list : List PendingFetch) → position (λ n. n == number) (numbers list) ≡ position (is_it number) list
position-numbers number list =
    ap (λ k. cond (nat_lt k (length (numbers list))) (Some k) None) (pol-numbers number list)
    ∙ ap (λ n. cond (nat_lt (position_or_len (is_it number) list) n) (Some (position_or_len (is_it number) list)) None) (length-numbers list)

numbers-drop : (n : ℕ) (list : List PendingFetch) → numbers (drop n list) ≡ drop n (numbers list)
numbers-drop zero list = refl
numbers-drop (suc n) [] = refl
numbers-drop (suc n) (f ∷ list) = numbers-drop n list

numbers-take : (i : ℕ) (list : List PendingFetch) → numbers (take i list) ≡ take i (numbers list)
numbers-take zero list = refl
numbers-take (suc i) [] = refl
numbers-take (suc i) (f ∷ list) = ap (λ l. f.number ∷ l) (numbers-take i list)

pub numbers-cut : (i n : ℕ) (list : List PendingFetch) → take i (numbers list) ++ drop n (numbers list) ≡ numbers (take i list ++ drop n list)
numbers-cut i n list =
    sym (numbers-append (take i list) (drop n list) ∙ ap (λ l. l ++ numbers (drop n list)) (numbers-take i list) ∙ ap (λ l. take i (numbers list) ++ l) (numbers-drop n list))

pub waiters_at : (number : ℕ) (list : List PendingFetch) (i : ℕ) (d : PendingFetch) → position (is_it number) list ≡ Some i → waiters_of number list ≡ (get_or list i d).waiters
waiters_at number list i d e = ap waiters_in (fetch_at number list i d e)
