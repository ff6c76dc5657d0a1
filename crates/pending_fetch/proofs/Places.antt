-- The fetch with a number, and the first due fetch.
use Rattle.std.proofs.Common.{◌≡◌, ℕ, ◌+◌, Bool, true, false, not, eqb, List, [], ◌∷◌, ◌++◌, refl, ap, sym, ◌∙◌, subst, arith, nat_eq, nat_le, ◌==◌, ◌&&◌, if◌then◌else◌, Some, None, eq-eqb}
use Rattle.std.proofs.lemmas.Bool.Decides.{nat_tests}
use Rattle.std.proofs.lemmas.List.Elements.{filter-append}
use Rattle.std.specs.List.{list_any, IsDistinct, AllByRecursion, filter, find}
use Rattle.std.specs.Option.{option_map}
use Rattle.std.specs.Prelude.{Option}
use Rattle.peer_select.specs.Poll.{Poll, decided, ended}
use Rattle.pending_fetch.specs.Fetches.{PendingFetch, numbers, waiters_of, waiters_in, has_number, changed, without, fetch_of, is_due, all_due, first_due, with_end}
use Rattle.pending_fetch.specs.Legal.{IsLegal}
use Rattle.pending_fetch.specs.Places.{IsPlace, IsFirstDue}
use Rattle.pending_fetch.proofs.Words.{changed-seam, without-seam, find-seam, none_later}

-- the result of a search, with the parts of the list before and after it
pub record IsFound (test : PendingFetch → Bool) (list : List PendingFetch) (f : PendingFetch) : Type 0 where
  pub before : List PendingFetch
  pub after : List PendingFetch
  pub split : list ≡ before ++ f ∷ after
  pub none : list_any test before ≡ false
  pub passes : test f ≡ true

pub found : (test : PendingFetch → Bool) (list : List PendingFetch) (f : PendingFetch) → find test list ≡ Some f → IsFound test list f
found test [] f e = absurd cc
found test (x ∷ list) f e =
    elim (test x) as (λ v. test x ≡ v → (if v then Some x else find test list) ≡ Some f → IsFound test (x ∷ list) f) [
      | true ↦ λ t s.
          let same : x ≡ f = cc in
          record { before = []; after = list; split = ap (λ y. y ∷ list) same; none = refl; passes = sym (ap test same) ∙ t }
      | false ↦ λ t s.
          let rest : IsFound test list f = found test list f s in
          record { before = x ∷ rest.before; after = rest.after; split = ap (λ l. x ∷ l) rest.split; none = rw (t, rest.none) refl; passes = rest.passes }
    ] refl e

number_is : (a b : ℕ) → eqb a b ≡ true → a ≡ b
number_is a b h = grind (arith, nat_tests)

is_place : (number : ℕ) (list : List PendingFetch) (f : PendingFetch) → IsLegal list → IsFound (λ (g : PendingFetch). g.number == number) list f → IsPlace number list f
is_place number list f h w =
    let P : List ℕ → Type 0 = λ k. IsDistinct nat_eq k in
    let same : f.number ≡ number = number_is f.number number w.passes in
    let later : has_number f.number w.after ≡ false = none_later w.before f w.after (subst P (ap numbers w.split) h.numbered) in
    let after : has_number number w.after ≡ false = sym (ap (λ n. has_number n w.after) same) ∙ later in
    record {
      before = w.before;
      after = w.after;
      split = w.split;
      here = same;
      waiting = ap (waiters_of number) w.split ∙ ap waiters_in (find-seam (λ (g : PendingFetch). g.number == number) w.before f w.after w.none w.passes);
      closed = ap (without number) w.split ∙ without-seam number w.before f w.after w.none w.passes after;
      change = λ change. ap (changed change number) w.split ∙ changed-seam change number w.before f w.after w.none w.passes;
    }

pub place_at : (list : List PendingFetch) (number : ℕ) (f : PendingFetch) → IsLegal list → fetch_of number list ≡ Some f → IsPlace number list f
place_at list number f h e = is_place number list f h (found (λ (g : PendingFetch). g.number == number) list f e)

filter_none : (test : PendingFetch → Bool) (list : List PendingFetch) → list_any test list ≡ false → filter test list ≡ []
filter_none test [] h = refl
filter_none test (x ∷ list) h =
    let here : test x ≡ false = grind arith in
    let there : list_any test list ≡ false = grind arith in
    rw here (filter_none test list there)

apart_from : (n : ℕ) (a : List PendingFetch) (f : PendingFetch) (b : List PendingFetch) → AllByRecursion (λ y. nat_eq n y ≡ false) (numbers (a ++ f ∷ b)) → nat_eq n f.number ≡ false
apart_from n [] f b h = h.0
apart_from n (x ∷ a) f b h = apart_from n a f b h.1

-- with distinct numbers, no fetch before f has its number
pub number_apart : (number : ℕ) (a : List PendingFetch) (f : PendingFetch) (b : List PendingFetch) → f.number ≡ number → IsDistinct nat_eq (numbers (a ++ f ∷ b)) → has_number number a ≡ false
unfolding IsDistinct
number_apart number [] f b e h = refl
number_apart number (x ∷ a) f b e h =
    let here : eqb x.number number ≡ false = ap (λ n. eqb x.number n) (sym e) ∙ apart_from x.number a f b h.0 in
    rw (here, number_apart number a f b e h.1) refl

all_due-skip : (now : ℕ) (a b : List PendingFetch) → list_any (is_due now) a ≡ false → all_due now (a ++ b) ≡ all_due now b
all_due-skip now a b h =
    ap numbers (filter-append (is_due now) a b) ∙ ap (λ l. numbers (l ++ filter (is_due now) b)) (filter_none (is_due now) a h)

all_due-first : (now : ℕ) (f : PendingFetch) (b : List PendingFetch) → is_due now f ≡ true → all_due now (f ∷ b) ≡ f.number ∷ all_due now b
all_due-first now f b h = rw h refl

all_due-other : (now : ℕ) (f : PendingFetch) (b : List PendingFetch) → is_due now f ≡ false → all_due now (f ∷ b) ≡ all_due now b
all_due-other now f b h = rw h refl

ended_undue : (now : ℕ) (f : PendingFetch) → decided (ended f.round) ≡ true → is_due now (with_end f) ≡ false
ended_undue now f h = ap (λ v. not v && nat_le ((ended f.round).start + 2000) now) h

due_first : (now number : ℕ) (list : List PendingFetch) (o : Option PendingFetch) → IsLegal list → ((poll : Poll) → decided (ended poll) ≡ true) →
    find (is_due now) list ≡ o → option_map (λ (f : PendingFetch). f.number) o ≡ Some number → IsFirstDue now number list
unfolding is_place found
due_first now number list None h over e k = absurd cc
due_first now number list (Some f) h over e k =
    let w : IsFound (is_due now) list f = found (is_due now) list f e in
    let same : f.number ≡ number = cc in
    let P : List ℕ → Type 0 = λ l. IsDistinct nat_eq l in
    let apart : has_number number w.before ≡ false = number_apart number w.before f w.after same (subst P (ap numbers w.split) h.numbered) in
    let one : eqb f.number number ≡ true = eq-eqb f.number number same in
    let at : IsFound (λ (g : PendingFetch). g.number == number) list f = record { before = w.before; after = w.after; split = w.split; none = apart; passes = one } in
    let place : IsPlace number list f = is_place number list f h at in
    let all : all_due now list ≡ number ∷ all_due now w.after =
    ap (all_due now) w.split ∙ all_due-skip now w.before (f ∷ w.after) w.none ∙ all_due-first now f w.after w.passes ∙ ap (λ n. n ∷ all_due now w.after) same in
    record {
      fetch = f;
      found = ap (fetch_of number) w.split ∙ find-seam (λ (g : PendingFetch). g.number == number) w.before f w.after apart one;
      place = place;
      due = w.passes;
      earlier = filter_none (is_due now) w.before w.none;
      closing = all ∙ ap (λ l. number ∷ l) (sym (ap (all_due now) place.closed ∙ all_due-skip now w.before w.after w.none));
      expiring = all ∙ ap (λ l. number ∷ l)
          (sym (ap (all_due now) (place.change with_end) ∙ all_due-skip now w.before (with_end f ∷ w.after) w.none ∙ all_due-other now (with_end f) w.after (ended_undue now f (over f.round))));
    }

pub due_at : (list : List PendingFetch) (now number : ℕ) → ((poll : Poll) → decided (ended poll) ≡ true) → IsLegal list → first_due now list ≡ Some number → IsFirstDue now number list
due_at list now number over h e = due_first now number list (find (is_due now) list) h over refl e

pub none_due : (list : List PendingFetch) (now : ℕ) → first_due now list ≡ None → all_due now list ≡ []
none_due [] now e = refl
none_due (x ∷ list) now e =
    elim (is_due now x) as (λ v. option_map (λ (f : PendingFetch). f.number) (if v then Some x else find (is_due now) list) ≡ None → numbers (if v then x ∷ filter (is_due now) list else filter (is_due now) list) ≡ []) [
      | true ↦ λ s. absurd cc
      | false ↦ λ s. none_due list now s
    ] e
