-- Combinations of the operations on the list of fetches.
use Rattle.std.proofs.Common.{◌≡◌, ℕ, ◌+◌, ◌<◌, ◌≤◌, Bool, true, false, not, eqb, List, [], ◌∷◌, ◌++◌, length, refl, ap, sym, ◌∙◌, subst, arith, nat_eq, nat_le, ◌==◌, ◌||◌, if◌then◌else◌, append_assoc, length-append, Some, None}
use Rattle.std.proofs.lemmas.Bool.Decides.{nat_tests}
use Rattle.std.proofs.lemmas.List.{append-nil}
use Rattle.std.specs.List.{list_any, list_all, IsDistinct, AllByRecursion, find}
use Rattle.std.proofs.lemmas.List.Elements.{filter-append}
use Rattle.std.specs.Cmp.{nat_eq_equiv}
use Rattle.std.proofs.lemmas.Map.Keys.{IsDistinct-push}
use Rattle.pending_fetch.specs.Numbers.{is_taken}
use Rattle.pending_fetch.specs.Fetches.{PendingFetch, numbers, starts, all_waiters, waits, has_number, changed, with_waiter, without_client, left, without}
use Rattle.pending_fetch.specs.Legal.{IsLegal, is_rising}
use Rattle.pending_fetch.proofs.Lists.{IsDistinct-cut, IsDistinct-insert, IsDistinct-filter, length-filter, is_rising-cut, is_rising-push}
use Rattle.pending_fetch.specs.Bounds.{most_fetches, most_waiters}

pub all_waiters-append : (a b : List PendingFetch) → all_waiters (a ++ b) ≡ all_waiters a ++ all_waiters b
all_waiters-append [] b = refl
all_waiters-append (f ∷ a) b = ap (λ l. f.waiters ++ l) (all_waiters-append a b) ∙ sym (append_assoc f.waiters (all_waiters a) (all_waiters b))

pub numbers-append : (a b : List PendingFetch) → numbers (a ++ b) ≡ numbers a ++ numbers b
numbers-append [] b = refl
numbers-append (f ∷ a) b = ap (λ l. f.number ∷ l) (numbers-append a b)

pub starts-append : (a b : List PendingFetch) → starts (a ++ b) ≡ starts a ++ starts b
starts-append [] b = refl
starts-append (f ∷ a) b = ap (λ l. f.round.start ∷ l) (starts-append a b)

-- if no fetch has the number
pub changed-none : (change : PendingFetch → PendingFetch) (number : ℕ) (list : List PendingFetch) → has_number number list ≡ false → changed change number list ≡ list
changed-none change number [] h = refl
changed-none change number (f ∷ fs) h =
    let here : eqb f.number number ≡ false = grind arith in
    let there : has_number number fs ≡ false = grind arith in
    rw here (ap (λ l. f ∷ l) (changed-none change number fs there))

pub without-none : (number : ℕ) (list : List PendingFetch) → has_number number list ≡ false → without number list ≡ list
without-none number [] h = refl
without-none number (f ∷ fs) h =
    let here : eqb f.number number ≡ false = grind arith in
    let there : has_number number fs ≡ false = grind arith in
    rw here (ap (λ l. f ∷ l) (without-none number fs there))

-- at the first fetch with the number
pub changed-seam : (change : PendingFetch → PendingFetch) (number : ℕ) (a : List PendingFetch) (f : PendingFetch) (b : List PendingFetch) →
    has_number number a ≡ false → eqb f.number number ≡ true → changed change number (a ++ f ∷ b) ≡ a ++ change f ∷ b
changed-seam change number [] f b h k = rw k refl
changed-seam change number (x ∷ a) f b h k =
    let here : eqb x.number number ≡ false = grind arith in
    let there : has_number number a ≡ false = grind arith in
    rw here (ap (λ l. x ∷ l) (changed-seam change number a f b there k))

pub without-seam : (number : ℕ) (a : List PendingFetch) (f : PendingFetch) (b : List PendingFetch) →
    has_number number a ≡ false → eqb f.number number ≡ true → has_number number b ≡ false → without number (a ++ f ∷ b) ≡ a ++ b
without-seam number [] f b h k m = rw k (without-none number b m)
without-seam number (x ∷ a) f b h k m =
    let here : eqb x.number number ≡ false = grind arith in
    let there : has_number number a ≡ false = grind arith in
    rw here (ap (λ l. x ∷ l) (without-seam number a f b there k m))

pub find-seam : (test : PendingFetch → Bool) (a : List PendingFetch) (f : PendingFetch) (b : List PendingFetch) →
    list_any test a ≡ false → test f ≡ true → find test (a ++ f ∷ b) ≡ Some f
find-seam test [] f b h k = rw k refl
find-seam test (x ∷ a) f b h k =
    let here : test x ≡ false = grind arith in
    let there : list_any test a ≡ false = grind arith in
    rw here (find-seam test a f b there k)

pub find-none : (test : PendingFetch → Bool) (list : List PendingFetch) → list_any test list ≡ false → find test list ≡ None
find-none test [] h = refl
find-none test (x ∷ list) h =
    let here : test x ≡ false = grind arith in
    let there : list_any test list ≡ false = grind arith in
    rw here (find-none test list there)

-- legal lists
pub IsLegal-same : (a b : List PendingFetch) → length b ≡ length a → numbers b ≡ numbers a → all_waiters b ≡ all_waiters a → starts b ≡ starts a → IsLegal a → IsLegal b
IsLegal-same a b l n w s h = record {
  few = rw l h.few;
  uncrowded = rw w h.uncrowded;
  numbered = let P : List ℕ → Type 0 = λ k. IsDistinct nat_eq k in subst P (sym n) h.numbered;
  once = let P : List ℕ → Type 0 = λ k. IsDistinct nat_eq k in subst P (sym w) h.once;
  in_order = ap is_rising s ∙ h.in_order;
}

-- a change that keeps number, start and waiters
pub record Keeps (change : PendingFetch → PendingFetch) : Type 0 where
  pub number : (f : PendingFetch) → (change f).number ≡ f.number
  pub start : (f : PendingFetch) → (change f).round.start ≡ f.round.start
  pub waiters : (f : PendingFetch) → (change f).waiters ≡ f.waiters

pub length-changed : (change : PendingFetch → PendingFetch) (number : ℕ) (list : List PendingFetch) → length (changed change number list) ≡ length list
length-changed change number [] = refl
length-changed change number (f ∷ fs) =
    elim (eqb f.number number) as (λ v. length (if v then change f ∷ fs else f ∷ changed change number fs) ≡ length (f ∷ fs)) [
      | true ↦ refl
      | false ↦ omega (arith, length-changed change number fs)
    ]

pub numbers-changed : (change : PendingFetch → PendingFetch) → ((f : PendingFetch) → (change f).number ≡ f.number) → (number : ℕ) (list : List PendingFetch) → numbers (changed change number list) ≡ numbers list
numbers-changed change k number [] = refl
numbers-changed change k number (f ∷ fs) =
    elim (eqb f.number number) as (λ v. numbers (if v then change f ∷ fs else f ∷ changed change number fs) ≡ numbers (f ∷ fs)) [
      | true ↦ ap (λ n. n ∷ numbers fs) (k f)
      | false ↦ ap (λ l. f.number ∷ l) (numbers-changed change k number fs)
    ]

pub starts-changed : (change : PendingFetch → PendingFetch) → ((f : PendingFetch) → (change f).round.start ≡ f.round.start) → (number : ℕ) (list : List PendingFetch) → starts (changed change number list) ≡ starts list
starts-changed change k number [] = refl
starts-changed change k number (f ∷ fs) =
    elim (eqb f.number number) as (λ v. starts (if v then change f ∷ fs else f ∷ changed change number fs) ≡ starts (f ∷ fs)) [
      | true ↦ ap (λ n. n ∷ starts fs) (k f)
      | false ↦ ap (λ l. f.round.start ∷ l) (starts-changed change k number fs)
    ]

pub all_waiters-changed : (change : PendingFetch → PendingFetch) → ((f : PendingFetch) → (change f).waiters ≡ f.waiters) → (number : ℕ) (list : List PendingFetch) → all_waiters (changed change number list) ≡ all_waiters list
all_waiters-changed change k number [] = refl
all_waiters-changed change k number (f ∷ fs) =
    elim (eqb f.number number) as (λ v. all_waiters (if v then change f ∷ fs else f ∷ changed change number fs) ≡ all_waiters (f ∷ fs)) [
      | true ↦ ap (λ w. w ++ all_waiters fs) (k f)
      | false ↦ ap (λ l. f.waiters ++ l) (all_waiters-changed change k number fs)
    ]

pub IsLegal-changed : (change : PendingFetch → PendingFetch) (number : ℕ) (list : List PendingFetch) → Keeps change → IsLegal list → IsLegal (changed change number list)
IsLegal-changed change number list k h =
    IsLegal-same list (changed change number list) (length-changed change number list) (numbers-changed change k.number number list)
    (all_waiters-changed change k.waiters number list) (starts-changed change k.start number list) h

-- one more client, anywhere among the others
pub record IsInserted (c : ℕ) (old new : List ℕ) : Type 0 where
  pub front : List ℕ
  pub back : List ℕ
  pub was : old ≡ front ++ back
  pub is : new ≡ front ++ c ∷ back

pub all_waiters-joined : (client number : ℕ) (list : List PendingFetch) → has_number number list ≡ true → IsInserted client (all_waiters list) (all_waiters (changed (with_waiter client) number list))
all_waiters-joined client number [] h = absurd cc
all_waiters-joined client number (f ∷ fs) h =
    elim (eqb f.number number) as (λ v. (v || has_number number fs) ≡ true → IsInserted client (f.waiters ++ all_waiters fs) (all_waiters (if v then with_waiter client f ∷ fs else f ∷ changed (with_waiter client) number fs))) [
      | true ↦ λ e. record { front = f.waiters; back = all_waiters fs; was = refl; is = append_assoc f.waiters (client ∷ []) (all_waiters fs) }
      | false ↦ λ e.
          let rest : IsInserted client (all_waiters fs) (all_waiters (changed (with_waiter client) number fs)) = all_waiters-joined client number fs e in
          record {
            front = f.waiters ++ rest.front;
            back = rest.back;
            was = ap (λ l. f.waiters ++ l) rest.was ∙ sym (append_assoc f.waiters rest.front rest.back);
            is = ap (λ l. f.waiters ++ l) rest.is ∙ sym (append_assoc f.waiters rest.front (client ∷ rest.back));
          }
    ] h

inserted_distinct : (c : ℕ) (old new : List ℕ) → IsInserted c old new → IsDistinct nat_eq old → list_any (λ w. w == c) old ≡ false → IsDistinct nat_eq new
inserted_distinct c old new i h k =
    let P : List ℕ → Type 0 = λ l. IsDistinct nat_eq l in
    subst P (sym i.is) (IsDistinct-insert i.front i.back c (subst P i.was h) (sym (ap (list_any (λ w. w == c)) i.was) ∙ k))

pub inserted_length : (c : ℕ) (old new : List ℕ) → IsInserted c old new → length new ≡ length old + 1
inserted_length c old new i =
    let one : length old ≡ length i.front + length i.back = ap length i.was ∙ length-append i.front i.back in
    let two : length new ≡ length i.front + length (c ∷ i.back) = ap length i.is ∙ length-append i.front (c ∷ i.back) in
    omega arith

pub IsLegal-joined : (client number : ℕ) (list : List PendingFetch) → has_number number list ≡ true → waits client list ≡ false → length (all_waiters list) < most_waiters →
    IsLegal list → IsLegal (changed (with_waiter client) number list)
IsLegal-joined client number list has absent room h =
    let i : IsInserted client (all_waiters list) (all_waiters (changed (with_waiter client) number list)) = all_waiters-joined client number list has in
    let more : length (all_waiters (changed (with_waiter client) number list)) ≡ length (all_waiters list) + 1 = inserted_length client _ _ i in
    let same : numbers (changed (with_waiter client) number list) ≡ numbers list = numbers-changed (with_waiter client) (λ f. refl) number list in
    let P : List ℕ → Type 0 = λ k. IsDistinct nat_eq k in
    record {
      few = rw (length-changed (with_waiter client) number list) h.few;
      uncrowded = omega arith;
      numbered = subst P (sym same) h.numbered;
      once = inserted_distinct client _ _ i h.once absent;
      in_order = ap is_rising (starts-changed (with_waiter client) (λ f. refl) number list) ∙ h.in_order;
    }

-- leaving
pub all_waiters-left : (client : ℕ) (list : List PendingFetch) → all_waiters (left client list) ≡ without_client client (all_waiters list)
all_waiters-left client [] = refl
all_waiters-left client (f ∷ fs) =
    ap (λ l. without_client client f.waiters ++ l) (all_waiters-left client fs)
    ∙ sym (filter-append (λ w. not (w == client)) f.waiters (all_waiters fs))

pub numbers-left : (client : ℕ) (list : List PendingFetch) → numbers (left client list) ≡ numbers list
numbers-left client [] = refl
numbers-left client (f ∷ fs) = ap (λ l. f.number ∷ l) (numbers-left client fs)

starts-left : (client : ℕ) (list : List PendingFetch) → starts (left client list) ≡ starts list
starts-left client [] = refl
starts-left client (f ∷ fs) = ap (λ l. f.round.start ∷ l) (starts-left client fs)

length-left : (client : ℕ) (list : List PendingFetch) → length (left client list) ≡ length list
length-left client [] = refl
length-left client (f ∷ fs) = omega (arith, length-left client fs)

pub IsLegal-left : (client : ℕ) (list : List PendingFetch) → IsLegal list → IsLegal (left client list)
IsLegal-left client list h =
    let P : List ℕ → Type 0 = λ k. IsDistinct nat_eq k in
    let fewer : length (without_client client (all_waiters list)) ≤ length (all_waiters list) = length-filter (λ w. not (w == client)) (all_waiters list) in
    record {
      few = rw (length-left client list) h.few;
      uncrowded = rw (all_waiters-left client list) (omega (arith, h.uncrowded));
      numbered = subst P (sym (numbers-left client list)) h.numbered;
      once = subst P (sym (all_waiters-left client list)) (IsDistinct-filter (λ w. not (w == client)) (all_waiters list) h.once);
      in_order = ap is_rising (starts-left client list) ∙ h.in_order;
    }

-- closing, and opening
pub IsLegal-cut : (a : List PendingFetch) (f : PendingFetch) (b : List PendingFetch) → IsLegal (a ++ f ∷ b) → IsLegal (a ++ b)
IsLegal-cut a f b h =
    let P : List ℕ → Type 0 = λ k. IsDistinct nat_eq k in
    let n : numbers (a ++ f ∷ b) ≡ numbers a ++ ((f.number ∷ []) ++ numbers b) = numbers-append a (f ∷ b) in
    let w : all_waiters (a ++ f ∷ b) ≡ all_waiters a ++ (f.waiters ++ all_waiters b) = all_waiters-append a (f ∷ b) in
    let s : starts (a ++ f ∷ b) ≡ starts a ++ ((f.round.start ∷ []) ++ starts b) = starts-append a (f ∷ b) in
    record {
      few = omega (arith, h.few, length-append a (f ∷ b), length-append a b);
      uncrowded = omega (
        arith,
        h.uncrowded,
        ap length w,
        length-append (all_waiters a) (f.waiters ++ all_waiters b),
        length-append f.waiters (all_waiters b),
        ap length (all_waiters-append a b),
        length-append (all_waiters a) (all_waiters b),
      );
      numbered = subst P (sym (numbers-append a b)) (IsDistinct-cut (numbers a) (f.number ∷ []) (numbers b) (subst P n h.numbered));
      once = subst P (sym (all_waiters-append a b)) (IsDistinct-cut (all_waiters a) f.waiters (all_waiters b) (subst P w h.once));
      in_order = ap is_rising (starts-append a b) ∙ is_rising-cut (starts a) (f.round.start ∷ []) (starts b) (sym (ap is_rising s) ∙ h.in_order);
    }

pub IsLegal-push : (list : List PendingFetch) (f : PendingFetch) (client : ℕ) → f.waiters ≡ client ∷ [] → length list < most_fetches → length (all_waiters list) < most_waiters →
    is_taken (numbers list) f.number ≡ false → waits client list ≡ false → list_all (λ start. nat_le start f.round.start) (starts list) ≡ true →
    IsLegal list → IsLegal (list ++ f ∷ [])
IsLegal-push list f client one few room fresh absent later h =
    let P : List ℕ → Type 0 = λ k. IsDistinct nat_eq k in
    let w : all_waiters (list ++ f ∷ []) ≡ all_waiters list ++ client ∷ [] = all_waiters-append list (f ∷ []) ∙ ap (λ l. all_waiters list ++ (l ++ [])) one in
    let nil : all_waiters list ++ [] ≡ all_waiters list = append-nil (all_waiters list) in
    record {
      few = omega (arith, length-append list (f ∷ []));
      uncrowded = omega (arith, ap length w, length-append (all_waiters list) (client ∷ []));
      numbered = subst P (sym (numbers-append list (f ∷ []))) (IsDistinct-push nat_eq_equiv (numbers list) f.number h.numbered fresh);
      once = subst P (sym w) (IsDistinct-insert (all_waiters list) [] client (subst P (sym nil) h.once) (ap (list_any (λ waiter. waiter == client)) nil ∙ absent));
      in_order = ap is_rising (starts-append list (f ∷ [])) ∙ is_rising-push (starts list) f.round.start h.in_order later;
    }

-- with distinct numbers, at most one fetch has a given number
none_after : (number : ℕ) (list : List PendingFetch) → AllByRecursion (λ y. nat_eq number y ≡ false) (numbers list) → has_number number list ≡ false
none_after number [] h = refl
none_after number (f ∷ fs) h =
    let here : eqb f.number number ≡ false = grind (arith, nat_tests, h.0) in
    rw (here, none_after number fs h.1) refl

pub none_later : (a : List PendingFetch) (f : PendingFetch) (b : List PendingFetch) → IsDistinct nat_eq (numbers (a ++ f ∷ b)) → has_number f.number b ≡ false
unfolding IsDistinct
none_later [] f b h = none_after f.number b h.0
none_later (x ∷ a) f b h = none_later a f b h.1
