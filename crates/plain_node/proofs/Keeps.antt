-- The operations that preserve the invariant: each pending round matches the table's neighbours, and started no later than
-- the clock.
use Rattle.std.proofs.Common.{◌≡◌, ◌==◌, ◌+◌, ℕ, max, nat_le, Bool, true, false, ◌&&◌, List, [], ◌∷◌, ◌++◌, filter, Some, option_map, refl, ap, ◌∙◌, arith, if◌then◌else◌}
use Rattle.std.specs.List.{list_all}
use Rattle.std.proofs.lemmas.Bool.Decides.{nat_tests}
use Rattle.neighbours.specs.declared.neighbour.Neighbour.{Neighbour}
use Rattle.peer_select.specs.Poll.{matches}
use Rattle.pending_fetch.specs.Fetches.{PendingFetch, starts, changed, left, fetch_of, with_next}
use Rattle.pending_fetch.specs.Calls.{fits}
use Rattle.plain_node.specs.Fitting.{is_of}

pub both : (a b : Bool) → a ≡ true → b ≡ true → (a && b) ≡ true
both a b p q = rw (p, q) refl

first : (a b : Bool) → (a && b) ≡ true → a ≡ true
first true b p = refl
first false b p = absurd cc

second : (a b : Bool) → (a && b) ≡ true → b ≡ true
second true b p = p
second false b p = absurd cc

pub all_changed : (test : PendingFetch → Bool) (change : PendingFetch → PendingFetch) (number : ℕ) (list : List PendingFetch) → ((f : PendingFetch) → test f ≡ true → test (change f) ≡ true) → list_all test list ≡ true → list_all test (changed change number list) ≡ true
all_changed test change number [] keeps all = refl
all_changed test change number (f ∷ list) keeps all =
    elim (f.number == number) as (λ v. list_all test (if v then change f ∷ list else f ∷ changed change number list) ≡ true) [
      | true ↦ both (test (change f)) (list_all test list) (keeps f (first (test f) (list_all test list) all)) (second (test f) (list_all test list) all)
      | false ↦ both (test f) (list_all test (changed change number list)) (first (test f) (list_all test list) all) (all_changed test change number list keeps (second (test f) (list_all test list) all))
    ]

pub all_left : (neighbours : List Neighbour) (clock client : ℕ) (list : List PendingFetch) → list_all (is_of neighbours clock) list ≡ true → list_all (is_of neighbours clock) (left client list) ≡ true
all_left neighbours clock client [] all = refl
all_left neighbours clock client (f ∷ list) all =
    both (is_of neighbours clock f) (list_all (is_of neighbours clock) (left client list)) (first (is_of neighbours clock f) (list_all (is_of neighbours clock) list) all) (all_left neighbours clock client list (second (is_of neighbours clock f) (list_all (is_of neighbours clock) list) all))

pub all_filtered : (test keep : PendingFetch → Bool) (list : List PendingFetch) → list_all test list ≡ true → list_all test (filter keep list) ≡ true
all_filtered test keep [] all = refl
all_filtered test keep (f ∷ list) all =
    elim (keep f) as (λ v. list_all test (if v then f ∷ filter keep list else filter keep list) ≡ true) [
      | true ↦ both (test f) (list_all test (filter keep list)) (first (test f) (list_all test list) all) (all_filtered test keep list (second (test f) (list_all test list) all))
      | false ↦ all_filtered test keep list (second (test f) (list_all test list) all)
    ]

pub all_more : (test : PendingFetch → Bool) (f : PendingFetch) (list : List PendingFetch) → test f ≡ true → list_all test list ≡ true → list_all test (list ++ f ∷ []) ≡ true
all_more test f [] good all = both (test f) true good refl
all_more test f (g ∷ list) good all =
    both (test g) (list_all test (list ++ f ∷ [])) (first (test g) (list_all test list) all) (all_more test f list good (second (test g) (list_all test list) all))

later : (neighbours : List Neighbour) (clock now : ℕ) (f : PendingFetch) → is_of neighbours clock f ≡ true → is_of neighbours (max clock now) f ≡ true
later neighbours clock now f of =
    both (matches neighbours f.round.peers) (nat_le f.round.start (max clock now)) (first (matches neighbours f.round.peers) (nat_le f.round.start clock) of)
    (let h : nat_le f.round.start clock ≡ true = second (matches neighbours f.round.peers) (nat_le f.round.start clock) of in grind (arith, nat_tests))

pub all_later : (neighbours : List Neighbour) (clock now : ℕ) (list : List PendingFetch) → list_all (is_of neighbours clock) list ≡ true → list_all (is_of neighbours (max clock now)) list ≡ true
all_later neighbours clock now [] all = refl
all_later neighbours clock now (f ∷ list) all =
    both (is_of neighbours (max clock now) f) (list_all (is_of neighbours (max clock now)) list) (later neighbours clock now f (first (is_of neighbours clock f) (list_all (is_of neighbours clock) list) all)) (all_later neighbours clock now list (second (is_of neighbours clock f) (list_all (is_of neighbours clock) list) all))

-- a round of the clock starts after all pending ones
pub starts_before : (neighbours : List Neighbour) (clock : ℕ) (list : List PendingFetch) → list_all (is_of neighbours clock) list ≡ true → list_all (λ (start : ℕ). nat_le start clock) (starts list) ≡ true
starts_before neighbours clock [] all = refl
starts_before neighbours clock (f ∷ list) all =
    both (nat_le f.round.start clock) (list_all (λ (start : ℕ). nat_le start clock) (starts list)) (second (matches neighbours f.round.peers) (nat_le f.round.start clock) (first (is_of neighbours clock f) (list_all (is_of neighbours clock) list) all)) (starts_before neighbours clock list (second (is_of neighbours clock f) (list_all (is_of neighbours clock) list) all))

-- each pending round matches the neighbours
pub fits_each : (neighbours : List Neighbour) (clock number : ℕ) (list : List PendingFetch) → list_all (is_of neighbours clock) list ≡ true → fits neighbours (fetch_of number list) ≡ true
fits_each neighbours clock number [] all = refl
fits_each neighbours clock number (f ∷ list) all =
    elim (f.number == number) as (λ v. fits neighbours (if v then Some f else fetch_of number list) ≡ true) [
      | true ↦ first (matches neighbours f.round.peers) (nat_le f.round.start clock) (first (is_of neighbours clock f) (list_all (is_of neighbours clock) list) all)
      | false ↦ fits_each neighbours clock number list (second (is_of neighbours clock f) (list_all (is_of neighbours clock) list) all)
    ]

-- the fetch with a number after a change that keeps numbers
pub fetch_changed : (change : PendingFetch → PendingFetch) (number : ℕ) (list : List PendingFetch) (f : PendingFetch) → ((g : PendingFetch) → (change g).number ≡ g.number) → fetch_of number list ≡ Some f → fetch_of number (changed change number list) ≡ Some (change f)
fetch_changed change number [] f same found = absurd cc
fetch_changed change number (g ∷ list) f same found =
    elim (g.number == number) as (λ v. ((g.number == number) ≡ v) → (if v then Some g else fetch_of number list) ≡ Some f → fetch_of number (if v then change g ∷ list else g ∷ changed change number list) ≡ Some (change f)) [
      | true ↦ λ e h. let t : ((change g).number == number) ≡ true = ap (λ (n : ℕ). n == number) (same g) ∙ e in rw t (ap (option_map change) h)
      | false ↦ λ e h. rw e (fetch_changed change number list f same h)
    ] refl found

of_next : (neighbours : List Neighbour) (clock : ℕ) (f : PendingFetch) → is_of neighbours clock f ≡ true → is_of neighbours clock (with_next f) ≡ true
of_next neighbours clock f of = elim (f.attempt == 65535) as (λ v. is_of neighbours clock (if v then f else record f { attempt = f.attempt + 1 }) ≡ true) [ true ↦ of | false ↦ of ]

pub fitting_next : (neighbours : List Neighbour) (clock number : ℕ) (list : List PendingFetch) → list_all (is_of neighbours clock) list ≡ true → list_all (is_of neighbours clock) (changed with_next number list) ≡ true
fitting_next neighbours clock number list all = all_changed (is_of neighbours clock) with_next number list (of_next neighbours clock) all
