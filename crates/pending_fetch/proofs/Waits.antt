-- The waiters after each change, and the tables that the rounds match.
use Rattle.std.proofs.Common.{◌≡◌, ℕ, ◌+◌, Bool, true, false, not, eqb, List, [], ◌∷◌, ◌++◌, length, refl, ap, sym, ◌∙◌, subst, arith, nat_eq, ◌==◌, ◌||◌, ◌&&◌, if◌then◌else◌, length-append, Some, None}
use Rattle.std.proofs.lemmas.Bool.Decides.{nat_tests}
use Rattle.std.proofs.lemmas.List.Folds.{list_any-append}
use Rattle.std.specs.List.{list_any, list_all, IsDistinct, AllByRecursion}
use Rattle.std.specs.Prelude.{Option}
use Rattle.neighbours.specs.declared.neighbour.Neighbour.{Neighbour}
use Rattle.peer_select.specs.Poll.{matches}
use Rattle.pending_fetch.specs.Fetches.{PendingFetch, all_waiters, waits, has_number, changed, with_waiter, without_client, left, without, fetch_of, waiters_of, waiters_in}
use Rattle.pending_fetch.specs.Calls.{fits}
use Rattle.pending_fetch.specs.Legal.{IsLegal}
use Rattle.pending_fetch.specs.Places.{IsPlace}
use Rattle.pending_fetch.proofs.Words.{all_waiters-append, all_waiters-joined, all_waiters-left, IsInserted, without-none, IsLegal-cut}
use Rattle.pending_fetch.proofs.Places.{place_at}

-- whether the client is one of these
abbrev is_in : ℕ → List ℕ → Bool
is_in other xs = list_any (λ waiter. waiter == other) xs

or_false : (a : Bool) → (a || false) ≡ a
or_false true = refl
or_false false = refl

or_true : (a : Bool) → (a || true) ≡ true
or_true true = refl
or_true false = refl

and_false : (a : Bool) → (a && false) ≡ false
and_false true = refl
and_false false = refl

and_true : (a : Bool) → (a && true) ≡ a
and_true true = refl
and_true false = refl

gone : (x client other : ℕ) (rest : Bool) → eqb x client ≡ true → (rest && not (eqb other client)) ≡ ((eqb x other || rest) && not (eqb other client))
gone x client other rest t =
    elim (eqb x other) as (λ v. eqb x other ≡ v → (rest && not (eqb other client)) ≡ ((v || rest) && not (eqb other client))) [
      | true ↦ λ s. let one : eqb other client ≡ true = grind (arith, nat_tests) in ap (λ v. rest && not v) one ∙ and_false rest ∙ sym (ap not one)
      | false ↦ λ s. refl
    ] refl

kept : (x client other : ℕ) (rest : Bool) → eqb x client ≡ false → (eqb x other || (rest && not (eqb other client))) ≡ ((eqb x other || rest) && not (eqb other client))
kept x client other rest t =
    elim (eqb x other) as (λ v. eqb x other ≡ v → (v || (rest && not (eqb other client))) ≡ ((v || rest) && not (eqb other client))) [
      | true ↦ λ s. let one : eqb other client ≡ false = grind (arith, nat_tests) in sym (ap not one)
      | false ↦ λ s. refl
    ] refl

pub waits-opened : (list : List PendingFetch) (f : PendingFetch) (client other : ℕ) → f.waiters ≡ client ∷ [] → waits other (list ++ f ∷ []) ≡ (waits other list || (client == other))
waits-opened list f client other one =
    ap (is_in other) (all_waiters-append list (f ∷ []) ∙ ap (λ l. all_waiters list ++ (l ++ [])) one)
    ∙ list_any-append (λ waiter. waiter == other) (all_waiters list) (client ∷ []) ∙ ap (λ v. waits other list || v) (or_false (client == other))

or_swap : (a b c : Bool) → (a || (c || b)) ≡ ((a || b) || c)
or_swap true b c = refl
or_swap false true true = refl
or_swap false true false = refl
or_swap false false true = refl
or_swap false false false = refl

in_inserted : (c other : ℕ) (old new : List ℕ) → IsInserted c old new → is_in other new ≡ (is_in other old || (c == other))
in_inserted c other old new i =
    ap (is_in other) i.is ∙ list_any-append (λ waiter. waiter == other) i.front (c ∷ i.back)
    ∙ or_swap (is_in other i.front) (is_in other i.back) (c == other)
    ∙ ap (λ v. v || (c == other)) (sym (ap (is_in other) i.was ∙ list_any-append (λ waiter. waiter == other) i.front i.back))

pub waits-joined : (list : List PendingFetch) (number client other : ℕ) → has_number number list ≡ true →
    waits other (changed (with_waiter client) number list) ≡ (waits other list || (client == other))
waits-joined list number client other h = in_inserted client other _ _ (all_waiters-joined client number list h)

in_without : (client other : ℕ) (xs : List ℕ) → is_in other (without_client client xs) ≡ (is_in other xs && not (other == client))
in_without client other [] = refl
in_without client other (x ∷ xs) =
    elim (eqb x client) as (λ v. eqb x client ≡ v → is_in other (if not v then x ∷ without_client client xs else without_client client xs) ≡ ((eqb x other || is_in other xs) && not (other == client))) [
      | true ↦ λ t. in_without client other xs ∙ gone x client other (is_in other xs) t
      | false ↦ λ t. ap (λ v. eqb x other || v) (in_without client other xs) ∙ kept x client other (is_in other xs) t
    ] refl

pub waits-left : (list : List PendingFetch) (client other : ℕ) → waits other (left client list) ≡ (waits other list && not (other == client))
waits-left list client other = ap (is_in other) (all_waiters-left client list) ∙ in_without client other (all_waiters list)

-- among distinct waiters none is in two parts of the list
none_of_all : (x other : ℕ) (xs : List ℕ) → AllByRecursion (λ y. nat_eq x y ≡ false) xs → is_in other xs ≡ true → eqb x other ≡ false
none_of_all x other [] h k = absurd cc
none_of_all x other (y ∷ xs) h k =
    elim (eqb y other) as (λ v. eqb y other ≡ v → (v || is_in other xs) ≡ true → eqb x other ≡ false) [
      | true ↦ λ t e. grind (arith, nat_tests, h.0)
      | false ↦ λ t e. none_of_all x other xs h.1 e
    ] refl k

in_later : (other : ℕ) (w b : List ℕ) → is_in other w ≡ true → is_in other (w ++ b) ≡ true
in_later other w b h = list_any-append (λ waiter. waiter == other) w b ∙ ap (λ v. v || is_in other b) h

none_in : (other x : ℕ) (xs : List ℕ) → eqb x other ≡ true → AllByRecursion (λ y. nat_eq x y ≡ false) xs → is_in other xs ≡ false
none_in other x [] t h = refl
none_in other x (y ∷ xs) t h =
    let here : eqb y other ≡ false = grind (arith, nat_tests, h.0) in
    rw (here, none_in other x xs t h.1) refl

in_back : (other : ℕ) (w b : List ℕ) → is_in other (w ++ b) ≡ false → is_in other b ≡ false
in_back other [] b h = h
in_back other (x ∷ w) b h = let rest : is_in other (w ++ b) ≡ false = grind arith in in_back other w b rest

in_front_only : (other : ℕ) (w b : List ℕ) → IsDistinct nat_eq (w ++ b) → is_in other w ≡ true → is_in other b ≡ false
unfolding IsDistinct
in_front_only other [] b h k = absurd cc
in_front_only other (x ∷ w) b h k =
    elim (eqb x other) as (λ v. eqb x other ≡ v → (v || is_in other w) ≡ true → is_in other b ≡ false) [
      | true ↦ λ t e. in_back other w b (none_in other x (w ++ b) t h.0)
      | false ↦ λ t e. in_front_only other w b h.1 e
    ] refl k

in_one_part : (other : ℕ) (a w b : List ℕ) → IsDistinct nat_eq (a ++ (w ++ b)) → is_in other w ≡ true → is_in other (a ++ b) ≡ false
unfolding IsDistinct
in_one_part other [] w b h k = in_front_only other w b h k
in_one_part other (x ∷ a) w b h k =
    let inside : is_in other (a ++ (w ++ b)) ≡ true =
    list_any-append (λ waiter. waiter == other) a (w ++ b) ∙ ap (λ v. is_in other a || v) (in_later other w b k) ∙ or_true (is_in other a) in
    rw (none_of_all x other (a ++ (w ++ b)) h.0 inside, in_one_part other a w b h.1 k) refl

in_cut : (other : ℕ) (a w b : List ℕ) → IsDistinct nat_eq (a ++ (w ++ b)) → is_in other (a ++ b) ≡ (is_in other (a ++ (w ++ b)) && not (is_in other w))
in_cut other a w b h =
    elim (is_in other w) as (λ v. is_in other w ≡ v → is_in other (a ++ b) ≡ (is_in other (a ++ (w ++ b)) && not v)) [
      | true ↦ λ t. in_one_part other a w b h t ∙ sym (and_false (is_in other (a ++ (w ++ b))))
      | false ↦ λ t.
          list_any-append (λ waiter. waiter == other) a b
          ∙ sym (and_true (is_in other (a ++ (w ++ b))) ∙ list_any-append (λ waiter. waiter == other) a (w ++ b)
          ∙ ap (λ v. is_in other a || v) (list_any-append (λ waiter. waiter == other) w b ∙ ap (λ v. v || is_in other b) t))
    ] refl

pub waits-closed : (list : List PendingFetch) (number other : ℕ) (f : PendingFetch) → IsLegal list → fetch_of number list ≡ Some f →
    waits other (without number list) ≡ (waits other list && not (list_any (λ waiter. waiter == other) f.waiters))
waits-closed list number other f h e =
    let p : IsPlace number list f = place_at list number f h e in
    let all : all_waiters list ≡ all_waiters p.before ++ (f.waiters ++ all_waiters p.after) = ap all_waiters p.split ∙ all_waiters-append p.before (f ∷ p.after) in
    let rest : all_waiters (without number list) ≡ all_waiters p.before ++ all_waiters p.after = ap all_waiters p.closed ∙ all_waiters-append p.before p.after in
    let P : List ℕ → Type 0 = λ l. IsDistinct nat_eq l in
    ap (is_in other) rest ∙ in_cut other (all_waiters p.before) f.waiters (all_waiters p.after) (subst P all h.once)
    ∙ ap (λ l. is_in other l && not (is_in other f.waiters)) (sym all)

no_number : (number : ℕ) (list : List PendingFetch) → fetch_of number list ≡ None → has_number number list ≡ false
no_number number [] e = refl
no_number number (f ∷ list) e =
    elim (eqb f.number number) as (λ v. (if v then Some f else fetch_of number list) ≡ None → (v || has_number number list) ≡ false) [
      | true ↦ λ s. absurd cc
      | false ↦ λ s. no_number number list s
    ] e

count_by : (list : List PendingFetch) (number : ℕ) (o : Option PendingFetch) → IsLegal list → fetch_of number list ≡ o →
    length (waiters_in o) + length (all_waiters (without number list)) ≡ length (all_waiters list)
count_by list number None h e = omega (arith, ap (λ l. length (all_waiters l)) (without-none number list (no_number number list e)))
count_by list number (Some f) h e =
    let p : IsPlace number list f = place_at list number f h e in
    let all : all_waiters list ≡ all_waiters p.before ++ (f.waiters ++ all_waiters p.after) = ap all_waiters p.split ∙ all_waiters-append p.before (f ∷ p.after) in
    let rest : all_waiters (without number list) ≡ all_waiters p.before ++ all_waiters p.after = ap all_waiters p.closed ∙ all_waiters-append p.before p.after in
    omega (
      arith,
      ap length all,
      ap length rest,
      length-append (all_waiters p.before) (f.waiters ++ all_waiters p.after),
      length-append f.waiters (all_waiters p.after),
      length-append (all_waiters p.before) (all_waiters p.after),
    )

pub waits-count : (list : List PendingFetch) (number : ℕ) → IsLegal list → length (waiters_of number list) + length (all_waiters (without number list)) ≡ length (all_waiters list)
waits-count list number h = count_by list number (fetch_of number list) h refl

-- rounds that match one table
abbrev is_of : List Neighbour → PendingFetch → Bool
is_of neighbours f = matches neighbours f.round.peers

pub fitting-each : (neighbours : List Neighbour) (list : List PendingFetch) (number : ℕ) → list_all (is_of neighbours) list ≡ true → fits neighbours (fetch_of number list) ≡ true
fitting-each neighbours [] number h = refl
fitting-each neighbours (f ∷ list) number h =
    let here : is_of neighbours f ≡ true = grind arith in
    let there : list_all (is_of neighbours) list ≡ true = grind arith in
    elim (eqb f.number number) as (λ v. fits neighbours (if v then Some f else fetch_of number list) ≡ true) [
      | true ↦ here
      | false ↦ fitting-each neighbours list number there
    ]

pub fitting-left : (neighbours : List Neighbour) (list : List PendingFetch) (client : ℕ) → list_all (is_of neighbours) list ≡ true → list_all (is_of neighbours) (left client list) ≡ true
fitting-left neighbours [] client h = refl
fitting-left neighbours (f ∷ list) client h =
    let here : is_of neighbours f ≡ true = grind arith in
    let there : list_all (is_of neighbours) list ≡ true = grind arith in
    rw (here, fitting-left neighbours list client there) refl

pub fitting-closed : (neighbours : List Neighbour) (list : List PendingFetch) (number : ℕ) → list_all (is_of neighbours) list ≡ true → list_all (is_of neighbours) (without number list) ≡ true
fitting-closed neighbours [] number h = refl
fitting-closed neighbours (f ∷ list) number h =
    let here : is_of neighbours f ≡ true = grind arith in
    let there : list_all (is_of neighbours) list ≡ true = grind arith in
    elim (eqb f.number number) as (λ v. list_all (is_of neighbours) (if not v then f ∷ without number list else without number list) ≡ true) [
      | true ↦ fitting-closed neighbours list number there
      | false ↦ rw (here, fitting-closed neighbours list number there) refl
    ]

pub fitting-changed : (neighbours : List Neighbour) (list : List PendingFetch) (number : ℕ) (change : PendingFetch → PendingFetch) →
    ((f : PendingFetch) → (change f).round.peers ≡ f.round.peers) → list_all (is_of neighbours) list ≡ true → list_all (is_of neighbours) (changed change number list) ≡ true
fitting-changed neighbours [] number change k h = refl
fitting-changed neighbours (f ∷ list) number change k h =
    let here : is_of neighbours f ≡ true = grind arith in
    let there : list_all (is_of neighbours) list ≡ true = grind arith in
    elim (eqb f.number number) as (λ v. list_all (is_of neighbours) (if v then change f ∷ list else f ∷ changed change number list) ≡ true) [
      | true ↦ rw (ap (matches neighbours) (k f) ∙ here, there) refl
      | false ↦ rw (here, fitting-changed neighbours list number change k there) refl
    ]

legal_without_by : (list : List PendingFetch) (number : ℕ) (o : Option PendingFetch) → IsLegal list → fetch_of number list ≡ o → IsLegal (without number list)
legal_without_by list number None h e =
    let P : List PendingFetch → Type 0 = λ l. IsLegal l in
    subst P (sym (without-none number list (no_number number list e))) h
legal_without_by list number (Some f) h e =
    let p : IsPlace number list f = place_at list number f h e in
    let P : List PendingFetch → Type 0 = λ l. IsLegal l in
    subst P (sym p.closed) (IsLegal-cut p.before f p.after (subst P p.split h))

pub IsLegal-without : (number : ℕ) (list : List PendingFetch) → IsLegal list → IsLegal (without number list)
IsLegal-without number list h = legal_without_by list number (fetch_of number list) h refl
