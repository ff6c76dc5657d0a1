-- The index by client: how each change of the list affects the fetch number of a client, and the number of waiters.
use Rattle.std.proofs.Common.{◌≡◌, ℕ, zero, suc, ◌+◌, ◌<◌, ◌≤◌, Bool, true, false, not, eqb, nat_lt, List, [], ◌∷◌, ◌++◌, length, map, filter, get_or, refl, ap, sym, ◌∙◌, subst, arith, nat_eq, ◌==◌, ◌||◌, ◌&&◌, if◌then◌else◌, Some, None, Option, is_some}
use Rattle.std.proofs.lemmas.Bool.Decides.{nat_tests}
use Rattle.std.proofs.lemmas.List.{length-map}
use Rattle.std.proofs.lemmas.List.Folds.{list_any-append}
use Rattle.std.proofs.lemmas.Map.Made.{length-from_same_keys}
use Rattle.std.specs.Cmp.{nat_eq_equiv}
use Rattle.std.specs.List.{list_any, list_all, IsDistinct, AllByRecursion}
use Rattle.pending_fetch.specs.Fetches.{PendingFetch, numbers, all_waiters, waits, has_number, changed, with_waiter, without_client, left, without, fetch_of}
use Rattle.pending_fetch.specs.Indexes.{Waiting, number_for, waits_in, is_number, number_beside, is_sorted}
use Rattle.pending_fetch.proofs.Words.{none_later}

-- whether the client is one of these
abbrev is_in : ℕ → List ℕ → Bool
is_in other xs = list_any (λ waiter. waiter == other) xs

or_false : (a : Bool) → (a || false) ≡ a
or_false true = refl
or_false false = refl

or_parts : (a b : Bool) → (a || b) ≡ false → (a ≡ false) × (b ≡ false)
or_parts true b h = absurd cc
or_parts false b h = (refl, h)

-- a waiting client has a fetch number
pub some_number : (client : ℕ) (list : List PendingFetch) → is_some (number_for client list) ≡ waits client list
some_number client [] = refl
some_number client (f ∷ list) =
    elim (waits_in client f) as (λ v. waits_in client f ≡ v → is_some (if v then Some f.number else number_for client list) ≡ is_in client (f.waiters ++ all_waiters list)) [
      | true ↦ λ e. sym (list_any-append (λ waiter. waiter == client) f.waiters (all_waiters list) ∙ ap (λ v. v || is_in client (all_waiters list)) e)
      | false ↦ λ e. some_number client list ∙ sym (list_any-append (λ waiter. waiter == client) f.waiters (all_waiters list) ∙ ap (λ v. v || is_in client (all_waiters list)) e)
    ] refl

pub no_number : (client : ℕ) (list : List PendingFetch) → waits client list ≡ false → number_for client list ≡ None
no_number client list h = none_of (number_for client list) (some_number client list ∙ h)
  where
    none_of : (o : Option ℕ) → is_some o ≡ false → o ≡ None
    none_of None h = refl
    none_of (Some n) h = absurd cc

-- one more fetch
push_at : (list : List PendingFetch) (f : PendingFetch) (client : ℕ) → f.waiters ≡ client ∷ [] → waits client list ≡ false →
    (other : ℕ) → (if client == other then Some f.number else number_for other list) ≡ number_for other (list ++ f ∷ [])
push_at [] f client one h other = sym (ap (λ w. if is_in other w then Some f.number else None) one ∙ ap (λ v. if v then Some f.number else None) (or_false (client == other)))
push_at (x ∷ list) f client one h other =
    let parts = or_parts (is_in client x.waiters) (is_in client (all_waiters list)) (sym (list_any-append (λ waiter. waiter == client) x.waiters (all_waiters list)) ∙ h) in
    elim (eqb client other) as (λ v. eqb client other ≡ v → (if v then Some f.number else (if waits_in other x then Some x.number else number_for other list)) ≡ (if waits_in other x then Some x.number else number_for other (list ++ f ∷ []))) [
      | true ↦ λ e.
          let same : client ≡ other = grind (arith, nat_tests) in
          let none : waits_in other x ≡ false = ap (λ c. is_in c x.waiters) (sym same) ∙ parts.0 in
          ap (λ v. if v then Some f.number else number_for other list) (sym e) ∙ push_at list f client one parts.1 other ∙ sym (ap (λ v. if v then Some x.number else number_for other (list ++ f ∷ [])) none)
      | false ↦ λ e. ap (λ o. if waits_in other x then Some x.number else o) (ap (λ v. if v then Some f.number else number_for other list) (sym e) ∙ push_at list f client one parts.1 other)
    ] refl

pub wait_push : (list : List PendingFetch) (f : PendingFetch) (client : ℕ) → f.waiters ≡ client ∷ [] → waits client list ≡ false →
    (other : ℕ) → (if client == other then Some f.number else number_for other list) ≡ number_for other (list ++ f ∷ [])
wait_push = push_at

-- one more waiter
joined_here : (x : PendingFetch) (client other : ℕ) (o : Option ℕ) → (if client == other then Some x.number else (if waits_in other x then Some x.number else o)) ≡ (if waits_in other (with_waiter client x) then Some x.number else o)
joined_here x client other o =
    let joined : waits_in other (with_waiter client x) ≡ (waits_in other x || (client == other)) =
    list_any-append (λ waiter. waiter == other) x.waiters (client ∷ []) ∙ ap (λ v. waits_in other x || v) (or_false (client == other)) in
    turn (client == other) (waits_in other x) ∙ ap (λ v. if v then Some x.number else o) (sym joined)
  where
    turn : (a b : Bool) → (if a then Some x.number else (if b then Some x.number else o)) ≡ (if b || a then Some x.number else o)
    turn true true = refl
    turn true false = refl
    turn false true = refl
    turn false false = refl

pub wait_joined : (number client : ℕ) (list : List PendingFetch) → has_number number list ≡ true → waits client list ≡ false →
    (other : ℕ) → (if client == other then Some number else number_for other list) ≡ number_for other (changed (with_waiter client) number list)
wait_joined number client [] h k other = absurd cc
wait_joined number client (x ∷ list) h k other =
    let parts = or_parts (is_in client x.waiters) (is_in client (all_waiters list)) (sym (list_any-append (λ waiter. waiter == client) x.waiters (all_waiters list)) ∙ k) in
    elim (eqb x.number number) as (λ v. eqb x.number number ≡ v → (v || has_number number list) ≡ true →
    (if client == other then Some number else number_for other (x ∷ list)) ≡ number_for other (if v then with_waiter client x ∷ list else x ∷ changed (with_waiter client) number list)) [
      | true ↦ λ e has.
          let same : x.number ≡ number = grind (arith, nat_tests) in
          ap (λ n. if client == other then Some n else number_for other (x ∷ list)) (sym same) ∙ joined_here x client other (number_for other list)
      | false ↦ λ e has.
          elim (eqb client other) as (λ v. eqb client other ≡ v → (if v then Some number else (if waits_in other x then Some x.number else number_for other list)) ≡ (if waits_in other x then Some x.number else number_for other (changed (with_waiter client) number list))) [
            | true ↦ λ w.
                let same : client ≡ other = grind (arith, nat_tests) in
                let none : waits_in other x ≡ false = ap (λ c. is_in c x.waiters) (sym same) ∙ parts.0 in
                ap (λ v. if v then Some number else number_for other list) (sym w) ∙ wait_joined number client list has parts.1 other
                ∙ sym (ap (λ v. if v then Some x.number else number_for other (changed (with_waiter client) number list)) none)
            | false ↦ λ w. ap (λ o. if waits_in other x then Some x.number else o) (ap (λ v. if v then Some number else number_for other list) (sym w) ∙ wait_joined number client list has parts.1 other)
          ] refl
    ] refl h

-- a change that keeps number and waiters
pub record KeepsWaiters (change : PendingFetch → PendingFetch) : Type 0 where
  pub number : (f : PendingFetch) → (change f).number ≡ f.number
  pub waiters : (f : PendingFetch) → (change f).waiters ≡ f.waiters

pub wait_changed : (change : PendingFetch → PendingFetch) → KeepsWaiters change → (number : ℕ) (list : List PendingFetch) (other : ℕ) → number_for other (changed change number list) ≡ number_for other list
wait_changed change k number [] other = refl
wait_changed change k number (x ∷ list) other =
    elim (eqb x.number number) as (λ v. number_for other (if v then change x ∷ list else x ∷ changed change number list) ≡ number_for other (x ∷ list)) [
      | true ↦ ap (λ w. if is_in other w then Some (change x).number else number_for other list) (k.waiters x) ∙ ap (λ n. if waits_in other x then Some n else number_for other list) (k.number x)
      | false ↦ ap (λ o. if waits_in other x then Some x.number else o) (wait_changed change k number list other)
    ]

-- one client fewer
in_without : (client other : ℕ) (xs : List ℕ) → is_in other (without_client client xs) ≡ (if eqb client other then false else is_in other xs)
in_without client other [] = elim (eqb client other) as (λ v. false ≡ (if v then false else false)) [ true ↦ refl | false ↦ refl ]
in_without client other (x ∷ xs) =
    elim (eqb x client) as (λ v. eqb x client ≡ v → is_in other (if not v then x ∷ without_client client xs else without_client client xs) ≡ (if eqb client other then false else (eqb x other || is_in other xs))) [
      | true ↦ λ e. in_without client other xs ∙ elim (eqb client other) as (λ v. eqb client other ≡ v → (if v then false else is_in other xs) ≡ (if v then false else (eqb x other || is_in other xs))) [
        | true ↦ λ w. refl
        | false ↦ λ w. let apart : eqb x other ≡ false = grind (arith, nat_tests) in sym (ap (λ v. v || is_in other xs) apart)
      ] refl
      | false ↦ λ e. ap (λ v. eqb x other || v) (in_without client other xs) ∙ elim (eqb client other) as (λ v. eqb client other ≡ v → (eqb x other || (if v then false else is_in other xs)) ≡ (if v then false else (eqb x other || is_in other xs))) [
        | true ↦ λ w. let apart : eqb x other ≡ false = grind (arith, nat_tests) in ap (λ v. v || false) apart
        | false ↦ λ w. refl
      ] refl
    ] refl

pub wait_left : (client : ℕ) (list : List PendingFetch) (other : ℕ) → (if client == other then None else number_for other list) ≡ number_for other (left client list)
wait_left client [] other = elim (eqb client other) as (λ v. (if v then None else None) ≡ (let n : Option ℕ = None in n)) [ true ↦ refl | false ↦ refl ]
wait_left client (x ∷ list) other =
    sym (ap (λ v. if v then Some x.number else number_for other (left client list)) (in_without client other x.waiters)
    ∙ ap (λ o. if (if eqb client other then false else waits_in other x) then Some x.number else o) (sym (wait_left client list other))
    ∙ turn (eqb client other) (waits_in other x) x.number (number_for other list))
  where
    turn : (a b : Bool) (n : ℕ) (o : Option ℕ) → (if (if a then false else b) then Some n else (if a then None else o)) ≡ (if a then None else (if b then Some n else o))
    turn true b n o = refl
    turn false b n o = refl

all_others : (client : ℕ) (xs : List ℕ) → is_in client xs ≡ false → without_client client xs ≡ xs
all_others client [] h = refl
all_others client (x ∷ xs) h =
    let parts = or_parts (eqb x client) (is_in client xs) h in
    rw parts.0 (ap (λ l. x ∷ l) (all_others client xs parts.1))

pub nobody_left : (client : ℕ) (list : List PendingFetch) → waits client list ≡ false → left client list ≡ list
nobody_left client [] h = refl
nobody_left client (f ∷ list) h =
    let parts = or_parts (is_in client f.waiters) (is_in client (all_waiters list)) (sym (list_any-append (λ waiter. waiter == client) f.waiters (all_waiters list)) ∙ h) in
    ap (λ w. record f { waiters = w } ∷ left client list) (all_others client f.waiters parts.0) ∙ ap (λ l. f ∷ l) (nobody_left client list parts.1)

-- among distinct waiters none waits twice
in_back : (other : ℕ) (w b : List ℕ) → is_in other (w ++ b) ≡ false → is_in other b ≡ false
in_back other [] b h = h
in_back other (x ∷ w) b h = in_back other w b (or_parts (eqb x other) (is_in other (w ++ b)) h).1

none_in : (other x : ℕ) (xs : List ℕ) → eqb x other ≡ true → AllByRecursion (λ y. nat_eq x y ≡ false) xs → is_in other xs ≡ false
none_in other x [] t h = refl
none_in other x (y ∷ xs) t h =
    let here : eqb y other ≡ false = grind (arith, nat_tests, h.0) in
    rw (here, none_in other x xs t h.1) refl

in_front_only : (other : ℕ) (w b : List ℕ) → IsDistinct nat_eq (w ++ b) → is_in other w ≡ true → is_in other b ≡ false
unfolding IsDistinct
in_front_only other [] b h k = absurd cc
in_front_only other (x ∷ w) b h k =
    elim (eqb x other) as (λ v. eqb x other ≡ v → (v || is_in other w) ≡ true → is_in other b ≡ false) [
      | true ↦ λ t e. in_back other w b (none_in other x (w ++ b) t h.0)
      | false ↦ λ t e. in_front_only other w b h.1 e
    ] refl k

distinct_back : (w b : List ℕ) → IsDistinct nat_eq (w ++ b) → IsDistinct nat_eq b
unfolding IsDistinct
distinct_back [] b h = h
distinct_back (x ∷ w) b h = distinct_back w b h.1

has_found : (client n : ℕ) (list : List PendingFetch) → number_for client list ≡ Some n → has_number n list ≡ true
has_found client n [] h = absurd cc
has_found client n (f ∷ list) h =
    elim (waits_in client f) as (λ v. (if v then Some f.number else number_for client list) ≡ Some n → (eqb f.number n || has_number n list) ≡ true) [
      | true ↦ λ e. let same : f.number ≡ n = cc in let here : eqb f.number n ≡ true = grind (arith, nat_tests) in ap (λ v. v || has_number n list) here
      | false ↦ λ e. ap (λ v. eqb f.number n || v) (has_found client n list e) ∙ or_true (eqb f.number n)
    ] h
  where
    or_true : (v : Bool) → (v || true) ≡ true
    or_true true = refl
    or_true false = refl

pub waiting_has : (client n : ℕ) (list : List PendingFetch) → number_for client list ≡ Some n → has_number n list ≡ true
waiting_has = has_found

-- the fetch without the client
abbrev pub dropped : ℕ → PendingFetch → PendingFetch
dropped client fetch = record fetch { waiters = without_client client fetch.waiters }

pub left_one : (client n : ℕ) (list : List PendingFetch) → IsDistinct nat_eq (numbers list) → IsDistinct nat_eq (all_waiters list) → number_for client list ≡ Some n →
    changed (dropped client) n list ≡ left client list
unfolding IsDistinct
left_one client n [] d o h = absurd cc
left_one client n (f ∷ list) d o h =
    elim (waits_in client f) as (λ v. waits_in client f ≡ v → (if v then Some f.number else number_for client list) ≡ Some n → changed (dropped client) n (f ∷ list) ≡ left client (f ∷ list)) [
      | true ↦ λ e s.
          let same : f.number ≡ n = cc in
          let here : eqb f.number n ≡ true = grind (arith, nat_tests) in
          let none : waits client list ≡ false = in_front_only client f.waiters (all_waiters list) o e in
          ap (λ v. if v then dropped client f ∷ list else f ∷ changed (dropped client) n list) here ∙ ap (λ l. dropped client f ∷ l) (sym (nobody_left client list none))
      | false ↦ λ e s.
          let has : has_number n list ≡ true = has_found client n list s in
          let later : has_number f.number list ≡ false = none_later [] f list d in
          let apart : eqb f.number n ≡ false = elsewhere f.number n list has later in
          ap (λ v. if v then dropped client f ∷ list else f ∷ changed (dropped client) n list) apart
          ∙ ap (λ l. f ∷ l) (left_one client n list d.1 (distinct_back f.waiters (all_waiters list) o) s)
          ∙ ap (λ w. record f { waiters = w } ∷ left client list) (sym (all_others client f.waiters e))
    ] refl h
  where
    elsewhere : (a b : ℕ) (l : List PendingFetch) → has_number b l ≡ true → has_number a l ≡ false → eqb a b ≡ false
    elsewhere a b l h k =
        elim (eqb a b) as (λ v. eqb a b ≡ v → v ≡ false) [
          | true ↦ λ e. let same : a ≡ b = grind (arith, nat_tests) in let other : has_number b l ≡ false = sym (ap (λ x. has_number x l) same) ∙ k in absurd cc
          | false ↦ λ e. refl
        ] refl

-- a fetch closed
pub wait_without : (number : ℕ) (list : List PendingFetch) → IsDistinct nat_eq (all_waiters list) →
    (other : ℕ) → (if is_number number (number_for other list) then None else number_for other list) ≡ number_for other (without number list)
unfolding IsDistinct
wait_without number [] o other = refl
wait_without number (f ∷ list) o other =
    let rest = wait_without number list (distinct_back f.waiters (all_waiters list) o) other in
    elim (waits_in other f) as (λ v. waits_in other f ≡ v → (if is_number number (if v then Some f.number else number_for other list) then None else (if v then Some f.number else number_for other list)) ≡ number_for other (without number (f ∷ list))) [
      | true ↦ λ e.
          let none : waits other list ≡ false = in_front_only other f.waiters (all_waiters list) o e in
          elim (eqb f.number number) as (λ w. (if w then None else Some f.number) ≡ number_for other (if not w then f ∷ without number list else without number list)) [
            | true ↦ let gone : number_for other list ≡ None = no_number other list none in sym (sym rest ∙ ap (λ p. if is_number number p then None else p) gone)
            | false ↦ sym (ap (λ v. if v then Some f.number else number_for other (without number list)) e)
          ]
      | false ↦ λ e.
          elim (eqb f.number number) as (λ w. (if is_number number (number_for other list) then None else number_for other list) ≡ number_for other (if not w then f ∷ without number list else without number list)) [
            | true ↦ rest
            | false ↦ rest ∙ sym (ap (λ v. if v then Some f.number else number_for other (without number list)) e)
          ]
    ] refl

other_number : (number other : ℕ) (list : List PendingFetch) → has_number number list ≡ false → is_number number (number_for other list) ≡ false
other_number number other [] h = refl
other_number number other (f ∷ list) h =
    let parts = or_parts (eqb f.number number) (has_number number list) h in
    elim (waits_in other f) as (λ v. is_number number (if v then Some f.number else number_for other list) ≡ false) [
      | true ↦ parts.0
      | false ↦ other_number number other list parts.1
    ]

in_part : (other number : ℕ) (f : PendingFetch) (list : List PendingFetch) → fetch_of number list ≡ Some f → is_in other f.waiters ≡ true → waits other list ≡ true
in_part other number f [] e h = absurd cc
in_part other number f (x ∷ list) e h =
    list_any-append (λ waiter. waiter == other) x.waiters (all_waiters list)
    ∙ elim (eqb x.number number) as (λ v. (if v then Some x else fetch_of number list) ≡ Some f → (is_in other x.waiters || is_in other (all_waiters list)) ≡ true) [
      | true ↦ λ s. let same : x ≡ f = cc in ap (λ (g : PendingFetch). is_in other g.waiters || is_in other (all_waiters list)) same ∙ ap (λ v. v || is_in other (all_waiters list)) h
      | false ↦ λ s. ap (λ v. is_in other x.waiters || v) (in_part other number f list s h) ∙ or_true (is_in other x.waiters)
    ] e
  where
    or_true : (v : Bool) → (v || true) ≡ true
    or_true true = refl
    or_true false = refl

pub own_number : (number : ℕ) (f : PendingFetch) (list : List PendingFetch) → IsDistinct nat_eq (numbers list) → IsDistinct nat_eq (all_waiters list) → fetch_of number list ≡ Some f →
    (other : ℕ) → is_number number (number_for other list) ≡ is_in other f.waiters
unfolding IsDistinct
own_number number f [] d o h other = absurd cc
own_number number f (x ∷ list) d o h other =
    elim (eqb x.number number) as (λ v. eqb x.number number ≡ v → (if v then Some x else fetch_of number list) ≡ Some f → is_number number (number_for other (x ∷ list)) ≡ is_in other f.waiters) [
      | true ↦ λ e s.
          let same : x ≡ f = cc in
          let number_is : x.number ≡ number = grind (arith, nat_tests) in
          let none : has_number number list ≡ false = sym (ap (λ n. has_number n list) number_is) ∙ none_later [] x list d in
          elim (waits_in other x) as (λ v. is_number number (if v then Some x.number else number_for other list) ≡ v) [
            | true ↦ e
            | false ↦ other_number number other list none
          ] ∙ ap (λ (g : PendingFetch). is_in other g.waiters) same
      | false ↦ λ e s.
          elim (waits_in other x) as (λ v. waits_in other x ≡ v → is_number number (if v then Some x.number else number_for other list) ≡ is_in other f.waiters) [
            | true ↦ λ w.
                let none : waits other list ≡ false = in_front_only other x.waiters (all_waiters list) o w in
                e ∙ sym (not_there other number f list s none)
            | false ↦ λ w. own_number number f list d.1 (distinct_back x.waiters (all_waiters list) o) s other
          ] refl
    ] refl h
  where
    not_there : (other number : ℕ) (f : PendingFetch) (list : List PendingFetch) → fetch_of number list ≡ Some f → waits other list ≡ false → is_in other f.waiters ≡ false
    not_there other number f list e none =
        elim (is_in other f.waiters) as (λ v. is_in other f.waiters ≡ v → v ≡ false) [
          | true ↦ λ t. let there : waits other list ≡ true = in_part other number f list e t in absurd cc
          | false ↦ λ t. refl
        ] refl

-- the number of waiters
names : Waiting → List ℕ
names l = map (λ (pair : ℕ × ℕ). pair.0) l

names_beside : (l : Waiting) (other : ℕ) → list_any (nat_eq other) (names l) ≡ is_some (number_beside l other)
unfolding names
names_beside [] other = refl
names_beside (x ∷ l) other =
    elim (eqb x.0 other) as (λ v. eqb x.0 other ≡ v → (nat_eq other x.0 || list_any (nat_eq other) (names l)) ≡ is_some (if v then Some x.1 else number_beside l other)) [
      | true ↦ λ e. let here : nat_eq other x.0 ≡ true = grind (arith, nat_tests) in ap (λ v. v || list_any (nat_eq other) (names l)) here
      | false ↦ λ e. let here : nat_eq other x.0 ≡ false = grind (arith, nat_tests) in ap (λ v. v || list_any (nat_eq other) (names l)) here ∙ names_beside l other
    ] refl

names_apart : (x : ℕ) (l : Waiting) → list_all (λ (other : ℕ × ℕ). nat_lt x other.0) l ≡ true → AllByRecursion (λ y. nat_eq x y ≡ false) (names l)
unfolding names
names_apart x [] h = tt
names_apart x (y ∷ l) h =
    let here : nat_lt x y.0 ≡ true = grind arith in
    let rest : list_all (λ (other : ℕ × ℕ). nat_lt x other.0) l ≡ true = grind arith in
    let apart : nat_eq x y.0 ≡ false = grind (arith, nat_tests) in
    (apart, names_apart x l rest)

names_distinct : (l : Waiting) → is_sorted l ≡ true → IsDistinct nat_eq (names l)
unfolding IsDistinct names
names_distinct [] h = tt
names_distinct (x ∷ l) h =
    let above : list_all (λ (other : ℕ × ℕ). nat_lt x.0 other.0) l ≡ true = grind arith in
    let rest : is_sorted l ≡ true = grind arith in
    (names_apart x.0 l above, names_distinct l rest)

is_in-turned : (other : ℕ) (xs : List ℕ) → list_any (nat_eq other) xs ≡ is_in other xs
is_in-turned other [] = refl
is_in-turned other (x ∷ xs) =
    let here : nat_eq other x ≡ eqb x other = grind (arith, nat_tests) in
    ap (λ v. v || list_any (nat_eq other) xs) here ∙ ap (λ v. eqb x other || v) (is_in-turned other xs)

pub as_many : (l : Waiting) (list : List PendingFetch) → is_sorted l ≡ true → IsDistinct nat_eq (all_waiters list) → ((client : ℕ) → number_beside l client ≡ number_for client list) →
    length l ≡ length (all_waiters list)
unfolding names
as_many l list h o w =
    sym (length-map l (λ (pair : ℕ × ℕ). pair.0))
    ∙ length-from_same_keys nat_eq_equiv (names l) (all_waiters list) (names_distinct l h) o
    (λ q. names_beside l q ∙ ap is_some (w q) ∙ some_number q list ∙ sym (is_in-turned q (all_waiters list)))
