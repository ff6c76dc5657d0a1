-- How each change of the list affects the queue of its undecided rounds.
use Rattle.std.proofs.Common.{◌≡◌, ℕ, zero, suc, get_or, take, drop, ◌+◌, ◌<◌, ◌≤◌, Bool, true, false, not, eqb, nat_le, List, [], ◌∷◌, ◌++◌, length, map, filter, refl, ap, sym, ◌∙◌, subst, arith, nat_eq, ◌==◌, ◌||◌, ◌&&◌, if◌then◌else◌, Some, None}
use Rattle.std.specs.Prelude.{Option, Result, Ok, Err, IfSome}
use Rattle.std.specs.Option.{option_map}
use Rattle.std.specs.List.{list_any, list_all, find, IsDistinct, AllByRecursion}
use Rattle.std.specs.List.Sorted.{IsSearchInRange, IsBinarySearchResult}
use Rattle.std.specs.Ordering.{nat_cmp}
use Rattle.std.specs.Result.{result_ok}
use Rattle.std.proofs.lemmas.Cmp.{ranked}
use Rattle.std.proofs.lemmas.Bool.Decides.{nat_tests}
use Rattle.std.proofs.lemmas.Bool.{eqb-true}
use Rattle.std.proofs.lemmas.List.{length-append}
use Rattle.std.proofs.lemmas.List.Elements.{filter-append}
use Rattle.peer_select.specs.Poll.{Poll, decided, ended}
use Rattle.pending_fetch.specs.declared.undecided.Undecided.{Undecided}
use Rattle.pending_fetch.specs.Fetches.{PendingFetch, numbers, starts, fetch_of, has_number, changed, without, without_client, left, opened_fetch, with_end, with_waiter, with_next, is_due, first_due}
use Rattle.pending_fetch.specs.Legal.{IsLegal, is_rising}
use Rattle.pending_fetch.specs.Queue.{numbers_queued, as_undecided, queue_of, entry_of, entry_at, listed, dequeued, settled, first_of_queue, IsQueue}
use Rattle.pending_fetch.proofs.Words.{Keeps, none_later}
use Rattle.pending_fetch.specs.Bounds.{most_fetches}

nothing_more : (q : List Undecided) → q ++ [] ≡ [] ++ q
nothing_more [] = refl
nothing_more (e ∷ q) = ap (λ l. e ∷ l) (nothing_more q)

regroup : (a b c : List Undecided) → (a ++ b) ++ c ≡ a ++ (b ++ c)
regroup [] b c = refl
regroup (e ∷ a) b c = ap (λ l. e ∷ l) (regroup a b c)

dequeued-append : (number : ℕ) (a b : List Undecided) → dequeued number (a ++ b) ≡ dequeued number a ++ dequeued number b
dequeued-append number a b = filter-append (λ (entry : Undecided). not (entry.number == number)) a b

and_false : (b : Bool) → (b && false) ≡ false
and_false true = refl
and_false false = refl

entry_same : (g f : PendingFetch) → g.number ≡ f.number → g.round ≡ f.round → entry_of g ≡ entry_of f
entry_same g f n r =
    ap (λ k. if decided g.round then [] else (let e : Undecided = record { number = k; start = g.round.start } in e) ∷ []) n
    ∙ ap (λ (p : Poll). if decided p then [] else (let e : Undecided = record { number = f.number; start = p.start } in e) ∷ []) r

pub queue-cons : (f : PendingFetch) (list : List PendingFetch) → queue_of (f ∷ list) ≡ entry_of f ++ queue_of list
queue-cons f list = elim (decided f.round) as (λ v. map as_undecided (if not v then f ∷ filter (λ (g : PendingFetch). not (decided g.round)) list else filter (λ (g : PendingFetch). not (decided g.round)) list) ≡ (if v then [] else as_undecided f ∷ []) ++ queue_of list) [ true ↦ refl | false ↦ refl ]

pub queue-push : (list : List PendingFetch) (f : PendingFetch) → queue_of (list ++ f ∷ []) ≡ queue_of list ++ entry_of f
queue-push [] f = queue-cons f [] ∙ nothing_more (entry_of f)
queue-push (x ∷ list) f =
    queue-cons x (list ++ f ∷ []) ∙ ap (λ q. entry_of x ++ q) (queue-push list f)
    ∙ sym (regroup (entry_of x) (queue_of list) (entry_of f)) ∙ ap (λ q. q ++ entry_of f) (sym (queue-cons x list))

pub length-queue : (list : List PendingFetch) → length (queue_of list) ≤ length list
length-queue [] = omega arith
length-queue (f ∷ list) =
    let rest : length (queue_of list) ≤ length list = length-queue list in
    rw (queue-cons f list) (elim (decided f.round) as (λ v. length ((if v then [] else as_undecided f ∷ []) ++ queue_of list) ≤ length (f ∷ list)) [ true ↦ omega arith | false ↦ omega arith ])

-- ---- a change of the fetch of a number
dequeued-entry-other : (number : ℕ) (f : PendingFetch) → eqb f.number number ≡ false → dequeued number (entry_of f) ≡ entry_of f
dequeued-entry-other number f h = elim (decided f.round) as (λ v. dequeued number (if v then [] else as_undecided f ∷ []) ≡ (if v then [] else as_undecided f ∷ [])) [ true ↦ refl | false ↦ rw h refl ]

dequeued-entry-same : (number : ℕ) (f : PendingFetch) → eqb f.number number ≡ true → dequeued number (entry_of f) ≡ []
dequeued-entry-same number f h = elim (decided f.round) as (λ v. dequeued number (if v then [] else as_undecided f ∷ []) ≡ []) [ true ↦ refl | false ↦ rw h refl ]

dequeued-absent : (number : ℕ) (list : List PendingFetch) → has_number number list ≡ false → dequeued number (queue_of list) ≡ queue_of list
dequeued-absent number [] h = refl
dequeued-absent number (f ∷ list) h =
    let here : eqb f.number number ≡ false = grind arith in
    let there : has_number number list ≡ false = grind arith in
    ap (dequeued number) (queue-cons f list) ∙ dequeued-append number (entry_of f) (queue_of list)
    ∙ ap (λ q. q ++ dequeued number (queue_of list)) (dequeued-entry-other number f here)
    ∙ ap (λ q. entry_of f ++ q) (dequeued-absent number list there) ∙ sym (queue-cons f list)

settled-other : (o : Option Bool) (number : ℕ) (f : PendingFetch) (q : List Undecided) → eqb f.number number ≡ false → entry_of f ++ settled o number q ≡ settled o number (entry_of f ++ q)
settled-other None number f q h = refl
settled-other (Some true) number f q h = sym (dequeued-append number (entry_of f) q ∙ ap (λ e. e ++ dequeued number q) (dequeued-entry-other number f h))
settled-other (Some false) number f q h = refl

-- the fields of a fetch that a change must leave unchanged
entry_kept : (change : PendingFetch → PendingFetch) → Keeps change → (f : PendingFetch) → as_undecided (change f) ≡ as_undecided f
entry_kept change k f =
    let one : (change f).number ≡ f.number = k.number f in
    let two : (change f).round.start ≡ f.round.start = k.start f in
    ap (λ n. let e : Undecided = record { number = n; start = (change f).round.start } in e) one
    ∙ ap (λ s. let e : Undecided = record { number = f.number; start = s } in e) two

entry_after : (change : PendingFetch → PendingFetch) → Keeps change → ((f : PendingFetch) → decided f.round ≡ true → decided (change f).round ≡ true) →
    (number : ℕ) (f : PendingFetch) (list : List PendingFetch) → eqb f.number number ≡ true → has_number number list ≡ false →
    entry_of (change f) ++ queue_of list ≡ settled (Some (decided (change f).round)) number (entry_of f ++ queue_of list)
entry_after change k stays number f list here none =
    elim (decided (change f).round) as (λ v. decided (change f).round ≡ v → (if v then [] else as_undecided (change f) ∷ []) ++ queue_of list ≡ settled (Some v) number (entry_of f ++ queue_of list)) [
      | true ↦ λ e. sym (dequeued-append number (entry_of f) (queue_of list) ∙ ap (λ q. q ++ dequeued number (queue_of list)) (dequeued-entry-same number f here) ∙ dequeued-absent number list none)
      | false ↦ λ e. elim (decided f.round) as (λ w. decided f.round ≡ w → as_undecided (change f) ∷ queue_of list ≡ (if w then [] else as_undecided f ∷ []) ++ queue_of list) [
        | true ↦ λ w. absurd (let on : decided (change f).round ≡ true = stays f w in cc)
        | false ↦ λ w. ap (λ u. u ∷ queue_of list) (entry_kept change k f)
      ] refl
    ] refl

pub queue-changed : (change : PendingFetch → PendingFetch) → Keeps change → ((f : PendingFetch) → decided f.round ≡ true → decided (change f).round ≡ true) →
    (number : ℕ) (list : List PendingFetch) → IsDistinct nat_eq (numbers list) →
    queue_of (changed change number list) ≡ settled (option_map (λ (f : PendingFetch). decided (change f).round) (fetch_of number list)) number (queue_of list)
unfolding IsDistinct
queue-changed change k stays number [] d = refl
queue-changed change k stays number (f ∷ list) d =
    elim (eqb f.number number) as (λ v. eqb f.number number ≡ v → queue_of (if v then change f ∷ list else f ∷ changed change number list) ≡ settled (option_map (λ (g : PendingFetch). decided (change g).round) (if v then Some f else fetch_of number list)) number (queue_of (f ∷ list))) [
      | true ↦ λ e.
          let same : f.number ≡ number = eqb-true f.number number e in
          let none : has_number number list ≡ false = sym (ap (λ n. has_number n list) same) ∙ none_later [] f list d in
          queue-cons (change f) list ∙ entry_after change k stays number f list e none ∙ ap (settled (Some (decided (change f).round)) number) (sym (queue-cons f list))
      | false ↦ λ e.
          queue-cons f (changed change number list) ∙ ap (λ q. entry_of f ++ q) (queue-changed change k stays number list d.1)
          ∙ settled-other (option_map (λ (g : PendingFetch). decided (change g).round) (fetch_of number list)) number f (queue_of list) e
          ∙ ap (settled (option_map (λ (g : PendingFetch). decided (change g).round) (fetch_of number list)) number) (sym (queue-cons f list))
    ] refl

-- a change that leaves number and round
pub queue-same : (change : PendingFetch → PendingFetch) → ((f : PendingFetch) → (change f).number ≡ f.number) → ((f : PendingFetch) → (change f).round ≡ f.round) →
    (number : ℕ) (list : List PendingFetch) → queue_of (changed change number list) ≡ queue_of list
queue-same change n r number [] = refl
queue-same change n r number (f ∷ list) =
    elim (eqb f.number number) as (λ v. queue_of (if v then change f ∷ list else f ∷ changed change number list) ≡ queue_of (f ∷ list)) [
      | true ↦ queue-cons (change f) list ∙ ap (λ e. e ++ queue_of list) (entry_same (change f) f (n f) (r f)) ∙ sym (queue-cons f list)
      | false ↦ queue-cons f (changed change number list) ∙ ap (λ q. entry_of f ++ q) (queue-same change n r number list) ∙ sym (queue-cons f list)
    ]

pub queue-left : (client : ℕ) (list : List PendingFetch) → queue_of (left client list) ≡ queue_of list
queue-left client [] = refl
queue-left client (f ∷ list) =
    queue-cons (record f { waiters = without_client client f.waiters }) (left client list) ∙ ap (λ q. entry_of f ++ q) (queue-left client list) ∙ sym (queue-cons f list)

pub queue-without : (number : ℕ) (list : List PendingFetch) → queue_of (without number list) ≡ dequeued number (queue_of list)
queue-without number [] = refl
queue-without number (f ∷ list) =
    elim (eqb f.number number) as (λ v. eqb f.number number ≡ v → queue_of (if not v then f ∷ without number list else without number list) ≡ dequeued number (queue_of (f ∷ list))) [
      | true ↦ λ e. queue-without number list ∙ ap (λ q. q ++ dequeued number (queue_of list)) (sym (dequeued-entry-same number f e))
          ∙ sym (dequeued-append number (entry_of f) (queue_of list)) ∙ ap (dequeued number) (sym (queue-cons f list))
      | false ↦ λ e. queue-cons f (without number list) ∙ ap (λ q. entry_of f ++ q) (queue-without number list)
          ∙ ap (λ q. q ++ dequeued number (queue_of list)) (sym (dequeued-entry-other number f e))
          ∙ sym (dequeued-append number (entry_of f) (queue_of list)) ∙ ap (dequeued number) (sym (queue-cons f list))
    ] refl

-- the end of a round
pub ended_found : ((poll : Poll) → decided (ended poll) ≡ true) → (number : ℕ) (list : List PendingFetch) →
    (if has_number number list then Some true else None) ≡ option_map (λ (f : PendingFetch). decided (with_end f).round) (fetch_of number list)
ended_found over number [] = refl
ended_found over number (f ∷ list) =
    elim (eqb f.number number) as (λ v. (if v || has_number number list then Some true else None) ≡ option_map (λ (g : PendingFetch). decided (with_end g).round) (if v then Some f else fetch_of number list)) [
      | true ↦ ap (λ b. Some b) (sym (over f.round))
      | false ↦ ended_found over number list
    ]

-- ---- the first due fetch
none_due : (now start : ℕ) (list : List PendingFetch) → list_all (λ other. nat_le start other) (starts list) ≡ true → nat_le (start + 2000) now ≡ false → find (is_due now) list ≡ None
none_due now start [] h k = refl
none_due now start (f ∷ list) h k =
    let first : nat_le start f.round.start ≡ true = grind arith in
    let rest : list_all (λ other. nat_le start other) (starts list) ≡ true = grind arith in
    let early : nat_le (f.round.start + 2000) now ≡ false = grind arith in
    let here : is_due now f ≡ false = ap (λ v. not (decided f.round) && v) early ∙ and_false (not (decided f.round)) in
    rw here (none_due now start list rest k)

pub first-is : (now : ℕ) (list : List PendingFetch) → is_rising (starts list) ≡ true → first_of_queue now (queue_of list) ≡ first_due now list
first-is now [] h = refl
first-is now (f ∷ list) h =
    let later : list_all (λ other. nat_le f.round.start other) (starts list) ≡ true = grind arith in
    let rising : is_rising (starts list) ≡ true = grind arith in
    elim (decided f.round) as (λ v. first_of_queue now (map as_undecided (if not v then f ∷ filter (λ (g : PendingFetch). not (decided g.round)) list else filter (λ (g : PendingFetch). not (decided g.round)) list))
    ≡ option_map (λ (g : PendingFetch). g.number) (if not v && nat_le (f.round.start + 2000) now then Some f else find (is_due now) list)) [
      | true ↦ first-is now list rising
      | false ↦ elim (nat_le (f.round.start + 2000) now) as (λ v. nat_le (f.round.start + 2000) now ≡ v → (if v then Some f.number else None) ≡ option_map (λ (g : PendingFetch). g.number) (if v then Some f else find (is_due now) list)) [
        | true ↦ λ e. refl
        | false ↦ λ e. sym (ap (option_map (λ (g : PendingFetch). g.number)) (none_due now f.round.start list later e))
      ] refl
    ]

-- ---- the queue after each call
pub queue_after : (change : PendingFetch → PendingFetch) (number room after : ℕ) (old new : List PendingFetch) (queue more : List Undecided) (o : Option Bool) → Keeps change →
    ((f : PendingFetch) → decided f.round ≡ true → decided (change f).round ≡ true) → IsDistinct nat_eq (numbers old) → IsQueue room queue old → after ≡ room →
    new ≡ changed change number old → o ≡ option_map (λ (f : PendingFetch). decided (change f).round) (fetch_of number old) → more ≡ settled o number queue → IsQueue after more new
queue_after change number room after old new queue more o k stays d h same is found put = record {
  roomy = omega (arith, h.roomy);
  queue_is = put ∙ ap (settled o number) h.queue_is ∙ ap (λ p. settled p number (queue_of old)) found
      ∙ sym (queue-changed change k stays number old d) ∙ ap queue_of (sym is);
}

pub queue_closed : (number room after : ℕ) (old new : List PendingFetch) (queue more : List Undecided) → IsQueue room queue old → after ≡ room →
    new ≡ without number old → more ≡ dequeued number queue → IsQueue after more new
queue_closed number room after old new queue more h same is put = record {
  roomy = omega (arith, h.roomy);
  queue_is = put ∙ ap (dequeued number) h.queue_is ∙ sym (queue-without number old) ∙ ap queue_of (sym is);
}

pub queue_kept : (room : ℕ) (old new : List PendingFetch) (queue : List Undecided) → IsQueue room queue old → queue_of new ≡ queue_of old → IsQueue room queue new
queue_kept room old new queue h same = record { roomy = h.roomy; queue_is = h.queue_is ∙ sym same }

pub queue_opened : (room after : ℕ) (old new : List PendingFetch) (f : PendingFetch) (entry queue more : List Undecided) → IsQueue room queue old → most_fetches ≤ after →
    new ≡ old ++ f ∷ [] → entry ≡ entry_of f → more ≡ queue ++ entry → IsQueue after more new
queue_opened room after old new f entry queue more h roomy is same put = record {
  roomy = roomy;
  queue_is = put ∙ ap (λ q. q ++ entry) h.queue_is ∙ ap (λ e. queue_of old ++ e) same ∙ sym (queue-push old f) ∙ ap queue_of (sym is);
}

pub entry_listed : (number : ℕ) (key : List ℕ) (client : ℕ) (shared : Bool) (round : Poll) → listed (entry_at number round) ≡ entry_of (opened_fetch number key client shared round)
entry_listed number key client shared round =
    elim (decided round) as (λ v. listed (if v then None else Some (let e : Undecided = record { number = number; start = round.start } in e))
    ≡ (if v then [] else as_undecided (opened_fetch number key client shared round) ∷ [])) [ true ↦ refl | false ↦ refl ]

pub queue_seen : (room : ℕ) (queue : List Undecided) (a b : List PendingFetch) → a ≡ b → IsQueue room queue a → IsQueue room queue b
queue_seen room queue a b e h = record { roomy = h.roomy; queue_is = h.queue_is ∙ ap queue_of e }

is_under : (a b : ℕ) → nat_le b a ≡ false → a < b
is_under a b h = grind arith

pub queue_room : (room : ℕ) (queue : List Undecided) (list : List PendingFetch) → IsQueue room queue list → nat_le most_fetches (length list) ≡ false → length queue < most_fetches
queue_room room queue list h few =
    let under : length list < most_fetches = is_under (length list) most_fetches few in
    let short : length (queue_of list) ≤ length list = length-queue list in
    omega (arith, ap length h.queue_is)

-- ---- a binary search
pub found_entry : (queue : List Undecided) (number : ℕ) (r : Result ℕ ℕ) → IsSearchInRange r (length queue) → IsBinarySearchResult (λ (e : Undecided). nat_cmp e.number number) queue r →
    IfSome (result_ok r) (λ place. (place < length queue) × ((d : Undecided) → (get_or queue place d).number ≡ number))
found_entry queue number (Ok i) in_range equal = (in_range, λ d. ranked (get_or queue i d).number number _ (sym (equal d)))
found_entry queue number (Err i) in_range parted = tt

none_dequeued : (number x : ℕ) (queue : List Undecided) → x ≡ number → AllByRecursion (λ y. nat_eq x y ≡ false) (numbers_queued queue) → dequeued number queue ≡ queue
none_dequeued number x [] e h = refl
none_dequeued number x (u ∷ queue) e h =
    let here : eqb u.number number ≡ false = grind (arith, nat_tests, h.0) in
    rw here (ap (λ l. u ∷ l) (none_dequeued number x queue e h.1))

apart_at : (x : ℕ) (queue : List Undecided) (i : ℕ) (d : Undecided) → AllByRecursion (λ y. nat_eq x y ≡ false) (numbers_queued queue) → i < length queue → nat_eq x (get_or queue i d).number ≡ false
apart_at x [] i d h l = absurd (omega arith)
apart_at x (u ∷ queue) zero d h l = h.0
apart_at x (u ∷ queue) (suc i) d h l = apart_at x queue i d h.1 (omega arith)

cut_at : (queue : List Undecided) (number i n : ℕ) → n ≡ suc i → i < length queue → ((d : Undecided) → (get_or queue i d).number ≡ number) → IsDistinct nat_eq (numbers_queued queue) →
    take i queue ++ drop n queue ≡ dequeued number queue
unfolding IsDistinct
cut_at queue number i zero e l is d = absurd (omega arith)
cut_at [] number i (suc n) e l is d = absurd (omega arith)
cut_at (u ∷ queue) number zero (suc n) e l is d =
    let same : u.number ≡ number = is u in
    let here : eqb u.number number ≡ true = grind (arith, nat_tests) in
    let none : n ≡ 0 = omega arith in
    ap (λ k. drop k queue) none ∙ sym (none_dequeued number u.number queue same d.0) ∙ sym (ap (λ v. if not v then u ∷ dequeued number queue else dequeued number queue) here)
cut_at (u ∷ queue) number (suc i) (suc n) e l is d =
    let apart : nat_eq u.number (get_or queue i u).number ≡ false = apart_at u.number queue i u d.0 (omega arith) in
    let same : (get_or queue i u).number ≡ number = is u in
    let here : eqb u.number number ≡ false = ap (nat_eq u.number) (sym same) ∙ apart in
    ap (λ q. u ∷ q) (cut_at queue number i n (omega arith) (omega arith) is d.1) ∙ sym (ap (λ v. if not v then u ∷ dequeued number queue else dequeued number queue) here)

pub cut_dequeued : (queue : List Undecided) (number i : ℕ) → i < length queue → ((d : Undecided) → (get_or queue i d).number ≡ number) → IsDistinct nat_eq (numbers_queued queue) →
    take i queue ++ drop (i + 1) queue ≡ dequeued number queue
cut_dequeued queue number i l is d = cut_at queue number i (i + 1) (omega arith) l is d

entries_apart : (x : ℕ) (list : List PendingFetch) → AllByRecursion (λ y. nat_eq x y ≡ false) (numbers list) → AllByRecursion (λ y. nat_eq x y ≡ false) (numbers_queued (queue_of list))
entries_apart x [] h = tt
entries_apart x (f ∷ list) h =
    elim (decided f.round) as (λ v. AllByRecursion (λ y. nat_eq x y ≡ false) (numbers_queued (map as_undecided (if not v then f ∷ filter (λ (g : PendingFetch). not (decided g.round)) list else filter (λ (g : PendingFetch). not (decided g.round)) list)))) [
      | true ↦ entries_apart x list h.1
      | false ↦ (h.0, entries_apart x list h.1)
    ]

queue_distinct : (list : List PendingFetch) → IsDistinct nat_eq (numbers list) → IsDistinct nat_eq (numbers_queued (queue_of list))
unfolding IsDistinct
queue_distinct [] h = tt
queue_distinct (f ∷ list) h =
    elim (decided f.round) as (λ v. IsDistinct nat_eq (numbers_queued (map as_undecided (if not v then f ∷ filter (λ (g : PendingFetch). not (decided g.round)) list else filter (λ (g : PendingFetch). not (decided g.round)) list)))) [
      | true ↦ queue_distinct list h.1
      | false ↦ (entries_apart f.number list h.0, queue_distinct list h.1)
    ]

pub entries_distinct : (room : ℕ) (queue : List Undecided) (list : List PendingFetch) → IsQueue room queue list → IsDistinct nat_eq (numbers list) → IsDistinct nat_eq (numbers_queued queue)
entries_distinct room queue list h d = let P : List Undecided → Type 0 = λ q. IsDistinct nat_eq (numbers_queued q) in subst P (sym h.queue_is) (queue_distinct list d)

-- a decided fetch isn't in the queue
decided_absent : (number : ℕ) (f : PendingFetch) (list : List PendingFetch) → IsDistinct nat_eq (numbers list) → fetch_of number list ≡ Some f → decided f.round ≡ true → dequeued number (queue_of list) ≡ queue_of list
unfolding IsDistinct
decided_absent number f [] d e h = absurd cc
decided_absent number f (x ∷ list) d e h =
    ap (dequeued number) (queue-cons x list) ∙ dequeued-append number (entry_of x) (queue_of list)
    ∙ elim (eqb x.number number) as (λ v. eqb x.number number ≡ v → (if v then Some x else fetch_of number list) ≡ Some f → dequeued number (entry_of x) ++ dequeued number (queue_of list) ≡ entry_of x ++ queue_of list) [
      | true ↦ λ t s.
          let same : x ≡ f = cc in
          let over : decided x.round ≡ true = ap (λ (g : PendingFetch). decided g.round) same ∙ h in
          let number_is : x.number ≡ number = eqb-true x.number number t in
          let none : has_number number list ≡ false = sym (ap (λ n. has_number n list) number_is) ∙ none_later [] x list d in
          ap (λ q. q ++ dequeued number (queue_of list)) (dequeued-entry-same number x t) ∙ dequeued-absent number list none
          ∙ ap (λ v. (if v then [] else as_undecided x ∷ []) ++ queue_of list) (sym over)
      | false ↦ λ t s.
          ap (λ q. q ++ dequeued number (queue_of list)) (dequeued-entry-other number x t)
          ∙ ap (λ q. entry_of x ++ q) (decided_absent number f list d.1 s h)
    ] refl e
    ∙ sym (queue-cons x list)

pub queue_gone : (number room after : ℕ) (f : PendingFetch) (old new : List PendingFetch) (queue more : List Undecided) (over : Bool) → IsQueue room queue old → after ≡ room →
    IsDistinct nat_eq (numbers old) → fetch_of number old ≡ Some f → over ≡ decided f.round →
    new ≡ without number old → more ≡ (if over then queue else dequeued number queue) → IsQueue after more new
queue_gone number room after f old new queue more over h same d e o is put =
    queue_closed number room after old new queue more h same is (put ∙ elim over as (λ v. v ≡ decided f.round → (if v then queue else dequeued number queue) ≡ dequeued number queue) [
      | true ↦ λ t. h.queue_is ∙ sym (decided_absent number f old d e (sym t)) ∙ ap (dequeued number) (sym h.queue_is)
      | false ↦ λ t. refl
    ] o)

pub first_is : (queue : List Undecided) (first : Undecided) (number len : ℕ) → len ≡ length queue → (len == 0) ≡ false → first ≡ get_or queue 0 first → (first.number == number) ≡ true →
    (0 < length queue) × ((d : Undecided) → (get_or queue 0 d).number ≡ number)
first_is [] first number len l some e h = absurd cc
first_is (u ∷ queue) first number len l some e h = (omega arith, λ d. ap (λ (x : Undecided). x.number) (sym e) ∙ eqb-true first.number number h)

-- two lists, one after the other
entry_front : (a b : List Undecided) (i : ℕ) (d : Undecided) → i < length a → get_or (a ++ b) i d ≡ get_or a i d
entry_front [] b i d k = absurd (omega (arith, k))
entry_front (x ∷ a) b zero d k = refl
entry_front (x ∷ a) b (suc i) d k = entry_front a b i d (omega (arith, k))

entry_back : (a b : List Undecided) (i n : ℕ) (d : Undecided) → n ≡ length a + i → get_or (a ++ b) n d ≡ get_or b i d
entry_back [] b i n d e = let same : n ≡ i = omega (arith, e) in ap (λ k. get_or b k d) same
entry_back (x ∷ a) b i zero d e = absurd (omega (arith, e))
entry_back (x ∷ a) b i (suc n) d e = entry_back a b i n d (omega (arith, e))

pub index_front : (a b : List Undecided) (number i : ℕ) → (i < length a) × ((d : Undecided) → (get_or a i d).number ≡ number) → (i < length (a ++ b)) × ((d : Undecided) → (get_or (a ++ b) i d).number ≡ number)
index_front a b number i at = (omega (arith, at.0, length-append a b), λ d. ap (λ (u : Undecided). u.number) (entry_front a b i d at.0) ∙ at.1 d)

pub index_back : (a b : List Undecided) (number i : ℕ) → (i < length b) × ((d : Undecided) → (get_or b i d).number ≡ number) → (length a + i < length (a ++ b)) × ((d : Undecided) → (get_or (a ++ b) (length a + i) d).number ≡ number)
index_back a b number i at = (omega (arith, at.0, length-append a b), λ d. ap (λ (u : Undecided). u.number) (entry_back a b i (length a + i) d refl) ∙ at.1 d)
