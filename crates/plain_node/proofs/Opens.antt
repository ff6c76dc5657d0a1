-- The effect of opening a fetch.
use Rattle.std.proofs.Common.{◌≡◌, ◌≤◌, ◌==◌, ◌++◌, ◌∷◌, [], ℕ, max, nat_le, Bool, true, false, List, Some, length, refl, ap, sym, ◌∙◌, subst, arith}
use Rattle.std.specs.List.{list_all}
use Rattle.std.proofs.lemmas.Bool.Decides.{nat_tests}
use Rattle.std.proofs.lemmas.List.{length-map}
use Rattle.neighbours.specs.Rows.{Rows}
use Rattle.peer_select.specs.Poll.{Poll, begun, matches}
use Rattle.pending_fetch.specs.Numbers.{IsNext, is_taken, next_of}
use Rattle.pending_fetch.specs.Fetches.{PendingFetch, Fetches, starts, numbers, fetch_of, opened, opened_fetch, next_number}
use Rattle.pending_fetch.specs.Calls.{is_full}
use Rattle.node_words.specs.declared.action.Action.TheVariants.{Serve}
use Rattle.node_words.specs.declared.action.Answer.TheVariants.{Fail}
use Rattle.plain_node.specs.PlainNode.{PlainNode, at_clock, sending}
use Rattle.plain_node.specs.Sources.{decision_step}
use Rattle.plain_node.specs.Requests.{open_step, queries}
use Rattle.plain_node.specs.Fitting.{is_of, asked, asking}
use Rattle.plain_node.proofs.Keeps.{both, all_later, all_more, starts_before}
use Rattle.pending_fetch.specs.Bounds.{most_fetches}

pub begun_later : (rows : Rows) (shared : Bool) (clock start now : ℕ) (list : List PendingFetch) (round : Poll) → round ≡ begun rows shared start → start ≡ max clock now → list_all (is_of rows.neighbours clock) list ≡ true → list_all (λ (s : ℕ). nat_le s round.start) (starts list) ≡ true
begun_later rows shared clock start now list round e s h =
    let k : round.start ≡ max clock now = ap (λ (p : Poll). p.start) e ∙ s in
    subst (λ (m : ℕ). list_all (λ (s : ℕ). nat_le s m) (starts list) ≡ true) (sym k) (starts_before rows.neighbours (max clock now) list (all_later rows.neighbours clock now list h))

pub fitting_opened : (rows : Rows) (shared : Bool) (clock start now client : ℕ) (key : List ℕ) (fetches new : Fetches) (round : Poll) → round ≡ begun rows shared start → start ≡ max clock now → matches rows.neighbours round.peers ≡ true → new ≡ opened key client shared round fetches → list_all (is_of rows.neighbours clock) fetches.list ≡ true → list_all (is_of rows.neighbours start) new.list ≡ true
fitting_opened rows shared clock start now client key fetches new round e s m n h =
    let at : round.start ≡ start = ap (λ (p : Poll). p.start) e in
    let same : nat_le round.start start ≡ true = grind (arith, nat_tests) in
    let f = opened_fetch (next_number fetches) key client shared round in
    let here : is_of rows.neighbours start f ≡ true = both (matches rows.neighbours round.peers) (nat_le round.start start) m same in
    let others : list_all (is_of rows.neighbours start) fetches.list ≡ true = subst (λ (t : ℕ). list_all (is_of rows.neighbours t) fetches.list ≡ true) (sym s) (all_later rows.neighbours clock now fetches.list h) in
    subst (λ (x : Fetches). list_all (is_of rows.neighbours start) x.list ≡ true) (sym n) (all_more (is_of rows.neighbours start) f fetches.list here others)

-- the node after the fetch is entered
abbrev pub entered : PlainNode → ℕ → ℕ → List ℕ → Bool → PlainNode
entered old now client key shared = record (at_clock old now) { fetches = opened key client shared (begun old.rows shared (max old.clock now)) old.fetches }

-- the fetch that is entered
abbrev pub entrant : PlainNode → ℕ → ℕ → List ℕ → Bool → PendingFetch
entrant old now client key shared = opened_fetch (next_number old.fetches) key client shared (begun old.rows shared (max old.clock now))

pub opening_is : (old : PlainNode) (now client : ℕ) (key : List ℕ) (shared : Bool) → is_full old.fetches.list ≡ false → open_step (asked (at_clock old now) key shared) client key shared ≡ sending (asking (at_clock old now) (next_number old.fetches) key shared) (decision_step (asked (entered old now client key shared) key shared) (entrant old now client key shared))
unfolding open_step queries
opening_is old now client key true h = rw h refl
opening_is old now client key false h = rw h refl

pub turned_away : (old : PlainNode) (now client : ℕ) (key : List ℕ) (shared : Bool) → is_full old.fetches.list ≡ true → open_step (asked (at_clock old now) key shared) client key shared ≡ (asked (at_clock old now) key shared, Serve client (Fail 503) ∷ [])
unfolding open_step
turned_away old now client key true h = rw h refl
turned_away old now client key false h = rw h refl

fetch_last : (n : ℕ) (f : PendingFetch) (list : List PendingFetch) → is_taken (numbers list) n ≡ false → f.number ≡ n → fetch_of n (list ++ f ∷ []) ≡ Some f
fetch_last n f [] free is = let t : (f.number == n) ≡ true = grind (arith, nat_tests) in rw t refl
fetch_last n f (g ∷ list) free is =
    let other : (g.number == n) ≡ false = grind (arith, nat_tests) in
    let rest : is_taken (numbers list) n ≡ false = grind (arith, nat_tests) in
    rw other (fetch_last n f list rest is)

pub entered_found : (old : PlainNode) (now client : ℕ) (key : List ℕ) (shared : Bool) → ((taken : List ℕ) (last : ℕ) → length taken ≤ most_fetches → IsNext taken last (next_of taken last)) → length old.fetches.list ≤ most_fetches → fetch_of (next_number old.fetches) (asked (entered old now client key shared) key shared).fetches.list ≡ Some (entrant old now client key shared)
entered_found old now client key true law few =
    fetch_last (next_number old.fetches) (entrant old now client key true) old.fetches.list (law (numbers old.fetches.list) old.fetches.last (rw length-map few)).free refl
entered_found old now client key false law few =
    fetch_last (next_number old.fetches) (entrant old now client key false) old.fetches.list (law (numbers old.fetches.list) old.fetches.last (rw length-map few)).free refl

pub length_asking : (node : PlainNode) (number : ℕ) (key : List ℕ) (shared : Bool) → length node.rows.neighbours ≤ 64 → length (asking node number key shared) ≤ 64
unfolding queries
length_asking node number key true h = rw length-map h
length_asking node number key false h = omega arith
