-- The end of a round: its misses, the list of fetches, and the due fetches.
use Rattle.std.proofs.Common.{◌≡◌, ◌≤◌, ◌<◌, ℕ, zero, suc, add-one, ◌+◌, Bool, true, false, not, eqb, List, [], ◌∷◌, ◌++◌, length, take, drop, Option, Some, None, refl, ap, sym, ◌∙◌, arith, if◌then◌else◌, length-append, append_assoc}
use Rattle.std.specs.Prelude.{slice_set}
use Rattle.std.proofs.lemmas.List.{length-map, length-set, append-nil}
use Rattle.std.specs.List.{filter}
use Rattle.neighbours.specs.declared.table.Mark.{Mark}
use Rattle.neighbours.specs.Rows.{Rows, mark_at, missed}
use Rattle.peer_select.specs.declared.reply.Reply.{Reply}
use Rattle.peer_select.specs.declared.reply.Source.{Source}
use Rattle.peer_select.specs.Poll.{Poll, has_reply, decided, ended}
use Rattle.pending_fetch.specs.Fetches.{PendingFetch, fetch_of, waiters_of, waiters_in, all_waiters, without, changed, with_end, is_due, all_due}
use Rattle.pending_fetch.specs.Places.{IsFirstDue}
use Rattle.node_words.specs.declared.action.Action.{Action}
use Rattle.plain_node.specs.PlainNode.{PlainNode, with_fetches, sending}
use Rattle.plain_node.specs.Sources.{attempt_step, decision_step, source_of}
use Rattle.plain_node.specs.Rounds.{missed_from, with_misses, expired_step, expired_steps, timer_step}
use Rattle.std.specs.List.{list_all}
use Rattle.neighbours.specs.declared.neighbour.Neighbour.{Neighbour}
use Rattle.pending_fetch.specs.Legal.{IsLegal}
use Rattle.node_words.specs.declared.action.Action.TheVariants.{Serve}
use Rattle.node_words.specs.declared.action.Answer.TheVariants.{Fail}
use Rattle.plain_node.specs.Fitting.{is_of}
use Rattle.plain_node.proofs.Keeps.{fetch_changed, all_changed}
use Rattle.plain_node.proofs.MessageLemmas.{fetch_of-number}
use Rattle.pending_fetch.specs.Bounds.{most_fetches, most_waiters}
use Rattle.plain_node.specs.Bounds.{most_actions}

after_skip : (replies : List Reply) (k n : ℕ) (marks : List Mark) → n < length marks → has_reply replies k ≡ true →
    take (suc n) marks ++ missed_from replies (k + 1) (drop (suc n) marks) ≡ take n marks ++ missed_from replies k (drop n marks)
after_skip replies k n [] lt h = absurd (omega (arith, lt))
after_skip replies k zero (m ∷ marks) lt h = rw h refl
after_skip replies k (suc n) (m ∷ marks) lt h = ap (λ l. m ∷ l) (after_skip replies k n marks (omega (arith, lt)) h)

after_miss : (replies : List Reply) (k n : ℕ) (marks : List Mark) → n < length marks → has_reply replies k ≡ false →
    take (suc n) (slice_set marks n (missed (mark_at marks n))) ++ missed_from replies (k + 1) (drop (suc n) (slice_set marks n (missed (mark_at marks n))))
    ≡ take n marks ++ missed_from replies k (drop n marks)
after_miss replies k n [] lt h = absurd (omega (arith, lt))
after_miss replies k zero (m ∷ marks) lt h = rw h refl
after_miss replies k (suc n) (m ∷ marks) lt h = ap (λ l. m ∷ l) (after_miss replies k n marks (omega (arith, lt)) h)

-- the neighbour at place n has a reply: nothing is written there
skipped : (replies : List Reply) (n next : ℕ) (marks : List Mark) → n < length marks → has_reply replies n ≡ true → next ≡ n + 1 →
    take next marks ++ missed_from replies next (drop next marks) ≡ take n marks ++ missed_from replies n (drop n marks)
skipped replies n next marks lt h e =
    let up : next ≡ suc n = e ∙ add-one n in
    ap (λ k. take k marks ++ missed_from replies next (drop k marks)) up ∙ ap (λ k. take (suc n) marks ++ missed_from replies k (drop (suc n) marks)) e ∙ after_skip replies n n marks lt h

-- it has none: its mark gets a miss
silent : (replies : List Reply) (n next : ℕ) (marks after : List Mark) → n < length marks → has_reply replies n ≡ false → after ≡ slice_set marks n (missed (mark_at marks n)) → next ≡ n + 1 →
    take next after ++ missed_from replies next (drop next after) ≡ take n marks ++ missed_from replies n (drop n marks)
silent replies n next marks after lt h s e =
    let up : next ≡ suc n = e ∙ add-one n in
    ap (λ k. take k after ++ missed_from replies next (drop k after)) up ∙ ap (λ k. take (suc n) after ++ missed_from replies k (drop (suc n) after)) e ∙ ap (λ l. take (suc n) l ++ missed_from replies (n + 1) (drop (suc n) l)) s ∙ after_miss replies n n marks lt h

-- either way one more index is done
pub missed_more : (replies : List Reply) (n next : ℕ) (marks after : List Mark) → n < length marks →
    after ≡ (if has_reply replies n then marks else slice_set marks n (missed (mark_at marks n))) → next ≡ n + 1 →
    take next after ++ missed_from replies next (drop next after) ≡ take n marks ++ missed_from replies n (drop n marks)
missed_more replies n next marks after lt is e =
    elim (has_reply replies n) as (λ v. has_reply replies n ≡ v → after ≡ (if v then marks else slice_set marks n (missed (mark_at marks n))) →
    take next after ++ missed_from replies next (drop next after) ≡ take n marks ++ missed_from replies n (drop n marks)) [
      | true ↦ λ h s. rw s (skipped replies n next marks lt h e)
      | false ↦ λ h s. silent replies n next marks after lt h s e
    ] refl is

-- the number of marks stays the same
pub as_many : (b : Bool) (n : ℕ) (mark : Mark) (marks : List Mark) → length (if b then marks else slice_set marks n mark) ≡ length marks
as_many true n mark marks = refl
as_many false n mark marks = length-set marks n mark

-- past the last index nothing is left
pub all_done : (replies : List Reply) (k n : ℕ) (marks : List Mark) → length marks ≤ n → take n marks ++ missed_from replies k (drop n marks) ≡ marks
all_done replies k zero [] h = refl
all_done replies k (suc n) [] h = refl
all_done replies k zero (m ∷ marks) h = absurd (omega (arith, h))
all_done replies k (suc n) (m ∷ marks) h = ap (λ l. m ∷ l) (all_done replies k n marks (omega (arith, h)))

pub rows_is : (rows old : Rows) (marks : List Mark) → rows.neighbours ≡ old.neighbours → rows.keys ≡ old.keys → rows.marks ≡ marks → rows ≡ record old { marks = marks }
rows_is rows old marks a b c = rw (← a, ← b, ← c) refl

-- the end of a round equals counting its misses, ending it and deciding
pub expired_at : (old counted ended : PlainNode) (number : ℕ) (fetch : PendingFetch) →
    counted ≡ with_misses old fetch.round.replies → ended ≡ with_fetches counted (changed with_end number counted.fetches.list) →
    fetch_of number old.fetches.list ≡ Some fetch →
    (fetch_of number ended.fetches.list ≡ Some (with_end fetch)) × (decision_step ended (with_end fetch) ≡ expired_step old (Some fetch))
unfolding expired_step
expired_at old counted ended number fetch m e found =
    let there : fetch_of number counted.fetches.list ≡ Some fetch = ap (λ (p : PlainNode). fetch_of number p.fetches.list) m ∙ found in
    let named : fetch.number ≡ number = fetch_of-number number old.fetches.list fetch found in (
      rw e (fetch_changed with_end number counted.fetches.list fetch (λ g. refl) there),
      rw (e, m, ← named) refl,
    )

-- the waiters of a fetch stay the same at the end of its round
pub waiters_of-ended : (number : ℕ) (list : List PendingFetch) → waiters_of number (changed with_end number list) ≡ waiters_of number list
waiters_of-ended number [] = refl
waiters_of-ended number (g ∷ list) =
    elim (eqb g.number number) as (λ v. eqb g.number number ≡ v → waiters_of number (if v then with_end g ∷ list else g ∷ changed with_end number list) ≡ waiters_in (if v then Some g else fetch_of number list)) [
      | true ↦ λ t. rw t refl
      | false ↦ λ t. rw t (waiters_of-ended number list)
    ] refl

of_end : (neighbours : List Neighbour) (clock : ℕ) (f : PendingFetch) → is_of neighbours clock f ≡ true → is_of neighbours clock (with_end f) ≡ true
of_end neighbours clock f h =
    elim (decided f.round) as (λ v. is_of neighbours clock (record f { round = if v then f.round else record f.round { expired = true } }) ≡ true) [
      | true ↦ h
      | false ↦ h
    ]

-- the end of a round keeps its neighbours and its start
pub fitting_end : (neighbours : List Neighbour) (clock number : ℕ) (list : List PendingFetch) → list_all (is_of neighbours clock) list ≡ true → list_all (is_of neighbours clock) (changed with_end number list) ≡ true
fitting_end neighbours clock number list all = all_changed (is_of neighbours clock) with_end number list (of_end neighbours clock) all

without-ended : (number : ℕ) (list : List PendingFetch) → without number (changed with_end number list) ≡ without number list
without-ended number [] = refl
without-ended number (g ∷ list) =
    elim (eqb g.number number) as (λ v. eqb g.number number ≡ v → without number (if v then with_end g ∷ list else g ∷ changed with_end number list) ≡ (if not v then g ∷ without number list else without number list)) [
      | true ↦ λ t. rw t refl
      | false ↦ λ t. rw t (ap (λ l. g ∷ l) (without-ended number list))
    ] refl

-- the end of the first due round leaves the other due fetches, and no more waiters than were not answered
pub record HasExpired (node next : PlainNode) (number : ℕ) (sent : List Action) : Type 0 where
  pub due : all_due node.clock node.fetches.list ≡ number ∷ all_due next.clock next.fetches.list
  pub room : length sent + length (all_waiters next.fetches.list) ≤ 1 + length (all_waiters node.fetches.list)

tried_one : (node ended : PlainNode) (number : ℕ) (fetch : PendingFetch) (source : Option Source) → fetch.number ≡ number → ended.clock ≡ node.clock → ended.fetches.list ≡ changed with_end number node.fetches.list →
    all_due node.clock node.fetches.list ≡ number ∷ all_due node.clock (without number node.fetches.list) → all_due node.clock node.fetches.list ≡ number ∷ all_due node.clock (changed with_end number node.fetches.list) →
    waiters_of number node.fetches.list ≡ fetch.waiters → all_waiters (changed with_end number node.fetches.list) ≡ all_waiters node.fetches.list →
    length (waiters_of number node.fetches.list) + length (all_waiters (without number node.fetches.list)) ≡ length (all_waiters node.fetches.list) →
    HasExpired node (attempt_step ended 503 (with_end fetch) source).0 number (attempt_step ended 503 (with_end fetch) source).1
unfolding attempt_step
tried_one node ended number fetch (Some source) named clock list closing expiring waiting kept count =
    let waits : length (all_waiters ended.fetches.list) ≡ length (all_waiters node.fetches.list) = ap (λ l. length (all_waiters l)) list ∙ ap length kept in
    record { due = rw (clock, list) expiring; room = omega (arith, waits) }
tried_one node ended number fetch None named clock list closing expiring waiting kept count =
    let shut : without fetch.number ended.fetches.list ≡ without number node.fetches.list = ap (λ n. without n ended.fetches.list) named ∙ ap (without number) list ∙ without-ended number node.fetches.list in
    let waits : length (all_waiters (without fetch.number ended.fetches.list)) ≡ length (all_waiters (without number node.fetches.list)) = ap (λ l. length (all_waiters l)) shut in
    record { due = rw (clock, shut) closing; room = omega (arith, waits, count, ap length waiting, length-map fetch.waiters (λ (client : ℕ). Serve client (Fail 503))) }

pub expired_one : (node : PlainNode) (number : ℕ) (w : IsFirstDue node.clock number node.fetches.list) → ((poll : Poll) → decided (ended poll) ≡ true) →
    all_waiters (changed with_end number node.fetches.list) ≡ all_waiters node.fetches.list →
    length (waiters_of number node.fetches.list) + length (all_waiters (without number node.fetches.list)) ≡ length (all_waiters node.fetches.list) →
    HasExpired node (expired_step node (Some w.fetch)).0 number (expired_step node (Some w.fetch)).1
unfolding expired_step decision_step
expired_one node number w over kept count =
    let after : PlainNode = with_fetches (with_misses node w.fetch.round.replies) (changed with_end w.fetch.number node.fetches.list) in
    rw (over w.fetch.round)
    (tried_one node after number w.fetch (source_of after (with_end w.fetch)) w.place.here refl (ap (λ n. changed with_end n node.fetches.list) w.place.here) w.closing w.expiring w.place.waiting kept count)

-- the progress of a tick: expiring what is left gives the result of the whole tick, and there is room for its actions
pub record IsRunning (start node : PlainNode) (out : List Action) : Type 0 where
  pub plain : (expired_steps node (all_due node.clock node.fetches.list)).0 ≡ (timer_step start).0
  pub actions : out ++ (expired_steps node (all_due node.clock node.fetches.list)).1 ≡ (timer_step start).1
  pub room : length out + (length (all_due node.clock node.fetches.list) + length (all_waiters node.fetches.list)) ≤ most_fetches + most_waiters

steps_one : (node next : PlainNode) (number : ℕ) (fetch : PendingFetch) (rest : List ℕ) → fetch_of number node.fetches.list ≡ Some fetch → next ≡ (expired_step node (Some fetch)).0 →
    expired_steps node (number ∷ rest) ≡ sending (expired_step node (Some fetch)).1 (expired_steps next rest)
steps_one node next number fetch rest found e = rw (found, e) refl

pub running_more : (start node next : PlainNode) (out after sent : List Action) (number : ℕ) (fetch : PendingFetch) → fetch_of number node.fetches.list ≡ Some fetch →
    next ≡ (expired_step node (Some fetch)).0 → sent ≡ (expired_step node (Some fetch)).1 → after ≡ out ++ sent → HasExpired node next number sent → IsRunning start node out → IsRunning start next after
running_more start node next out after sent number fetch found e s a h r =
    let rest : PlainNode × List Action = expired_steps next (all_due next.clock next.fetches.list) in
    let steps : expired_steps node (all_due node.clock node.fetches.list) ≡ sending sent rest =
    ap (expired_steps node) h.due ∙ steps_one node next number fetch (all_due next.clock next.fetches.list) found e ∙ ap (λ l. sending l rest) (sym s) in
    record {
      plain = sym (ap (λ step. step.0) steps) ∙ r.plain;
      actions = ap (λ l. l ++ rest.1) a ∙ append_assoc out sent rest.1 ∙ sym (ap (λ step. out ++ step.1) steps) ∙ r.actions;
      room = omega (arith, ap length a, length-append out sent, ap length h.due, h.room, r.room);
    }

length-filter : (test : PendingFetch → Bool) (list : List PendingFetch) → length (filter test list) ≤ length list
length-filter test [] = omega arith
length-filter test (f ∷ list) =
    elim (test f) as (λ v. length (if v then f ∷ filter test list else filter test list) ≤ length (f ∷ list)) [
      | true ↦ omega (arith, length-filter test list)
      | false ↦ omega (arith, length-filter test list)
    ]

pub running_first : (start node : PlainNode) (out : List Action) → node ≡ start → out ≡ [] → IsLegal node.fetches.list → IsRunning start node out
unfolding timer_step
running_first start node out e none legal =
    let few : length (all_due node.clock node.fetches.list) ≤ length node.fetches.list = omega (arith, length-filter (is_due node.clock) node.fetches.list, length-map (filter (is_due node.clock) node.fetches.list) (λ (f : PendingFetch). f.number)) in
    record {
      plain = ap (λ (n : PlainNode). (expired_steps n (all_due n.clock n.fetches.list)).0) e;
      actions = rw none (ap (λ (n : PlainNode). (expired_steps n (all_due n.clock n.fetches.list)).1) e);
      room = omega (arith, ap length none, few, legal.few, legal.uncrowded);
    }

-- if nothing is due any more, the tick is over
pub running_last : (start node : PlainNode) (out : List Action) → all_due node.clock node.fetches.list ≡ [] → IsRunning start node out → (node ≡ (timer_step start).0) × (out ≡ (timer_step start).1)
running_last start node out none r = (
  sym (ap (λ numbers. (expired_steps node numbers).0) none) ∙ r.plain,
  sym (append-nil out) ∙ sym (ap (λ numbers. out ++ (expired_steps node numbers).1) none) ∙ r.actions,
)

pub expired_now : (node next : PlainNode) (number : ℕ) (w : IsFirstDue node.clock number node.fetches.list) → ((poll : Poll) → decided (ended poll) ≡ true) →
    all_waiters (changed with_end number node.fetches.list) ≡ all_waiters node.fetches.list →
    length (waiters_of number node.fetches.list) + length (all_waiters (without number node.fetches.list)) ≡ length (all_waiters node.fetches.list) →
    next ≡ (expired_step node (Some w.fetch)).0 → HasExpired node next number (expired_step node (Some w.fetch)).1
expired_now node next number w over kept count e = rw e (expired_one node number w over kept count)

pub fewer_due : (node next : PlainNode) (number : ℕ) (sent : List Action) → HasExpired node next number sent → length (all_due next.clock next.fetches.list) < length (all_due node.clock node.fetches.list)
fewer_due node next number sent h = omega (arith, ap length h.due)

pub room_left : (start node : PlainNode) (out : List Action) (number : ℕ) → length (waiters_of number node.fetches.list) + length (all_waiters (without number node.fetches.list)) ≡ length (all_waiters node.fetches.list) →
    IsRunning start node out → length out + 1 + length (waiters_of number node.fetches.list) ≤ most_actions
room_left start node out number count r = omega (arith, r.room, count)
