-- What is done of a fetch that has landed, until it is over: what must not be lost, and what is nothing.
use Rattle.std.proofs.Common.{◌≡◌, ◌==◌, ℕ, ◌+◌, List, [], ◌∷◌, ◌++◌, Option, Bool, true, false, not, ◌&&◌, ◌||◌, cond, arith, count_by, refl, sym, ◌∙◌, ap, subst}
use Rattle.std.proofs.lemmas.Bool.{eqb-true}
use Rattle.fetch_life.specs.declared.facts.Failure.{Failure}
use Rattle.fetch_life.specs.declared.facts.Fault.{Fault}
use Rattle.fetch_life.specs.declared.facts.Fault.TheVariants as faults
use Rattle.fetch_life.specs.declared.facts.Page.{Page}
use Rattle.fetch_life.specs.declared.facts.Source.{Source}
use Rattle.fetch_life.specs.declared.facts.Source.TheVariants.{Origin, Parent, Sibling}
use Rattle.fetch_life.specs.declared.facts.End.{End}
use Rattle.fetch_life.specs.declared.facts.End.TheVariants as ends
use Rattle.fetch_life.specs.declared.commands.Brought.{Brought}
use Rattle.fetch_life.specs.declared.commands.Brought.TheVariants.{Nothing}
use Rattle.fetch_life.specs.declared.commands.Count.{Count}
use Rattle.fetch_life.specs.declared.commands.Supplier.{Supplier}
use Rattle.fetch_life.specs.declared.commands.Supplier.TheVariants as suppliers
use Rattle.fetch_life.specs.declared.commands.Command.{Command}
use Rattle.fetch_life.specs.declared.commands.Command.TheVariants as does
use Rattle.fetch_life.specs.declared.events.Event.{Event}
use Rattle.fetch_life.specs.declared.events.Event.TheVariants as events
use Rattle.fetch_life.specs.declared.stages.Exchange.{Exchange}
use Rattle.fetch_life.specs.declared.stages.Fetch.{Fetch}
use Rattle.fetch_life.specs.declared.stages.Flight.{Flight}
use Rattle.fetch_life.specs.declared.stages.Landing.{Landing}
use Rattle.fetch_life.specs.declared.stages.Stage.{Stage}
use Rattle.fetch_life.specs.declared.stages.Stage.TheVariants as stages
use Rattle.fetch_life.specs.Table.{Turn, turn, listed, lands, count_of, remakes, hands_in, brought, object, is_kept, is_replaced, is_for_all, is_origin, is_error, is_loss, is_lost, is_cut, is_connect, is_too_large, is_misanswer, is_gone, is_superseded, is_own_supplier, supersedes, supplier_of, locked_at, broken_off}
use Rattle.fetch_life.specs.Runs.{fetch_at, after, orders}
use Rattle.fetch_life.specs.Laws.{one, hands, comes_from, is_object_one, is_stale_one, is_shelve, is_unshelve, is_on_shelf, is_ask_no_more, is_note_changed, is_over, is_in_flight, is_from_origin, is_outage, is_server_error, is_bad_answer, is_too_long, says_new, finds_other, tries}
use Rattle.fetch_life.proofs.Measures.{due_at}
use Rattle.fetch_life.proofs.Walk.{split}
use Rattle.fetch_life.proofs.Induction.{count_append}
use Rattle.fetch_life.proofs.Handing.{on_shelf, hands_asked, hands_noted, hands_count, hands_over, shelves_other}
use Rattle.fetch_life.proofs.Bringing.{same_outage}
use Rattle.fetch_life.proofs.Steps.{same_origin}
use Rattle.fetch_life.proofs.Whole.{on_true, on_false, over_stays, over_is_quiet}
use Rattle.fetch_life.proofs.Served.{lands_count, landed_so, and_none, none_and, both_true, brought_page, replaced_so}

-- FROM LANDING ON

none_of_two : (is : Command → Bool) (a b : Command) → is a ≡ false → is b ≡ false → count_by is (a ∷ b ∷ []) ≡ 0
none_of_two is a b e g =
    let x : cond {A = ℕ} (is a) 1 0 ≡ 0 = ap (λ v. cond {A = ℕ} v 1 0) e in
    let y : cond {A = ℕ} (is b) 1 0 ≡ 0 = ap (λ v. cond {A = ℕ} v 1 0) g in
    omega arith

none_of_three : (is : Command → Bool) (a b c : Command) → is a ≡ false → is b ≡ false → is c ≡ false → count_by is (a ∷ b ∷ c ∷ []) ≡ 0
none_of_three is a b c e g h =
    let x : cond {A = ℕ} (is a) 1 0 ≡ 0 = ap (λ v. cond {A = ℕ} v 1 0) e in
    let y : cond {A = ℕ} (is b) 1 0 ≡ 0 = ap (λ v. cond {A = ℕ} v 1 0) g in
    let z : cond {A = ℕ} (is c) 1 0 ≡ 0 = ap (λ v. cond {A = ℕ} v 1 0) h in
    omega arith

over_lasts : (f : Flight) (later : List Event) → after (fetch_at f stages.Over) later ≡ fetch_at f stages.Over
over_lasts f [] = refl
over_lasts f (event ∷ rest) = ap (λ (t : Turn). after t.fetch rest) (over_stays f event) ∙ over_lasts f rest

-- something that is done so often as a result is handed in, whatever was found of changes, and not otherwise
pub record IsDue (is : Command → Bool) (n : ℕ) (f : Flight) (end : End) : Type 0 where
  pub counts : (how : Count) → is (does.Count how) ≡ false
  pub makes : (b : Brought) → is (does.Make b) ≡ false
  pub locks : is does.Lock ≡ false
  pub hands : (o : Bool) → count_by is (hands_in f end (brought f o end)).commands ≡ n

handed_due : (is : Command → Bool) (n : ℕ) (f : Flight) (end : End) (b : Brought) (rest : List Event) → count_by is (hands_in f end b).commands ≡ n → count_by is ((hands_in f end b).commands ++ orders (hands_in f end b).fetch rest) + due_at n (after (hands_in f end b).fetch rest).stage ≡ n
handed_due is n f end b rest e =
    let t = hands_in f end b in
    let a = count_append is t.commands (orders t.fetch rest) in
    let c : orders t.fetch rest ≡ [] = ap (λ (x : Fetch). orders x rest) (hands_over f end b) ∙ over_is_quiet f rest in
    let d : count_by is (orders t.fetch rest) ≡ 0 = ap (λ (x : List Command). count_by is x) c in
    let g : due_at n (after t.fetch rest).stage ≡ 0 = ap (λ (x : Fetch). due_at n (after x rest).stage) (hands_over f end b) ∙ ap (λ (x : Fetch). due_at n x.stage) (over_lasts f rest) in
    omega arith

landed_due : (is : Command → Bool) (n : ℕ) (f : Flight) (end : End) → IsDue is n f end → (r : Bool) (later : List Event) → count_by is (orders (fetch_at f (stages.Landing (record { end = end; is_remade = r }))) later) + due_at n (after (fetch_at f (stages.Landing (record { end = end; is_remade = r }))) later).stage ≡ n
landed_due is n f end due r [] = omega arith
landed_due is n f end due r (events.Ordered o ∷ rest) = landed_due is n f end due r rest
landed_due is n f end due r (events.Addressed a ∷ rest) = landed_due is n f end due r rest
landed_due is n f end due r (events.Connected ∷ rest) = landed_due is n f end due r rest
landed_due is n f end due r (events.Began h ∷ rest) = landed_due is n f end due r rest
landed_due is n f end due r (events.Whole p ∷ rest) = landed_due is n f end due r rest
landed_due is n f end due r (events.Failed x ∷ rest) = landed_due is n f end due r rest
landed_due is n f end due r (events.Unwanted w ∷ rest) = landed_due is n f end due r rest
landed_due is n f end due r (events.Locked o ∷ rest) =
    split (λ (t : Turn). count_by is (t.commands ++ orders t.fetch rest) + due_at n (after t.fetch rest).stage ≡ n) (is_lost f o (record { end = end; is_remade = r })) _ _
    (λ _. let t = remakes f end in
    let a = count_append is t.commands (orders t.fetch rest) in
    let b = none_of_two is (does.Make (brought f true end)) does.Lock (due.makes (brought f true end)) due.locks in
    let c = landed_due is n f end due true rest in
    omega arith)
    (λ _. handed_due is n f end (brought f (o || r) end) rest (due.hands (o || r)))

-- all that is done from a turn on, and what is due then
abbrev TotalIs : (Command → Bool) → ℕ → List Event → Turn → Type 0
TotalIs is n later t = count_by is (t.commands ++ orders t.fetch later) + due_at n (after t.fetch later).stage ≡ n

lands_due : (is : Command → Bool) (n : ℕ) (f : Flight) (end : End) (later : List Event) → IsDue is n f end → TotalIs is n later (lands f end)
lands_due is n f end later due =
    let t = lands f end in
    let a = count_append is t.commands (orders t.fetch later) in
    let b = none_of_three is (does.Count (count_of end)) (does.Make (brought f false end)) does.Lock (due.counts (count_of end)) (due.makes (brought f false end)) due.locks in
    let c = landed_due is n f end due false later in
    omega arith

none_due : (n : ℕ) (stage : Stage) → is_over stage ≡ true → due_at n stage ≡ 0
none_due n stages.Over e = refl
none_due n stage e = absurd (cc)

page_total : (is : Command → Bool) (n : ℕ) (f : Flight) (e : Exchange) (p : Page) (later : List Event) → IsDue is n f (ends.Whole p) → is_over (after (fetch_at f (stages.Exchanging e)) (events.Whole p ∷ later)).stage ≡ true → count_by is (orders (fetch_at f (stages.Exchanging e)) (events.Whole p ∷ later)) ≡ n
page_total is n f e p later due over =
    let a = lands_due is n f (ends.Whole p) later due in
    let b = none_due n (after (fetch_at f (stages.Exchanging e)) (events.Whole p ∷ later)).stage over in
    omega arith

page_none : (is : Command → Bool) (f : Flight) (e : Exchange) (p : Page) (later : List Event) → IsDue is 0 f (ends.Whole p) → count_by is (orders (fetch_at f (stages.Exchanging e)) (events.Whole p ∷ later)) ≡ 0
page_none is f e p later due = let a = lands_due is 0 f (ends.Whole p) later due in omega arith

-- WHAT IS NOT ASKED ABOUT ANY MORE, AND WHAT IS NOTED

pub unmet_is_given_up : (f : Flight) (e : Exchange) (p : Page) (later : List Event) → f.is_asking ≡ true → p.status ≡ 412 → is_over (after (fetch_at f (stages.Exchanging e)) (events.Whole p ∷ later)).stage ≡ true → count_by is_ask_no_more (orders (fetch_at f (stages.Exchanging e)) (events.Whole p ∷ later)) ≡ 1
unmet_is_given_up f e p later asking is over =
    page_total is_ask_no_more 1 f e p later
    (record {
      counts = λ how. refl;
      makes = λ b. refl;
      locks = refl;
      hands = λ o. hands_asked f (ends.Whole p) (brought f o (ends.Whole p)) ∙ ap one (both_true f.is_asking (p.status == 412) asking (ap (λ n. n == 412) is));
    })
    over

same_bad : (fault : Fault) → is_bad_answer fault ≡ is_misanswer fault
same_bad faults.Lookup = refl
same_bad faults.Connect = refl
same_bad faults.Request = refl
same_bad faults.Cut = refl
same_bad faults.NotHttp = refl
same_bad faults.LargeHead = refl
same_bad faults.TooLarge = refl
same_bad faults.Time = refl
same_bad faults.Room = refl
same_bad faults.Slow = refl
same_bad faults.Cancelled = refl
same_bad faults.NoMemory = refl
same_bad faults.NoFile = refl

never : ◌≡◌ {A = ℕ} 1 0 → ⊥
never e = omega arith

-- a failure amid an exchange that is not tried elsewhere lands
unless_tried : (P : Turn → Type 0) (f : Flight) (x : Failure) (e : Exchange) → P (lands f (ends.Failed x)) → count_by tries (broken_off f x e).commands ≡ 0 → P (broken_off f x e)
unless_tried P f x e landed =
    let Q : Turn → Type 0 = λ t. count_by tries t.commands ≡ 0 → P t in
    split Q (is_cut x.fault && not x.has_answer) _ _
    (λ _. split Q e.is_reused _ _ (λ _ none. absurd (never none))
    (λ _. split Q e.reach.has_other _ _ (λ _ none. absurd (never none)) (λ _ _. landed)))
    (λ _ _. landed)

pub bad_is_given_up : (f : Flight) (e : Exchange) (x : Failure) (later : List Event) → f.is_asking ≡ true → is_bad_answer x.fault ≡ true → count_by tries (turn f (stages.Exchanging e) (events.Failed x)).commands ≡ 0 → is_over (after (fetch_at f (stages.Exchanging e)) (events.Failed x ∷ later)).stage ≡ true → count_by is_ask_no_more (orders (fetch_at f (stages.Exchanging e)) (events.Failed x ∷ later)) ≡ 1
bad_is_given_up f e x later asking bad untried over =
    let a : TotalIs is_ask_no_more 1 later (broken_off f x e) =
    unless_tried (TotalIs is_ask_no_more 1 later) f x e
    (lands_due is_ask_no_more 1 f (ends.Failed x) later
    (record {
      counts = λ how. refl;
      makes = λ b. refl;
      locks = refl;
      hands = λ o. hands_asked f (ends.Failed x) (brought f o (ends.Failed x)) ∙ ap one (both_true f.is_asking (is_misanswer x.fault) asking (sym (same_bad x.fault) ∙ bad));
    })) untried in
    let b = none_due 1 (after (fetch_at f (stages.Exchanging e)) (events.Failed x ∷ later)).stage over in
    omega arith

pub change_is_noted : (f : Flight) (e : Exchange) (p : Page) (later : List Event) → f.is_asking ≡ true → f.is_shared ≡ false → finds_other p ≡ true → is_over (after (fetch_at f (stages.Exchanging e)) (events.Whole p ∷ later)).stage ≡ true → count_by is_note_changed (orders (fetch_at f (stages.Exchanging e)) (events.Whole p ∷ later)) ≡ 1
change_is_noted f e p later asking owned finds over =
    page_total is_note_changed 1 f e p later
    (record {
      counts = λ how. refl;
      makes = λ b. refl;
      locks = refl;
      hands = λ o. hands_noted f (ends.Whole p) (brought f o (ends.Whole p)) ∙ ap one (both_true (f.is_asking && not f.is_shared) (finds_other p) (both_true f.is_asking (not f.is_shared) asking (ap not owned)) finds);
    })
    over

-- WHAT IS ON THE SHELF

or_right : (a b : Bool) → b ≡ true → (a || b) ≡ true
or_right true b e = refl
or_right false b e = e

or_left : (a b : Bool) → a ≡ true → (a || b) ≡ true
or_left true b e = refl
or_left false b e = absurd (cc)

or_never : (a b : Bool) → (a || b) ≡ false → b ≡ true → false ≡ true
or_never false b e g = sym e ∙ g
or_never true b e g = sym e

not_both : (b : Bool) → b ≡ true → b ≡ false → ⊥
not_both true e g = absurd (cc)
not_both false e g = absurd (cc)

-- a status that is not this one, since it says something new
no_such : (b : Bool) (s n : ℕ) → (s == n) ≡ b → says_new s ≡ true → says_new n ≡ false → b ≡ false
no_such false s n is new old = refl
no_such true s n is new old = absurd (not_both (says_new s) new (ap says_new (eqb-true s n is) ∙ old))

other_status : (s n : ℕ) → says_new s ≡ true → says_new n ≡ false → (s == n) ≡ false
other_status s n new old = no_such (s == n) s n refl new old

or_none : (a b : Bool) → a ≡ false → b ≡ false → (a || b) ≡ false
or_none false b e g = g
or_none true b e g = absurd (cc)

no_error : (s : ℕ) → says_new s ≡ true → is_error s ≡ false
no_error s new =
    or_none (s == 500) _ (other_status s 500 new refl)
    (or_none (s == 502) _ (other_status s 502 new refl) (or_none (s == 503) (s == 504) (other_status s 503 new refl) (other_status s 504 new refl)))

unreplaced_page : (f : Flight) (o : Bool) (p : Page) → is_error p.status ≡ false → is_replaced f o (ends.Whole p) ≡ false
unreplaced_page f o p e =
    and_none (not o) (is_for_all f && (is_error p.status && p.has_stale)) (and_none (is_for_all f) (is_error p.status && p.has_stale) (none_and (is_error p.status) p.has_stale e))

brought_new : (f : Flight) (o : Bool) (p : Page) → p.is_object ≡ true → says_new p.status ≡ true → brought f o (ends.Whole p) ≡ object (is_kept f o p && (p.status == 200)) (supplier_of f.source)
unfolding brought
brought_new f o p some new =
    on_false (is_replaced f o (ends.Whole p)) _ _ (unreplaced_page f o p (no_error p.status new)) ∙ on_false (not (is_origin f.source) && (p.status == 508)) _ _ (and_none (not (is_origin f.source)) (p.status == 508) (other_status p.status 508 new refl)) ∙ on_false (f.is_asking && (p.status == 412)) _ _ (and_none f.is_asking (p.status == 412) (other_status p.status 412 new refl)) ∙ on_false (f.is_asking && (p.status == 304)) _ _ (and_none f.is_asking (p.status == 304) (other_status p.status 304 new refl)) ∙ on_false ((p.status == 304) && (f.is_shared && f.has_shelf)) _ _ (none_and (p.status == 304) _ (other_status p.status 304 new refl)) ∙ on_true p.is_object _ _ some

own_none : (s : Source) → is_own_supplier (supplier_of s) ≡ false
own_none Origin = refl
own_none Parent = refl
own_none Sibling = refl

abbrev OnShelf : Option Command → Type 0
OnShelf c = count_by is_on_shelf (listed c []) ≡ 1

-- what an object that its origin or a neighbour has does to the shelf, where what is there is so no longer
shelf_follows : (f : Flight) (p : Page) (k : Bool) (s : Supplier) → is_own_supplier s ≡ false → is_superseded f (ends.Whole p) ≡ true → on_shelf is_on_shelf f (ends.Whole p) (object k s) ≡ 1
shelf_follows f p k s other gone =
    ap (λ (c : Option Command). count_by is_on_shelf (listed c [])) (on_false (is_own_supplier s) _ _ other) ∙ split OnShelf (k && is_origin f.source) _ _ (λ _. refl)
    (λ _. split OnShelf (k || is_superseded f (ends.Whole p)) _ _ (λ _. refl)
    (λ none. let e = or_never k (is_superseded f (ends.Whole p)) none gone in absurd (cc)))

pub new_takes_place : (f : Flight) (e : Exchange) (p : Page) (later : List Event) → f.is_shared ≡ true → p.is_object ≡ true → says_new p.status ≡ true → is_over (after (fetch_at f (stages.Exchanging e)) (events.Whole p ∷ later)).stage ≡ true → count_by is_on_shelf (orders (fetch_at f (stages.Exchanging e)) (events.Whole p ∷ later)) ≡ 1
new_takes_place f e p later shared some new over =
    page_total is_on_shelf 1 f e p later
    (record {
      counts = λ how. refl;
      makes = λ b. refl;
      locks = refl;
      hands =
          λ o. let k = is_kept f o p && (p.status == 200) in
          let a = hands_count is_on_shelf f (ends.Whole p) (brought f o (ends.Whole p)) refl refl in
          let b : on_shelf is_on_shelf f (ends.Whole p) (brought f o (ends.Whole p)) ≡ 1 =
          ap (λ x. on_shelf is_on_shelf f (ends.Whole p) x) (brought_new f o p some new) ∙ shelf_follows f p k (supplier_of f.source) (own_none f.source) (both_true f.is_shared _ shared (or_right (f.is_asking && (p.status == 304)) (supersedes p.status) new)) in
          omega arith;
    })
    over

no_error_at : (s n : ℕ) → s ≡ n → is_error n ≡ false → is_error s ≡ false
no_error_at s n is e = ap is_error is ∙ e

brought_about : (f : Flight) (o : Bool) (p : Page) → f.is_asking ≡ true → p.status ≡ 304 → p.is_about ≡ true → p.is_object ≡ true → brought f o (ends.Whole p) ≡ object (is_kept f o p) suppliers.Confirmed
unfolding brought
brought_about f o p asking is about some =
    on_false (is_replaced f o (ends.Whole p)) _ _ (unreplaced_page f o p (no_error_at p.status 304 is refl)) ∙ on_false (not (is_origin f.source) && (p.status == 508)) _ _ (and_none (not (is_origin f.source)) (p.status == 508) (ap (λ n. n == 508) is)) ∙ on_false (f.is_asking && (p.status == 412)) _ _ (and_none f.is_asking (p.status == 412) (ap (λ n. n == 412) is)) ∙ on_true (f.is_asking && (p.status == 304)) _ _ (both_true f.is_asking (p.status == 304) asking (ap (λ n. n == 304) is)) ∙ on_true p.is_about _ _ about ∙ on_true p.is_object _ _ some

pub confirmed_takes_place : (f : Flight) (e : Exchange) (p : Page) (later : List Event) → f.is_shared ≡ true → f.is_asking ≡ true → p.status ≡ 304 → p.is_about ≡ true → p.is_object ≡ true → is_over (after (fetch_at f (stages.Exchanging e)) (events.Whole p ∷ later)).stage ≡ true → count_by is_on_shelf (orders (fetch_at f (stages.Exchanging e)) (events.Whole p ∷ later)) ≡ 1
confirmed_takes_place f e p later shared asking is about some over =
    page_total is_on_shelf 1 f e p later
    (record {
      counts = λ how. refl;
      makes = λ b. refl;
      locks = refl;
      hands =
          λ o. let a = hands_count is_on_shelf f (ends.Whole p) (brought f o (ends.Whole p)) refl refl in
          let c : (f.is_asking && (p.status == 304)) ≡ true = both_true f.is_asking (p.status == 304) asking (ap (λ n. n == 304) is) in
          let b : on_shelf is_on_shelf f (ends.Whole p) (brought f o (ends.Whole p)) ≡ 1 =
          ap (λ x. on_shelf is_on_shelf f (ends.Whole p) x) (brought_about f o p asking is about some) ∙ shelf_follows f p (is_kept f o p) suppliers.Confirmed refl (both_true f.is_shared _ shared (or_left (f.is_asking && (p.status == 304)) (supersedes p.status) c)) in
          omega arith;
    })
    over

-- a 304 about something else brings nothing, and takes what is there away
brought_odd : (f : Flight) (o : Bool) (p : Page) → f.is_asking ≡ true → p.status ≡ 304 → p.is_about ≡ false → brought f o (ends.Whole p) ≡ Nothing
unfolding brought
brought_odd f o p asking is about =
    on_false (is_replaced f o (ends.Whole p)) _ _ (unreplaced_page f o p (no_error_at p.status 304 is refl)) ∙ on_false (not (is_origin f.source) && (p.status == 508)) _ _ (and_none (not (is_origin f.source)) (p.status == 508) (ap (λ n. n == 508) is)) ∙ on_false (f.is_asking && (p.status == 412)) _ _ (and_none f.is_asking (p.status == 412) (ap (λ n. n == 412) is)) ∙ on_true (f.is_asking && (p.status == 304)) _ _ (both_true f.is_asking (p.status == 304) asking (ap (λ n. n == 304) is)) ∙ on_false p.is_about _ _ about

gone_shelf : (f : Flight) (end : End) → is_gone f end ≡ true → on_shelf is_unshelve f end Nothing ≡ 1
gone_shelf f end gone = ap (λ (c : Option Command). count_by is_unshelve (listed c [])) (on_true (is_gone f end) _ _ gone)

pub odd_takes_away : (f : Flight) (e : Exchange) (p : Page) (later : List Event) → f.is_asking ≡ true → p.status ≡ 304 → p.is_about ≡ false → is_over (after (fetch_at f (stages.Exchanging e)) (events.Whole p ∷ later)).stage ≡ true → count_by is_unshelve (orders (fetch_at f (stages.Exchanging e)) (events.Whole p ∷ later)) ≡ 1
odd_takes_away f e p later asking is about over =
    page_total is_unshelve 1 f e p later
    (record {
      counts = λ how. refl;
      makes = λ b. refl;
      locks = refl;
      hands =
          λ o. let a = hands_count is_unshelve f (ends.Whole p) (brought f o (ends.Whole p)) refl refl in
          let c : is_gone f (ends.Whole p) ≡ true =
          both_true f.is_asking _ asking (both_true (p.status == 304) (not p.is_about) (ap (λ n. n == 304) is) (ap not about)) in
          let b : on_shelf is_unshelve f (ends.Whole p) (brought f o (ends.Whole p)) ≡ 1 =
          ap (λ x. on_shelf is_unshelve f (ends.Whole p) x) (brought_odd f o p asking is about) ∙ gone_shelf f (ends.Whole p) c in
          omega arith;
    })
    over

long_fault : (fault : Fault) → is_too_long fault ≡ true → (is_loss fault ≡ false) × (is_cut fault ≡ false) × (is_too_large fault ≡ true)
long_fault faults.TooLarge e = (refl, refl, refl)
long_fault fault e = absurd (cc)

brought_long : (f : Flight) (o : Bool) (x : Failure) → is_loss x.fault ≡ false → brought f o (ends.Failed x) ≡ Nothing
unfolding brought
brought_long f o x there =
    on_false (is_replaced f o (ends.Failed x)) _ _ (and_none (not o) (is_for_all f && (is_loss x.fault && x.has_stale)) (and_none (is_for_all f) (is_loss x.fault && x.has_stale) (none_and (is_loss x.fault) x.has_stale there)))

pub long_takes_away : (f : Flight) (e : Exchange) (x : Failure) (later : List Event) → is_from_origin f.source ≡ true → f.is_shared ≡ true → is_too_long x.fault ≡ true → is_over (after (fetch_at f (stages.Exchanging e)) (events.Failed x ∷ later)).stage ≡ true → count_by is_unshelve (orders (fetch_at f (stages.Exchanging e)) (events.Failed x ∷ later)) ≡ 1
long_takes_away f e x later origin shared long over =
    let h = long_fault x.fault long in
    let c : is_gone f (ends.Failed x) ≡ true =
    both_true (is_for_all f) (is_too_large x.fault) (both_true (is_origin f.source) f.is_shared (sym (same_origin f.source) ∙ origin) shared) h.2 in
    let d = lands_due is_unshelve 1 f (ends.Failed x) later
    (record {
      counts = λ how. refl;
      makes = λ b. refl;
      locks = refl;
      hands =
          λ o. let a = hands_count is_unshelve f (ends.Failed x) (brought f o (ends.Failed x)) refl refl in
          let b : on_shelf is_unshelve f (ends.Failed x) (brought f o (ends.Failed x)) ≡ 1 =
          ap (λ y. on_shelf is_unshelve f (ends.Failed x) y) (brought_long f o x h.0) ∙ gone_shelf f (ends.Failed x) c in
          omega arith;
    }) in
    let g : TotalIs is_unshelve 1 later (broken_off f x e) =
    subst (λ (t : Turn). TotalIs is_unshelve 1 later t) (sym (on_false (is_cut x.fault && not x.has_answer) _ _ (none_and (is_cut x.fault) (not x.has_answer) h.1))) d in
    let i = none_due 1 (after (fetch_at f (stages.Exchanging e)) (events.Failed x ∷ later)).stage over in
    omega arith

-- how often something is done of an end, if no change has come between
lands_then : (is : Command → Bool) (f : Flight) (end : End) (later : List Event) → ((how : Count) → is (does.Count how) ≡ false) → ((b : Brought) → is (does.Make b) ≡ false) → is does.Lock ≡ false → count_by is ((lands f end).commands ++ orders (lands f end).fetch (events.Locked false ∷ later)) ≡ count_by is (hands_in f end (brought f false end)).commands
lands_then is f end later counts makes locks =
    let l : Landing = record { end = end; is_remade = false } in
    let b = brought f false end in
    let n = count_by is (hands_in f end b).commands in
    let a = handed_due is n f end b later refl in
    let z : due_at n (after (hands_in f end b).fetch later).stage ≡ 0 = ap (λ (x : Fetch). due_at n (after x later).stage) (hands_over f end b) ∙ ap (λ (x : Fetch). due_at n x.stage) (over_lasts f later) in
    let c : count_by is ((locked_at f false l).commands ++ orders (locked_at f false l).fetch later) ≡ count_by is ((hands_in f end b).commands ++ orders (hands_in f end b).fetch later) =
    ap (λ (t : Turn). count_by is (t.commands ++ orders t.fetch later)) (landed_so f l) in
    let d = count_append is (lands f end).commands ((locked_at f false l).commands ++ orders (locked_at f false l).fetch later) in
    let e = none_of_three is (does.Count (count_of end)) (does.Make b) does.Lock (counts (count_of end)) (makes b) locks in
    omega arith

four_kept : (s m h e : Bool) → s ≡ true → m ≡ true → h ≡ false → e ≡ true → ((s && (m && (not false && not h))) && e) ≡ true
four_kept true true false true a b c d = refl
four_kept s m h e a b c d = absurd (cc)

three_kept : (s m h : Bool) → s ≡ true → m ≡ true → h ≡ false → (s && (m && (not false && not h))) ≡ true
three_kept true true false a b c = refl
three_kept s m h a b c = absurd (cc)

kept_shelf : (f : Flight) (end : End) (k : Bool) (s : Supplier) → is_own_supplier s ≡ false → k ≡ true → is_origin f.source ≡ true → on_shelf is_shelve f end (object k s) ≡ 1
kept_shelf f end k s other kept origin =
    ap (λ (c : Option Command). count_by is_shelve (listed c [])) (on_false (is_own_supplier s) _ _ other ∙ on_true (k && is_origin f.source) _ _ (both_true k (is_origin f.source) kept origin))

pub page_is_shelved : (f : Flight) (e : Exchange) (p : Page) (later : List Event) → is_from_origin f.source ≡ true → f.is_shared ≡ true → p.status ≡ 200 → p.is_object ≡ true → p.may_keep ≡ true → p.hides_rules ≡ false → count_by is_shelve (orders (fetch_at f (stages.Exchanging e)) (events.Whole p ∷ events.Locked false ∷ later)) ≡ 1
page_is_shelved f e p later origin shared is some may open_rules =
    let a = lands_then is_shelve f (ends.Whole p) later (λ how. refl) (λ b. refl) refl in
    let k = is_kept f false p && (p.status == 200) in
    let b = hands_count is_shelve f (ends.Whole p) (brought f false (ends.Whole p)) refl refl in
    let c : on_shelf is_shelve f (ends.Whole p) (brought f false (ends.Whole p)) ≡ 1 =
    ap (λ x. on_shelf is_shelve f (ends.Whole p) x) (brought_page f p is some) ∙ kept_shelf f (ends.Whole p) k (supplier_of f.source) (own_none f.source) (four_kept f.is_shared p.may_keep p.hides_rules (p.status == 200) shared may open_rules (ap (λ n. n == 200) is)) (sym (same_origin f.source) ∙ origin) in
    omega arith

pub confirmed_is_shelved : (f : Flight) (e : Exchange) (p : Page) (later : List Event) → is_from_origin f.source ≡ true → f.is_shared ≡ true → f.is_asking ≡ true → p.status ≡ 304 → p.is_about ≡ true → p.is_object ≡ true → p.may_keep ≡ true → p.hides_rules ≡ false → count_by is_shelve (orders (fetch_at f (stages.Exchanging e)) (events.Whole p ∷ events.Locked false ∷ later)) ≡ 1
confirmed_is_shelved f e p later origin shared asking is about some may open_rules =
    let a = lands_then is_shelve f (ends.Whole p) later (λ how. refl) (λ b. refl) refl in
    let b = hands_count is_shelve f (ends.Whole p) (brought f false (ends.Whole p)) refl refl in
    let c : on_shelf is_shelve f (ends.Whole p) (brought f false (ends.Whole p)) ≡ 1 =
    ap (λ x. on_shelf is_shelve f (ends.Whole p) x) (brought_about f false p asking is about some) ∙ kept_shelf f (ends.Whole p) (is_kept f false p) suppliers.Confirmed refl (three_kept f.is_shared p.may_keep p.hides_rules shared may open_rules) (sym (same_origin f.source) ∙ origin) in
    omega arith

-- WHAT IS NOTHING

-- an end that brings nothing, whatever was found of changes, has no object handed in
nothing_due : (f : Flight) (end : End) → ((o : Bool) → brought f o end ≡ Nothing) → IsDue (hands is_object_one) 0 f end
nothing_due f end none =
    record {
      counts = λ how. refl;
      makes = λ b. refl;
      locks = refl;
      hands =
          λ o. let a = hands_count (hands is_object_one) f end (brought f o end) refl refl in
          let b = shelves_other (hands is_object_one) f end (brought f o end) refl refl in
          let c : one (is_object_one (brought f o end)) ≡ 0 = ap (λ x. one (is_object_one x)) (none o) in
          omega arith;
    }

brought_unmet : (f : Flight) (o : Bool) (p : Page) → f.is_asking ≡ true → p.status ≡ 412 → brought f o (ends.Whole p) ≡ Nothing
unfolding brought
brought_unmet f o p asking is =
    on_false (is_replaced f o (ends.Whole p)) _ _ (unreplaced_page f o p (no_error_at p.status 412 is refl)) ∙ on_false (not (is_origin f.source) && (p.status == 508)) _ _ (and_none (not (is_origin f.source)) (p.status == 508) (ap (λ n. n == 508) is)) ∙ on_true (f.is_asking && (p.status == 412)) _ _ (both_true f.is_asking (p.status == 412) asking (ap (λ n. n == 412) is))

pub unmet_is_nothing : (f : Flight) (e : Exchange) (p : Page) (later : List Event) → f.is_asking ≡ true → p.status ≡ 412 → count_by (hands is_object_one) (orders (fetch_at f (stages.Exchanging e)) (events.Whole p ∷ later)) ≡ 0
unmet_is_nothing f e p later asking is =
    page_none (hands is_object_one) f e p later (nothing_due f (ends.Whole p) (λ o. brought_unmet f o p asking is))

pub odd_is_no_object : (f : Flight) (e : Exchange) (p : Page) (later : List Event) → f.is_asking ≡ true → p.status ≡ 304 → p.is_about ≡ false → count_by (hands is_object_one) (orders (fetch_at f (stages.Exchanging e)) (events.Whole p ∷ later)) ≡ 0
odd_is_no_object f e p later asking is about =
    page_none (hands is_object_one) f e p later (nothing_due f (ends.Whole p) (λ o. brought_odd f o p asking is about))

brought_unasked : (f : Flight) (o : Bool) (p : Page) → f.is_asking ≡ false → f.is_shared ≡ true → f.has_shelf ≡ true → p.status ≡ 304 → brought f o (ends.Whole p) ≡ Nothing
unfolding brought
brought_unasked f o p asking shared shelf is =
    on_false (is_replaced f o (ends.Whole p)) _ _ (unreplaced_page f o p (no_error_at p.status 304 is refl)) ∙ on_false (not (is_origin f.source) && (p.status == 508)) _ _ (and_none (not (is_origin f.source)) (p.status == 508) (ap (λ n. n == 508) is)) ∙ on_false (f.is_asking && (p.status == 412)) _ _ (and_none f.is_asking (p.status == 412) (ap (λ n. n == 412) is)) ∙ on_false (f.is_asking && (p.status == 304)) _ _ (none_and f.is_asking (p.status == 304) asking) ∙ on_true ((p.status == 304) && (f.is_shared && f.has_shelf)) _ _ (both_true (p.status == 304) _ (ap (λ n. n == 304) is) (both_true f.is_shared f.has_shelf shared shelf))

pub unasked_is_nothing : (f : Flight) (e : Exchange) (p : Page) (later : List Event) → f.is_asking ≡ false → f.is_shared ≡ true → f.has_shelf ≡ true → p.status ≡ 304 → count_by (hands is_object_one) (orders (fetch_at f (stages.Exchanging e)) (events.Whole p ∷ later)) ≡ 0
unasked_is_nothing f e p later asking shared shelf is =
    page_none (hands is_object_one) f e p later (nothing_due f (ends.Whole p) (λ o. brought_unasked f o p asking shared shelf is))

brought_loop : (f : Flight) (o : Bool) (p : Page) → is_from_origin f.source ≡ false → p.status ≡ 508 → brought f o (ends.Whole p) ≡ Nothing
unfolding brought
brought_loop f o p neighbour is =
    on_false (is_replaced f o (ends.Whole p)) _ _ (unreplaced_page f o p (no_error_at p.status 508 is refl)) ∙ on_true (not (is_origin f.source) && (p.status == 508)) _ _ (both_true (not (is_origin f.source)) (p.status == 508) (ap not (sym (same_origin f.source) ∙ neighbour)) (ap (λ n. n == 508) is))

pub loop_is_nothing : (f : Flight) (e : Exchange) (p : Page) (later : List Event) → is_from_origin f.source ≡ false → p.status ≡ 508 → count_by (hands is_object_one) (orders (fetch_at f (stages.Exchanging e)) (events.Whole p ∷ later)) ≡ 0
loop_is_nothing f e p later neighbour is =
    page_none (hands is_object_one) f e p later (nothing_due f (ends.Whole p) (λ o. brought_loop f o p neighbour is))

-- WHERE THE ORIGIN IS DOWN

brought_stale_of : (f : Flight) (end : End) → is_replaced f false end ≡ true → brought f false end ≡ object false suppliers.Stale
unfolding brought
brought_stale_of f end e = on_true (is_replaced f false end) _ _ e

-- what is stale is given of that
abbrev GivesStale : List Event → Turn → Type 0
GivesStale later t = count_by (hands (comes_from is_stale_one)) (t.commands ++ orders t.fetch (events.Locked false ∷ later)) ≡ 1

lost_gives : (f : Flight) (x : Failure) (later : List Event) → is_from_origin f.source ≡ true → f.is_shared ≡ true → is_outage x.fault ≡ true → x.has_stale ≡ true → GivesStale later (lands f (ends.Failed x))
lost_gives f x later origin shared out some =
    lands_count (comes_from is_stale_one) f (ends.Failed x) later ∙ ap (λ b. one (comes_from is_stale_one b)) (brought_stale_of f (ends.Failed x) (replaced_so (is_origin f.source) f.is_shared (is_loss x.fault) x.has_stale (sym (same_origin f.source) ∙ origin) shared (sym (same_outage x.fault) ∙ out) some))

pub failure_gives_stale : (f : Flight) (stage : Stage) (x : Failure) (later : List Event) → is_in_flight stage ≡ true → is_from_origin f.source ≡ true → f.is_shared ≡ true → is_outage x.fault ≡ true → x.has_stale ≡ true → count_by tries (turn f stage (events.Failed x)).commands ≡ 0 → count_by (hands (comes_from is_stale_one)) (orders (fetch_at f stage) (events.Failed x ∷ events.Locked false ∷ later)) ≡ 1
failure_gives_stale f stages.Seeking x later flies origin shared out some untried = lost_gives f x later origin shared out some
failure_gives_stale f (stages.Connecting r) x later flies origin shared out some untried =
    split (λ (t : Turn). count_by tries t.commands ≡ 0 → GivesStale later t) (is_connect x.fault && r.has_other) _ _ (λ _ none. absurd (never none))
    (λ _ _. lost_gives f x later origin shared out some) untried
failure_gives_stale f (stages.Exchanging e) x later flies origin shared out some untried =
    unless_tried (GivesStale later) f x e (lost_gives f x later origin shared out some) untried
failure_gives_stale f stage x later flies origin shared out some untried = absurd (cc)

pub error_gives_stale : (f : Flight) (e : Exchange) (p : Page) (later : List Event) → is_from_origin f.source ≡ true → f.is_shared ≡ true → is_server_error p.status ≡ true → p.has_stale ≡ true → count_by (hands (comes_from is_stale_one)) (orders (fetch_at f (stages.Exchanging e)) (events.Whole p ∷ events.Locked false ∷ later)) ≡ 1
error_gives_stale f e p later origin shared bad some =
    lands_count (comes_from is_stale_one) f (ends.Whole p) later ∙ ap (λ b. one (comes_from is_stale_one b)) (brought_stale_of f (ends.Whole p) (replaced_so (is_origin f.source) f.is_shared (is_error p.status) p.has_stale (sym (same_origin f.source) ∙ origin) shared bad some))
