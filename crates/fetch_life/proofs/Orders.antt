-- In which order things are done, how often a request is sent, and which fields it has.
use Rattle.std.proofs.Common.{◌≡◌, ◌==◌, ℕ, ◌+◌, ◌*◌, ◌≤◌, List, [], ◌∷◌, ◌++◌, Bool, true, false, not, ◌&&◌, ◌||◌, cond, arith, count_by, refl, sym, ◌∙◌, ap, subst}
use Rattle.std.specs.List.{AllByRecursion}
use Rattle.fetch_life.specs.declared.facts.Failure.{Failure}
use Rattle.fetch_life.specs.declared.facts.Order.{Order}
use Rattle.fetch_life.specs.declared.facts.End.{End}
use Rattle.fetch_life.specs.declared.commands.Brought.{Brought}
use Rattle.fetch_life.specs.declared.commands.Command.{Command}
use Rattle.fetch_life.specs.declared.commands.Command.TheVariants as does
use Rattle.fetch_life.specs.declared.events.Event.{Event}
use Rattle.fetch_life.specs.declared.events.Event.TheVariants as events
use Rattle.fetch_life.specs.declared.events.Head.{Head}
use Rattle.fetch_life.specs.declared.stages.Exchange.{Exchange}
use Rattle.fetch_life.specs.declared.stages.Fetch.{Fetch}
use Rattle.fetch_life.specs.declared.stages.Flight.{Flight}
use Rattle.fetch_life.specs.declared.stages.Stage.{Stage}
use Rattle.fetch_life.specs.declared.stages.Stage.TheVariants as stages
use Rattle.fetch_life.specs.Table.{Turn, turn, listed, where_so, hands_in, brought, is_unanswered, is_changed, is_cut, may_first, may_other, asks}
use Rattle.fetch_life.specs.Rows.{Row, awaits}
use Rattle.fetch_life.specs.Rows as rows
use Rattle.fetch_life.specs.Runs.{unordered, turn_of, orders, times}
use Rattle.fetch_life.specs.Laws.{one, Making, Unmade, Guarded, Delivered, made_of, is_its_turn, is_in_order, Apart, is_told_of, are_in_touch, touch_after, keeps_in_touch, keeps, may_be_stored, lets_keep_nothing, is_send, is_offer, lets_send_again, renews, is_cut_short, sends_others, sends_both, leaves_out_codings, sends_unasked, same, goes_to, is_beside, is_unordered, may_ask}
use Rattle.fetch_life.proofs.Measures.{harm_storable, making_at, touch_at, sends_due, sends_left, offers_due}
use Rattle.fetch_life.proofs.Walk.{both, turn_row}
use Rattle.fetch_life.proofs.Induction.{is_never_done, is_fed, is_fed_thrice, is_matched}
use Rattle.fetch_life.proofs.Handing.{shelf_case, shelves_kept, hands_count, hands_over}
use Rattle.fetch_life.proofs.Bringing.{kept_is_storable}
use Rattle.fetch_life.proofs.Steps.{Harmless, over_harm, small, twice, same_origin}
use Rattle.fetch_life.proofs.Causes.{hands_none, same_cut, cut_so}
use Rattle.fetch_life.proofs.Whole.{on_true, on_false, row_of, ordered_as}
use Rattle.fetch_life.proofs.Served.{both_true, turned}

-- NOTHING IS KEPT BUT WHAT MAY BE STORED

pub storable_keeps : Harmless keeps harm_storable lets_keep_nothing
storable_keeps f stage event t (rows.Idle g s e idle) = omega arith
storable_keeps f stage event t (rows.Ends g p e) = let a = twice (may_be_stored p) in omega arith
storable_keeps f stage event t (rows.Hands_in g o l) =
    let b = brought g (o || l.is_remade) l.end in
    let a = hands_count keeps g l.end b refl refl in
    let c = shelves_kept g l.end b in
    let d = kept_is_storable g (o || l.is_remade) l.end in
    let e = over_harm harm_storable g l.end b in
    omega arith
storable_keeps f stage event t row = omega arith

pub unstorable_is_unkept : (events : List Event) → AllByRecursion (λ event. lets_keep_nothing event ≡ true) events → times keeps events ≡ 0
unstorable_is_unkept events all =
    is_never_done keeps harm_storable lets_keep_nothing (λ fetch event. storable_keeps fetch.flight fetch.stage event _ (row_of fetch event)) unordered events refl all

-- THE ORDER OF COMMANDS

-- how far a result is once these were done
abbrev pub making_after : Making → List Command → Making
making_after so_far [] = so_far
making_after so_far (command ∷ rest) = making_after (made_of so_far command) rest

order_join : (m : Making) (xs ys : List Command) → is_in_order m xs ≡ true → is_in_order (making_after m xs) ys ≡ true → is_in_order m (xs ++ ys) ≡ true
order_join m [] ys e g = g
order_join m (x ∷ xs) ys e g =
    let h = both (is_its_turn m x) (is_in_order (made_of m x) xs) e in
    both_true (is_its_turn m x) (is_in_order (made_of m x) (xs ++ ys)) h.0 (order_join (made_of m x) xs ys h.1 g)

-- what is done under the lock, and ends with handing in
abbrev EndsWell : List Command → Type 0
EndsWell commands = (is_in_order Guarded commands ≡ true) × (making_after Guarded commands ≡ Delivered)

asked_well : (b : Bool) (rest : List Command) → EndsWell rest → EndsWell (listed (where_so b does.AskNoMore) rest)
asked_well true rest e = e
asked_well false rest e = e

noted_well : (b : Bool) (rest : List Command) → EndsWell rest → EndsWell (listed (where_so b does.NoteChanged) rest)
noted_well true rest e = e
noted_well false rest e = e

hands_well : (f : Flight) (end : End) (b : Brought) → EndsWell (hands_in f end b).commands
unfolding hands_in
hands_well f end b =
    let third : List Command = listed (where_so (is_changed f end) does.NoteChanged) (does.HandIn b ∷ []) in
    let second : List Command = listed (where_so (is_unanswered f end) does.AskNoMore) third in
    let a : EndsWell third = noted_well (is_changed f end) (does.HandIn b ∷ []) (refl, refl) in
    let c : EndsWell second = asked_well (is_unanswered f end) third a in
    shelf_case (λ o. EndsWell (listed o second)) f end b c (λ _ _. c) c

pub keeps_order : (f : Flight) (stage : Stage) (event : Event) (t : Turn) → Row f stage event t → (is_in_order (making_at stage) t.commands ≡ true) × (making_after (making_at stage) t.commands ≡ making_at t.fetch.stage)
keeps_order f stage event t (rows.Hands_in g o l) =
    let b = brought g (o || l.is_remade) l.end in
    let a = hands_well g l.end b in
    (a.0, a.1 ∙ ap (λ (x : Fetch). making_at x.stage) (sym (hands_over g l.end b)))
keeps_order f stage event t row = (refl, refl)

in_order_from : (fetch : Fetch) (events : List Event) → is_in_order (making_at fetch.stage) (orders fetch events) ≡ true
in_order_from fetch [] = refl
in_order_from fetch (event ∷ rest) =
    let next = turn_of fetch event in
    let a = keeps_order fetch.flight fetch.stage event _ (row_of fetch event) in
    order_join (making_at fetch.stage) next.commands (orders next.fetch rest) a.0 (subst (λ m. is_in_order m (orders next.fetch rest) ≡ true) (sym a.1) (in_order_from next.fetch rest))

pub all_in_order : (events : List Event) → is_in_order Unmade (orders unordered events) ≡ true
all_in_order events = in_order_from unordered events

-- A SERVER IS REACHED, AND ASKED

idle_touch : (f : Flight) (stage : Stage) (event : Event) → awaits f stage event ≡ false → is_told_of (touch_at stage) event ≡ touch_at stage
idle_touch f (stages.Connecting r) events.Connected idle = absurd (cc)
idle_touch f (stages.Connecting r) (events.Failed x) idle = absurd (cc)
idle_touch f (stages.Connecting r) event idle = refl
idle_touch f (stages.Exchanging e) (events.Failed x) idle = absurd (cc)
idle_touch f (stages.Exchanging e) event idle = refl
idle_touch f stage event idle = refl

-- under the lock, what is done as a result is handed in has to do with no server
abbrev KeepsApart : List Command → Type 0
KeepsApart commands = (are_in_touch Apart commands ≡ true) × (touch_after Apart commands ≡ Apart)

asked_apart : (b : Bool) (rest : List Command) → KeepsApart rest → KeepsApart (listed (where_so b does.AskNoMore) rest)
asked_apart true rest e = e
asked_apart false rest e = e

noted_apart : (b : Bool) (rest : List Command) → KeepsApart rest → KeepsApart (listed (where_so b does.NoteChanged) rest)
noted_apart true rest e = e
noted_apart false rest e = e

hands_apart : (f : Flight) (end : End) (b : Brought) → KeepsApart (hands_in f end b).commands
unfolding hands_in
hands_apart f end b =
    let third : List Command = listed (where_so (is_changed f end) does.NoteChanged) (does.HandIn b ∷ []) in
    let second : List Command = listed (where_so (is_unanswered f end) does.AskNoMore) third in
    let a : KeepsApart third = noted_apart (is_changed f end) (does.HandIn b ∷ []) (refl, refl) in
    let c : KeepsApart second = asked_apart (is_unanswered f end) third a in
    shelf_case (λ o. KeepsApart (listed o second)) f end b c (λ _ _. c) c

pub keeps_touch : (f : Flight) (stage : Stage) (event : Event) (t : Turn) → Row f stage event t → (are_in_touch (is_told_of (touch_at stage) event) t.commands ≡ true) × (touch_after (is_told_of (touch_at stage) event) t.commands ≡ touch_at t.fetch.stage)
keeps_touch f stage event t (rows.Idle g s e idle) = (refl, idle_touch g s e idle)
keeps_touch f stage event t (rows.Hands_in g o l) =
    let b = brought g (o || l.is_remade) l.end in
    let a = hands_apart g l.end b in
    (a.0, a.1 ∙ ap (λ (x : Fetch). touch_at x.stage) (sym (hands_over g l.end b)))
keeps_touch f stage event t row = (refl, refl)

in_touch_from : (fetch : Fetch) (events : List Event) → keeps_in_touch (touch_at fetch.stage) fetch events ≡ true
in_touch_from fetch [] = refl
in_touch_from fetch (event ∷ rest) =
    let next = turn_of fetch event in
    let told = is_told_of (touch_at fetch.stage) event in
    let a = keeps_touch fetch.flight fetch.stage event _ (row_of fetch event) in
    both_true (are_in_touch told next.commands) (keeps_in_touch (touch_after told next.commands) next.fetch rest) a.0
    (subst (λ m. keeps_in_touch m next.fetch rest ≡ true) (sym a.1) (in_touch_from next.fetch rest))

pub all_in_touch : (events : List Event) → keeps_in_touch Apart unordered events ≡ true
all_in_touch events = in_touch_from unordered events

-- HOW OFTEN A REQUEST IS SENT

sent_again : (x : Failure) → x.has_answer ≡ false → is_cut x.fault ≡ true → one (lets_send_again (events.Failed x)) ≡ 1
sent_again x none cut = ap (λ b. one (b || false)) (cut_so x none cut)

pub sends_fed : (f : Flight) (stage : Stage) (event : Event) (t : Turn) → Row f stage event t → count_by is_send t.commands + sends_due t.fetch.stage ≤ sends_due stage + one (lets_send_again event)
sends_fed f stage event t (rows.Idle g s e idle) = omega arith
sends_fed f stage event t (rows.Retries g x e reused none cut) = let a = sent_again x none cut in omega arith
sends_fed f stage event t (rows.Goes_on g x e has none cut) = let a = sent_again x none cut in omega arith
sends_fed f stage event t (rows.Hands_in g o l) =
    let b = brought g (o || l.is_remade) l.end in
    let a = hands_none is_send g l.end b refl refl refl refl refl in
    let c : sends_due (hands_in g l.end b).fetch.stage ≡ 0 = ap (λ (x : Fetch). sends_due x.stage) (hands_over g l.end b) in
    omega arith
sends_fed f stage event t row = omega arith

pub sent_by_cause : (events : List Event) → times is_send events ≤ 1 + count_by lets_send_again events
sent_by_cause events =
    let a = is_fed is_send (λ fetch. sends_due fetch.stage) lets_send_again (λ fetch event. sends_fed fetch.flight fetch.stage event _ (row_of fetch event)) unordered events in
    omega arith

pub sends_most : (f : Flight) (stage : Stage) (event : Event) (t : Turn) → Row f stage event t → count_by is_send t.commands + sends_left t.fetch.stage ≤ sends_left stage + 3 * one (renews event)
sends_most f stage event t (rows.Idle g s e idle) = omega arith
sends_most f stage event t (rows.Reuses_first g a may kept) = let b = small (may_other g a) in omega arith
sends_most f stage event t (rows.Reuses_other g a may kept) = let b = small (may_first g a) in omega arith
sends_most f stage event t (rows.Connects_first g a may) = let b = small (may_other g a) in omega arith
sends_most f stage event t (rows.Turns g x r has unconnected) = let a : one r.has_other ≡ 1 = ap one has in omega arith
sends_most f stage event t (rows.Retries g x e reused none cut) = let a : one e.is_reused ≡ 1 = ap one reused in omega arith
sends_most f stage event t (rows.Goes_on g x e has none cut) = let a : one e.reach.has_other ≡ 1 = ap one has in omega arith
sends_most f stage event t (rows.Hands_in g o l) =
    let b = brought g (o || l.is_remade) l.end in
    let a = hands_none is_send g l.end b refl refl refl refl refl in
    let c : sends_left (hands_in g l.end b).fetch.stage ≡ 0 = ap (λ (x : Fetch). sends_left x.stage) (hands_over g l.end b) in
    omega arith
sends_most f stage event t row = omega arith

pub sent_thrice : (events : List Event) → times is_send events ≤ 3 + 3 * count_by renews events
sent_thrice events =
    let a = is_fed_thrice is_send (λ fetch. sends_left fetch.stage) renews (λ fetch event. sends_most fetch.flight fetch.stage event _ (row_of fetch event)) unordered events in
    omega arith

cut_is : (x : Failure) → is_cut_short (events.Failed x) ≡ true → (is_cut x.fault && not x.has_answer) ≡ true
cut_is x cut = ap (λ b. b && not x.has_answer) (sym (same_cut x.fault)) ∙ cut

pub kept_is_made_anew : (f : Flight) (x : Failure) (e : Exchange) → e.is_reused ≡ true → is_cut_short (events.Failed x) ≡ true → (turn f (stages.Exchanging e) (events.Failed x)).commands ≡ does.Connect e.reach.at ∷ []
kept_is_made_anew f x e reused cut =
    ap (λ (t : Turn). t.commands) (on_true (is_cut x.fault && not x.has_answer) _ _ (cut_is x cut) ∙ on_true e.is_reused _ _ reused)

pub new_goes_on : (f : Flight) (x : Failure) (e : Exchange) → e.is_reused ≡ false → e.reach.has_other ≡ true → is_cut_short (events.Failed x) ≡ true → count_by (goes_to (is_beside e.reach.at)) (turn f (stages.Exchanging e) (events.Failed x)).commands ≡ 1
new_goes_on f x e new has cut =
    ap (λ (t : Turn). count_by (goes_to (is_beside e.reach.at)) t.commands) (on_true (is_cut x.fault && not x.has_answer) _ _ (cut_is x cut) ∙ on_false e.is_reused _ _ new ∙ on_true e.reach.has_other _ _ has) ∙ turned e.reach.at

-- WHAT IS OFFERED

pub offers_matched : (f : Flight) (stage : Stage) (event : Event) (t : Turn) → Row f stage event t → count_by is_offer t.commands + offers_due t.fetch.stage ≤ offers_due stage + count_by is_send t.commands
offers_matched f stage event t (rows.Idle g s e idle) = omega arith
offers_matched f stage event t (rows.Offers g h e shared fresh ok streams long) =
    let a : one (not e.is_offered) ≡ 1 = ap (λ b. one (not b)) fresh in omega arith
offers_matched f stage event t (rows.Hands_in g o l) =
    let b = brought g (o || l.is_remade) l.end in
    let a = hands_none is_offer g l.end b refl refl refl refl refl in
    let c : offers_due (hands_in g l.end b).fetch.stage ≡ 0 = ap (λ (x : Fetch). offers_due x.stage) (hands_over g l.end b) in
    omega arith
offers_matched f stage event t row = omega arith

pub offered_once : (events : List Event) → times is_offer events ≤ times is_send events
offered_once events =
    let a = is_matched is_offer is_send (λ fetch. offers_due fetch.stage) (λ fetch event. offers_matched fetch.flight fetch.stage event _ (row_of fetch event)) unordered events in
    omega arith

five_true : (a b c d l : Bool) → a ≡ true → b ≡ true → c ≡ false → d ≡ true → l ≡ true → ((a && b) && (not c && (d && l))) ≡ true
five_true true true false true true e g h i j = refl
five_true a b c d l e g h i j = absurd (cc)

pub offer_is_made : (f : Flight) (h : Head) (e : Exchange) → f.is_shared ≡ true → f.is_streamed ≡ true → e.is_offered ≡ false → h.status ≡ 200 → h.is_long ≡ true → (turn f (stages.Exchanging e) (events.Began h)).commands ≡ does.Offer ∷ []
offer_is_made f h e shared streams fresh is long =
    ap (λ (t : Turn). t.commands) (on_true ((f.is_shared && f.is_streamed) && (not e.is_offered && ((h.status == 200) && h.is_long))) _ _ (five_true f.is_shared f.is_streamed e.is_offered (h.status == 200) h.is_long shared streams fresh (ap (λ n. n == 200) is) long))

-- WHICH FIELDS A REQUEST HAS

others_of : (s : Bool) → 0 + cond {A = ℕ} (not (same (not s) (not s) && same s s)) 1 0 ≡ 0
others_of true = refl
others_of false = refl

pub sends_own : (f : Flight) (stage : Stage) (event : Event) (t : Turn) → Row f stage event t → count_by (sends_others f) t.commands ≡ 0
sends_own f stage event t (rows.Reuses_first g a may kept) = others_of g.is_shared
sends_own f stage event t (rows.Reuses_other g a may kept) = others_of g.is_shared
sends_own f stage event t (rows.Connected g r) = others_of g.is_shared
sends_own f stage event t (rows.Hands_in g o l) = hands_none (sends_others g) g l.end (brought g (o || l.is_remade) l.end) refl refl refl refl refl
sends_own f stage event t row = refl

both_of : (s a : Bool) → 0 + cond {A = ℕ} ((not s && not a) && a) 1 0 ≡ 0
both_of true a = refl
both_of false true = refl
both_of false false = refl

pub sends_either : (f : Flight) (stage : Stage) (event : Event) (t : Turn) → Row f stage event t → count_by sends_both t.commands ≡ 0
sends_either f stage event t (rows.Reuses_first g a may kept) = both_of g.is_shared g.is_asking
sends_either f stage event t (rows.Reuses_other g a may kept) = both_of g.is_shared g.is_asking
sends_either f stage event t (rows.Connected g r) = both_of g.is_shared g.is_asking
sends_either f stage event t (rows.Hands_in g o l) = hands_none sends_both g l.end (brought g (o || l.is_remade) l.end) refl refl refl refl refl
sends_either f stage event t row = refl

codings_of : (s a : Bool) → 0 + cond {A = ℕ} (not s && (not (not s && not a) && not a)) 1 0 ≡ 0
codings_of true a = refl
codings_of false true = refl
codings_of false false = refl

pub sends_codings : (f : Flight) (stage : Stage) (event : Event) (t : Turn) → Row f stage event t → count_by (leaves_out_codings f) t.commands ≡ 0
sends_codings f stage event t (rows.Reuses_first g a may kept) = codings_of g.is_shared g.is_asking
sends_codings f stage event t (rows.Reuses_other g a may kept) = codings_of g.is_shared g.is_asking
sends_codings f stage event t (rows.Connected g r) = codings_of g.is_shared g.is_asking
sends_codings f stage event t (rows.Hands_in g o l) = hands_none (leaves_out_codings g) g l.end (brought g (o || l.is_remade) l.end) refl refl refl refl refl
sends_codings f stage event t row = refl

asked_of : (a : Bool) → 0 + cond {A = ℕ} (not (same a a)) 1 0 ≡ 0
asked_of true = refl
asked_of false = refl

pub sends_asked : (f : Flight) (stage : Stage) (event : Event) (t : Turn) → Row f stage event t → count_by (sends_unasked f) t.commands ≡ 0
sends_asked f stage event t (rows.Reuses_first g a may kept) = asked_of g.is_asking
sends_asked f stage event t (rows.Reuses_other g a may kept) = asked_of g.is_asking
sends_asked f stage event t (rows.Connected g r) = asked_of g.is_asking
sends_asked f stage event t (rows.Hands_in g o l) = hands_none (sends_unasked g) g l.end (brought g (o || l.is_remade) l.end) refl refl refl refl refl
sends_asked f stage event t row = refl

pub own_fields : (f : Flight) (stage : Stage) (event : Event) → count_by (sends_others f) (turn f stage event).commands ≡ 0
own_fields f stage event = sends_own f stage event _ (turn_row f stage event)

pub either_fields : (f : Flight) (stage : Stage) (event : Event) → count_by sends_both (turn f stage event).commands ≡ 0
either_fields f stage event = sends_either f stage event _ (turn_row f stage event)

pub own_codings : (f : Flight) (stage : Stage) (event : Event) → count_by (leaves_out_codings f) (turn f stage event).commands ≡ 0
own_codings f stage event = sends_codings f stage event _ (turn_row f stage event)

pub asked_conditions : (f : Flight) (stage : Stage) (event : Event) → count_by (sends_unasked f) (turn f stage event).commands ≡ 0
asked_conditions f stage event = sends_asked f stage event _ (turn_row f stage event)

same_asks : (o : Order) → asks o ≡ may_ask o
same_asks o = ap (λ b. b && (o.has_shelf && (o.has_shelved && (o.is_shared || o.lets_validate)))) (sym (same_origin o.source))

pub asking_is_ordered : (f : Flight) (stage : Stage) (o : Order) → is_unordered stage ≡ true → (turn f stage (events.Ordered o)).fetch.flight.is_asking ≡ may_ask o
asking_is_ordered f stage o new = ordered_as (λ (x : Flight). x.is_asking ≡ may_ask o) f stage o new (same_asks o)

pub streaming_is_ordered : (f : Flight) (stage : Stage) (o : Order) → is_unordered stage ≡ true → (turn f stage (events.Ordered o)).fetch.flight.is_streamed ≡ o.is_streamed
streaming_is_ordered f stage o new = ordered_as (λ (x : Flight). x.is_streamed ≡ o.is_streamed) f stage o new refl

pub shelf_is_ordered : (f : Flight) (stage : Stage) (o : Order) → is_unordered stage ≡ true → (turn f stage (events.Ordered o)).fetch.flight.has_shelf ≡ o.has_shelf
shelf_is_ordered f stage o new = ordered_as (λ (x : Flight). x.has_shelf ≡ o.has_shelf) f stage o new refl
