-- What holds of each run.
use Rattle.std.proofs.Common.{◌≡◌, ◌+◌, ◌*◌, ◌≤◌, ◌<◌, List, [], ◌∷◌, ◌++◌, Bool, true, false, ◌&&◌, cond, if◌then◌else◌, arith, count_by, refl, ◌∙◌, ap}
use Rattle.std.specs.List.{AllByRecursion}
use Rattle.fetch_life.specs.declared.facts.Order.{Order}
use Rattle.fetch_life.specs.declared.facts.Page.{Page}
use Rattle.fetch_life.specs.declared.commands.Brought.TheVariants.{Unwanted}
use Rattle.fetch_life.specs.declared.commands.Count.TheVariants as counts
use Rattle.fetch_life.specs.declared.commands.Command.{Command}
use Rattle.fetch_life.specs.declared.commands.Command.TheVariants as does
use Rattle.fetch_life.specs.declared.events.Event.{Event}
use Rattle.fetch_life.specs.declared.events.Event.TheVariants as events
use Rattle.fetch_life.specs.declared.stages.Fetch.{Fetch}
use Rattle.fetch_life.specs.declared.stages.Flight.{Flight}
use Rattle.fetch_life.specs.declared.stages.Stage.{Stage}
use Rattle.fetch_life.specs.declared.stages.Stage.TheVariants as stages
use Rattle.fetch_life.specs.Table.{Turn, turn, stay, goes, renewed_so, flight_of, ordered_so, unbegun, leaves, left_alone}
use Rattle.fetch_life.specs.Rows.{Row}
use Rattle.fetch_life.specs.Runs.{unordered, turn_of, after, orders, times, IsOnlyBy}
use Rattle.fetch_life.specs.Laws.{one, is_any, is_count, is_hand_in, is_confirmed_one, is_stale_one, is_unwanted_one, comes_from, hands, is_shelve, keeps, is_first, is_other, goes_to, is_offer, sends_clients, sends_conditions, is_not_for_all, is_not_private, is_not_of_origin, is_not_asking, confirms_nothing, is_not_down, is_not_unchanged, bars_first, bars_other, renews, is_over, is_in_flight, may_be_left, is_exchanging, is_landing, is_renewing, keeps_or_confirms, steps, counts_as, is_success, is_refusal, is_failure, is_want, is_answer, is_fault, is_denial, is_desertion, is_misnamed, is_unshelve, is_not_telling, is_either, is_unconnected, is_cut_short, is_connecting, is_under_way, is_unordered, sends_unlike, tries, is_question, is_asked, told, is_ask_no_more, is_note_changed}
use Rattle.fetch_life.proofs.Measures.{commands_left, counts_left, harm_shared, harm_private, harm_origin, harm_asking, harm_confirming, harm_down, harm_first, harm_other, harm_none, steps_left, harm_odd, harm_current, harm_telling}
use Rattle.fetch_life.proofs.Walk.{turn_row, both, split}
use Rattle.fetch_life.proofs.Induction.{count_append, balances, runs_down, adds_up, is_used_up, is_filled_up, is_never_done}
use Rattle.fetch_life.proofs.Causes.{success_cause, failure_cause, refusal_cause, want_cause, ends_counted, again_cause, turn_cause, sends_fitting, names_fitting, telling_stays, flight_stays, asks_balance, asks_on, notes_private}
use Rattle.fetch_life.proofs.Steps.{steps_run_down, odd_stays, current_stays, current_stale, change_keeps, change_stales, odd_lands, any_event, hands_once, does_less, counts_less, conditions_asking, conditions_of_origin, confirms_about, confirms_asking, fields_private, given_up_shared, goes_first, goes_other, keeps_current, keeps_shared, offers_shared, shelves_origin, stale_current, stale_down, stale_origin, stale_shared}

pub row_of : (fetch : Fetch) (event : Event) → Row fetch.flight fetch.stage event (turn_of fetch event)
row_of fetch event = turn_row fetch.flight fetch.stage event

pub hands_in_once : (events : List Event) → times is_hand_in events ≡ one (is_over (after unordered events).stage)
hands_in_once events =
    let a = adds_up is_hand_in (λ fetch. one (is_over fetch.stage)) (λ fetch event. hands_once fetch.flight fetch.stage event _ (row_of fetch event)) unordered events in
    omega arith

pub does_no_more : (events : List Event) → times is_any events ≤ 21 + 21 * count_by renews events
does_no_more events =
    let a = is_filled_up is_any (λ fetch. commands_left fetch.stage) renews (λ fetch event. does_less fetch.flight fetch.stage event _ (row_of fetch event)) unordered events in
    omega arith

pub is_counted_once : (events : List Event) → times is_count events ≤ 1
is_counted_once events =
    let a = is_used_up is_count (λ fetch. counts_left fetch.stage) (λ fetch event. counts_less fetch.flight fetch.stage event _ (row_of fetch event)) unordered events in
    omega arith

-- what is over stays so
pub over_stays : (f : Flight) (event : Event) → turn f stages.Over event ≡ stay f stages.Over
over_stays f (events.Ordered o) = refl
over_stays f (events.Addressed a) = refl
over_stays f events.Connected = refl
over_stays f (events.Began h) = refl
over_stays f (events.Whole p) = refl
over_stays f (events.Failed x) = refl
over_stays f (events.Unwanted is_awaited) = refl
over_stays f (events.Locked is_overtaken) = refl

pub over_is_quiet : (f : Flight) (later : List Event) → orders (record { flight = f; stage = stages.Over }) later ≡ []
over_is_quiet f [] = refl
over_is_quiet f (event ∷ rest) =
    ap (λ (t : Turn). t.commands ++ orders t.fetch rest) (over_stays f event) ∙ over_is_quiet f rest

-- all that is done from a turn on
abbrev from_turn : Turn → List Event → List Command
from_turn t later = t.commands ++ orders t.fetch later

pub on_true : {A : Type 0} (b : Bool) (x y : A) → b ≡ true → cond b x y ≡ x
on_true true x y e = refl
on_true false x y e = absurd (cc)

given_up : (f : Flight) (later : List Event) → from_turn (leaves f false) later ≡ does.Count counts.Unwanted ∷ does.HandIn Unwanted ∷ []
given_up f later = ap (λ (rest : List Command). does.Count counts.Unwanted ∷ does.HandIn Unwanted ∷ rest) (over_is_quiet f later)

left_alone_so : (f : Flight) (stage : Stage) (later : List Event) → f.is_shared ≡ true → from_turn (left_alone f false stage) later ≡ does.Count counts.Unwanted ∷ does.HandIn Unwanted ∷ []
left_alone_so f stage later shared =
    ap (λ (t : Turn). from_turn t later) (on_true f.is_shared (leaves f false) (stay f stage) shared) ∙ given_up f later

left_so : (f : Flight) (stage : Stage) (later : List Event) → f.is_shared ≡ true → is_in_flight stage ≡ true → orders (record { flight = f; stage = stage }) (events.Unwanted false ∷ later) ≡ does.Count counts.Unwanted ∷ does.HandIn Unwanted ∷ []
left_so f stages.Seeking later shared flies = left_alone_so f stages.Seeking later shared
left_so f (stages.Connecting r) later shared flies = left_alone_so f (stages.Connecting r) later shared
left_so f (stages.Exchanging x) later shared flies = left_alone_so f (stages.Exchanging x) later shared
left_so f stage later shared flies = absurd (cc)

pub left_is_given_up : (before later : List Event) → may_be_left (after unordered before) ≡ true → orders (after unordered before) (events.Unwanted false ∷ later) ≡ does.Count counts.Unwanted ∷ does.HandIn Unwanted ∷ []
left_is_given_up before later e =
    let fetch = after unordered before in
    let h = both fetch.flight.is_shared (is_in_flight fetch.stage) e in
    left_so fetch.flight fetch.stage later h.0 h.1

and_true : (a b : Bool) → a ≡ true → b ≡ true → (a && b) ≡ true
and_true true b e g = g
and_true false b e g = absurd (cc)

unbegun_so : (o : Order) → (o.is_shared && o.is_unwanted) ≡ true → ordered_so o ≡ unbegun (flight_of o) o.was_unwanted
unbegun_so o e = on_true (o.is_shared && o.is_unwanted) _ _ e

unbegun_from : (f : Flight) (b : Bool) (later : List Event) → from_turn (unbegun f b) later ≡ (if b then [] else does.Count counts.Unwanted ∷ []) ++ does.HandIn Unwanted ∷ []
unbegun_from f true later = ap (λ (rest : List Command). does.HandIn Unwanted ∷ rest) (over_is_quiet f later)
unbegun_from f false later = ap (λ (rest : List Command). does.Count counts.Unwanted ∷ does.HandIn Unwanted ∷ rest) (over_is_quiet f later)

pub unwanted_is_not_begun : (o : Order) (later : List Event) → o.is_shared ≡ true → o.is_unwanted ≡ true → orders unordered (events.Ordered o ∷ later) ≡ (if o.was_unwanted then [] else does.Count counts.Unwanted ∷ []) ++ does.HandIn Unwanted ∷ []
unwanted_is_not_begun o later shared left =
    ap (λ (t : Turn). from_turn t later) (unbegun_so o (and_true o.is_shared o.is_unwanted shared left)) ∙ unbegun_from (flight_of o) o.was_unwanted later

pub kept_is_unchanged : (events : List Event) → AllByRecursion (λ event. is_not_unchanged event ≡ true) events → times keeps events ≡ 0
kept_is_unchanged events all =
    is_never_done keeps harm_none is_not_unchanged (λ fetch event. keeps_current fetch.flight fetch.stage event _ (row_of fetch event)) unordered events refl all

pub stale_is_unchanged : (events : List Event) → AllByRecursion (λ event. is_not_unchanged event ≡ true) events → times (hands (comes_from is_stale_one)) events ≡ 0
stale_is_unchanged events all =
    is_never_done (hands (comes_from is_stale_one)) harm_none is_not_unchanged (λ fetch event. stale_current fetch.flight fetch.stage event _ (row_of fetch event)) unordered events refl all

pub private_is_unkept : (events : List Event) → AllByRecursion (λ event. is_not_for_all event ≡ true) events → times keeps events ≡ 0
private_is_unkept events all =
    is_never_done keeps harm_shared is_not_for_all (λ fetch event. keeps_shared fetch.flight fetch.stage event _ (row_of fetch event)) unordered events refl all

pub private_has_no_stale : (events : List Event) → AllByRecursion (λ event. is_not_for_all event ≡ true) events → times (hands (comes_from is_stale_one)) events ≡ 0
private_has_no_stale events all =
    is_never_done (hands (comes_from is_stale_one)) harm_shared is_not_for_all (λ fetch event. stale_shared fetch.flight fetch.stage event _ (row_of fetch event)) unordered events refl all

pub private_is_unoffered : (events : List Event) → AllByRecursion (λ event. is_not_for_all event ≡ true) events → times is_offer events ≡ 0
private_is_unoffered events all =
    is_never_done is_offer harm_shared is_not_for_all (λ fetch event. offers_shared fetch.flight fetch.stage event _ (row_of fetch event)) unordered events refl all

pub neighbour_is_unshelved : (events : List Event) → AllByRecursion (λ event. is_not_of_origin event ≡ true) events → times is_shelve events ≡ 0
neighbour_is_unshelved events all =
    is_never_done is_shelve harm_origin is_not_of_origin (λ fetch event. shelves_origin fetch.flight fetch.stage event _ (row_of fetch event)) unordered events refl all

pub neighbour_has_no_stale : (events : List Event) → AllByRecursion (λ event. is_not_of_origin event ≡ true) events → times (hands (comes_from is_stale_one)) events ≡ 0
neighbour_has_no_stale events all =
    is_never_done (hands (comes_from is_stale_one)) harm_origin is_not_of_origin (λ fetch event. stale_origin fetch.flight fetch.stage event _ (row_of fetch event)) unordered events refl all

pub unasked_is_unconfirmed : (events : List Event) → AllByRecursion (λ event. is_not_asking event ≡ true) events → times (hands (comes_from is_confirmed_one)) events ≡ 0
unasked_is_unconfirmed events all =
    is_never_done (hands (comes_from is_confirmed_one)) harm_asking is_not_asking (λ fetch event. confirms_asking fetch.flight fetch.stage event _ (row_of fetch event)) unordered events refl all

pub unasked_has_no_conditions : (events : List Event) → AllByRecursion (λ event. is_not_asking event ≡ true) events → times sends_conditions events ≡ 0
unasked_has_no_conditions events all =
    is_never_done sends_conditions harm_asking is_not_asking (λ fetch event. conditions_asking fetch.flight fetch.stage event _ (row_of fetch event)) unordered events refl all

pub neighbour_has_no_conditions : (events : List Event) → AllByRecursion (λ event. is_not_of_origin event ≡ true) events → times sends_conditions events ≡ 0
neighbour_has_no_conditions events all =
    is_never_done sends_conditions harm_asking is_not_of_origin (λ fetch event. conditions_of_origin fetch.flight fetch.stage event _ (row_of fetch event)) unordered events refl all

pub other_is_unconfirmed : (events : List Event) → AllByRecursion (λ event. confirms_nothing event ≡ true) events → times (hands (comes_from is_confirmed_one)) events ≡ 0
other_is_unconfirmed events all =
    is_never_done (hands (comes_from is_confirmed_one)) harm_confirming confirms_nothing (λ fetch event. confirms_about fetch.flight fetch.stage event _ (row_of fetch event)) unordered events refl all

pub up_has_no_stale : (events : List Event) → AllByRecursion (λ event. is_not_down event ≡ true) events → times (hands (comes_from is_stale_one)) events ≡ 0
up_has_no_stale events all =
    is_never_done (hands (comes_from is_stale_one)) harm_down is_not_down (λ fetch event. stale_down fetch.flight fetch.stage event _ (row_of fetch event)) unordered events refl all

pub shared_has_no_clients : (events : List Event) → AllByRecursion (λ event. is_not_private event ≡ true) events → times sends_clients events ≡ 0
shared_has_no_clients events all =
    is_never_done sends_clients harm_private is_not_private (λ fetch event. fields_private fetch.flight fetch.stage event _ (row_of fetch event)) unordered events refl all

pub first_is_unreached : (events : List Event) → AllByRecursion (λ event. bars_first event ≡ true) events → times (goes_to is_first) events ≡ 0
first_is_unreached events all =
    is_never_done (goes_to is_first) harm_first bars_first (λ fetch event. goes_first fetch.flight fetch.stage event _ (row_of fetch event)) unordered events refl all

pub other_is_unreached : (events : List Event) → AllByRecursion (λ event. bars_other event ≡ true) events → times (goes_to is_other) events ≡ 0
other_is_unreached events all =
    is_never_done (goes_to is_other) harm_other bars_other (λ fetch event. goes_other fetch.flight fetch.stage event _ (row_of fetch event)) unordered events refl all

pub private_is_not_given_up : (events : List Event) → AllByRecursion (λ event. is_not_for_all event ≡ true) events → times (hands is_unwanted_one) events ≡ 0
private_is_not_given_up events all =
    is_never_done (hands is_unwanted_one) harm_shared is_not_for_all (λ fetch event. given_up_shared fetch.flight fetch.stage event _ (row_of fetch event)) unordered events refl all

pub runs_out : (events : List Event) → steps unordered events ≤ 12 + 12 * count_by renews events
runs_out events =
    let a = runs_down (λ fetch. steps_left fetch.stage) renews (λ fetch event. steps_run_down fetch.flight fetch.stage event _ (row_of fetch event)) unordered events in
    omega arith

all_true : (events : List Event) → AllByRecursion (λ e. any_event e ≡ true) events
all_true [] = tt
all_true (e ∷ rest) = (refl, all_true rest)

odd_from : (fetch : Fetch) (later : List Event) → harm_odd fetch ≡ 0 → count_by keeps_or_confirms (orders fetch later) ≡ 0
odd_from fetch later none =
    is_never_done keeps_or_confirms harm_odd any_event (λ x event. odd_stays x.flight x.stage event _ (row_of x event)) fetch later none (all_true later)

current_from : (fetch : Fetch) (later : List Event) → harm_current fetch ≡ 0 → count_by keeps (orders fetch later) ≡ 0
current_from fetch later none =
    is_never_done keeps harm_current any_event (λ x event. current_stays x.flight x.stage event _ (row_of x event)) fetch later none (all_true later)

stale_from : (fetch : Fetch) (later : List Event) → harm_current fetch ≡ 0 → count_by (hands (comes_from is_stale_one)) (orders fetch later) ≡ 0
stale_from fetch later none =
    is_never_done (hands (comes_from is_stale_one)) harm_current any_event (λ x event. current_stale x.flight x.stage event _ (row_of x event)) fetch later none (all_true later)

pub changed_is_unkept : (before later : List Event) → is_landing (after unordered before).stage ≡ true → count_by keeps (orders (after unordered before) (events.Locked true ∷ later)) ≡ 0
changed_is_unkept before later lands =
    let fetch = after unordered before in
    let next = turn_of fetch (events.Locked true) in
    let a = change_keeps fetch.flight fetch.stage _ _ (row_of fetch (events.Locked true)) refl lands in
    let b = current_from next.fetch later (omega arith) in
    let c = count_append keeps next.commands (orders next.fetch later) in
    omega arith

pub changed_has_no_stale : (before later : List Event) → is_landing (after unordered before).stage ≡ true → count_by (hands (comes_from is_stale_one)) (orders (after unordered before) (events.Locked true ∷ later)) ≡ 0
changed_has_no_stale before later lands =
    let fetch = after unordered before in
    let next = turn_of fetch (events.Locked true) in
    let a = change_stales fetch.flight fetch.stage _ _ (row_of fetch (events.Locked true)) refl lands in
    let b = stale_from next.fetch later (omega arith) in
    let c = count_append (hands (comes_from is_stale_one)) next.commands (orders next.fetch later) in
    omega arith

pub odd_is_nothing : (before later : List Event) (p : Page) → is_exchanging (after unordered before).stage ≡ true → p.status ≡ 304 → p.is_about ≡ false → count_by keeps_or_confirms (orders (after unordered before) (events.Whole p ∷ later)) ≡ 0
odd_is_nothing before later p flies status about =
    let fetch = after unordered before in
    let next = turn_of fetch (events.Whole p) in
    let a = odd_lands fetch.flight fetch.stage _ _ p (row_of fetch (events.Whole p)) refl flies status about in
    let b = odd_from next.fetch later (omega arith) in
    let c = count_append keeps_or_confirms next.commands (orders next.fetch later) in
    omega arith

-- what was begun anew
pub on_false : {A : Type 0} (b : Bool) (x y : A) → b ≡ false → cond b x y ≡ y
on_false false x y e = refl
on_false true x y e = absurd (cc)

and_none : (a b : Bool) → b ≡ false → (a && b) ≡ false
and_none true b e = e
and_none false b e = refl

renewed_left : (f : Flight) (stage : Stage) (o : Order) (later : List Event) → is_renewing stage ≡ true → o.is_shared ≡ true → o.is_unwanted ≡ true → orders (record { flight = f; stage = stage }) (events.Ordered o ∷ later) ≡ does.Count counts.Unwanted ∷ does.HandIn Unwanted ∷ []
renewed_left f stages.Renewing o later renewing shared left =
    ap (λ (t : Turn). from_turn t later) (on_true (o.is_shared && o.is_unwanted) (unbegun (flight_of o) false) _ (and_true o.is_shared o.is_unwanted shared left)) ∙ unbegun_from (flight_of o) false later
renewed_left f stage o later renewing shared left = absurd (cc)

pub renewed_is_left : (before later : List Event) (o : Order) → is_renewing (after unordered before).stage ≡ true → o.is_shared ≡ true → o.is_unwanted ≡ true → orders (after unordered before) (events.Ordered o ∷ later) ≡ does.Count counts.Unwanted ∷ does.HandIn Unwanted ∷ []
renewed_is_left before later o renewing shared left =
    let fetch = after unordered before in renewed_left fetch.flight fetch.stage o later renewing shared left

renewed_vain : (f : Flight) (stage : Stage) (o : Order) (later : List Event) → is_renewing stage ≡ true → o.is_shared ≡ true → o.is_unwanted ≡ false → o.is_possible ≡ false → orders (record { flight = f; stage = stage }) (events.Ordered o ∷ later) ≡ does.HandIn Unwanted ∷ []
renewed_vain f stages.Renewing o later renewing shared there vain =
    let over : Turn = goes (flight_of o) stages.Over (does.HandIn Unwanted ∷ []) in
    let a : renewed_so o ≡ over = on_false (o.is_shared && o.is_unwanted) _ _ (and_none o.is_shared o.is_unwanted there) ∙ on_false o.is_possible _ _ vain ∙ on_true o.is_shared _ _ shared in
    ap (λ (t : Turn). from_turn t later) a ∙ ap (λ (rest : List Command). does.HandIn Unwanted ∷ rest) (over_is_quiet (flight_of o) later)
renewed_vain f stage o later renewing shared there vain = absurd (cc)

pub renewed_in_vain : (before later : List Event) (o : Order) → is_renewing (after unordered before).stage ≡ true → o.is_shared ≡ true → o.is_unwanted ≡ false → o.is_possible ≡ false → orders (after unordered before) (events.Ordered o ∷ later) ≡ does.HandIn Unwanted ∷ []
renewed_in_vain before later o renewing shared there vain =
    let fetch = after unordered before in renewed_vain fetch.flight fetch.stage o later renewing shared there vain

-- how an attempt has ended
pub end_is_counted : (f : Flight) (stage : Stage) (event : Event) → is_in_flight stage ≡ true → count_by is_count (turn f stage event).commands + one (is_under_way (turn f stage event).fetch.stage) ≡ 1
end_is_counted f stage event flies = ends_counted f stage event _ (turn_row f stage event) flies

pub success_by : IsOnlyBy (counts_as is_success) is_answer
success_by f stage event some = success_cause f stage event _ (turn_row f stage event) some

pub refusal_by : IsOnlyBy (counts_as is_refusal) is_denial
refusal_by f stage event some = refusal_cause f stage event _ (turn_row f stage event) some

pub failure_by : IsOnlyBy (counts_as is_failure) is_fault
failure_by f stage event some = failure_cause f stage event _ (turn_row f stage event) some

pub want_by : IsOnlyBy (counts_as is_want) is_desertion
want_by f stage event some = want_cause f stage event _ (turn_row f stage event) some

-- what is tried, sent and named
pub again_by : (f : Flight) (stage : Stage) (event : Event) → is_exchanging stage ≡ true → 0 < count_by tries (turn f stage event).commands → is_cut_short event ≡ true
again_by f stage event flies some = again_cause f stage event _ (turn_row f stage event) flies some

pub turn_by : (f : Flight) (stage : Stage) (event : Event) → is_connecting stage ≡ true → 0 < count_by (goes_to is_either) (turn f stage event).commands → is_unconnected event ≡ true
turn_by f stage event flies some = turn_cause f stage event _ (turn_row f stage event) flies some

pub request_fits : (f : Flight) (stage : Stage) (event : Event) → count_by (sends_unlike f) (turn f stage event).commands ≡ 0
request_fits f stage event = sends_fitting f stage event _ (turn_row f stage event)

pub name_fits : (f : Flight) (stage : Stage) (event : Event) → count_by (hands (comes_from (is_misnamed f.source))) (turn f stage event).commands ≡ 0
name_fits f stage event = names_fitting f stage event _ (turn_row f stage event)

pub shelf_stays : (events : List Event) → AllByRecursion (λ event. is_not_telling event ≡ true) events → times is_unshelve events ≡ 0
shelf_stays events all =
    is_never_done is_unshelve harm_telling is_not_telling (λ fetch event. telling_stays fetch.flight fetch.stage event _ (row_of fetch event)) unordered events refl all

-- what was ordered
pub fetch_stays : (f : Flight) (stage : Stage) (event : Event) → is_unordered stage ≡ false → (turn f stage event).fetch.flight ≡ f
fetch_stays f stage event ordered = flight_stays f stage event _ (turn_row f stage event) ordered

pub ordered_as : (P : Flight → Type 0) (f : Flight) (stage : Stage) (o : Order) → is_unordered stage ≡ true → P (flight_of o) → P (turn f stage (events.Ordered o)).fetch.flight
ordered_as P f stages.Ordering o new is =
    split (λ (t : Turn). P t.fetch.flight) (o.is_shared && o.is_unwanted) _ _ (λ _. split (λ (t : Turn). P t.fetch.flight) o.was_unwanted _ _ (λ _. is) (λ _. is))
    (λ _. split (λ (t : Turn). P t.fetch.flight) o.is_possible _ _ (λ _. is) (λ _. is))
ordered_as P f stages.Renewing o new is =
    split (λ (t : Turn). P t.fetch.flight) (o.is_shared && o.is_unwanted) _ _ (λ _. is)
    (λ _. split (λ (t : Turn). P t.fetch.flight) o.is_possible _ _ (λ _. is)
    (λ _. split (λ (t : Turn). P t.fetch.flight) o.is_shared _ _ (λ _. is) (λ _. is)))
ordered_as P f stage o new is = absurd (cc)

pub source_is_ordered : (f : Flight) (stage : Stage) (o : Order) → is_unordered stage ≡ true → (turn f stage (events.Ordered o)).fetch.flight.source ≡ o.source
source_is_ordered f stage o new = ordered_as (λ (x : Flight). x.source ≡ o.source) f stage o new refl

pub shared_is_ordered : (f : Flight) (stage : Stage) (o : Order) → is_unordered stage ≡ true → (turn f stage (events.Ordered o)).fetch.flight.is_shared ≡ o.is_shared
shared_is_ordered f stage o new = ordered_as (λ (x : Flight). x.is_shared ≡ o.is_shared) f stage o new refl

pub asks_and_waits : (events : List Event) → times is_question events ≡ told unordered events + one (is_asked (after unordered events).stage)
asks_and_waits events =
    let a = balances is_question (λ fetch. one (is_asked fetch.stage)) (λ fetch event. asks_balance fetch.flight fetch.stage event _ (row_of fetch event)) unordered events in
    omega arith

pub unasked_is_asked_on : (events : List Event) → AllByRecursion (λ event. is_not_asking event ≡ true) events → times is_ask_no_more events ≡ 0
unasked_is_asked_on events all =
    is_never_done is_ask_no_more harm_asking is_not_asking (λ fetch event. asks_on fetch.flight fetch.stage event _ (row_of fetch event)) unordered events refl all

pub shared_is_unnoted : (events : List Event) → AllByRecursion (λ event. is_not_private event ≡ true) events → times is_note_changed events ≡ 0
shared_is_unnoted events all =
    is_never_done is_note_changed harm_private is_not_private (λ fetch event. notes_private fetch.flight fetch.stage event _ (row_of fetch event)) unordered events refl all
