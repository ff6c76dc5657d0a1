-- What holds of each run.
use Rattle.std.proofs.Common.{◌≡◌, ◌==◌, nat_lt, ◌+◌, ◌-◌, ◌≤◌, ◌<◌, List, [], ◌∷◌, ◌++◌, cond, Option, Some, None, Bool, true, false, not, ◌&&◌, ◌||◌, arith, count_by, refl, ◌∙◌, ap, subst}
use Rattle.std.specs.List.{AllByRecursion}
use Rattle.request_life.specs.declared.facts.RequestHead.{RequestHead}
use Rattle.request_life.specs.declared.commands.Command.{Command}
use Rattle.request_life.specs.declared.events.Event.{Event}
use Rattle.request_life.specs.declared.events.Event.TheVariants as events
use Rattle.request_life.specs.declared.events.Fetched.{Fetched}
use Rattle.request_life.specs.declared.events.Outcome.TheVariants as outcomes
use Rattle.request_life.specs.declared.stages.Life.{Life}
use Rattle.request_life.specs.declared.stages.Share.{Share}
use Rattle.request_life.specs.declared.stages.Share.TheVariants as shares
use Rattle.request_life.specs.declared.stages.Content.{Content}
use Rattle.request_life.specs.declared.stages.Content.TheVariants as contents
use Rattle.request_life.specs.declared.stages.Stage.{Stage}
use Rattle.request_life.specs.declared.stages.Stage.TheVariants as stages
use Rattle.fair_use.specs.declared.unanswered.Upload.TheVariants as uploads
use Rattle.request_life.specs.Table.{Turn, turn, has_joined, has_begun, is_for_node, opens_tunnel}
use Rattle.request_life.specs.Rows.{Row}
use Rattle.request_life.specs.Runs.{unborn, life_at, turn_of, after, orders, times, moves_where, IsOnlyBy}
use Rattle.request_life.specs.Laws.{is_late, is_unserved, asked_in, told_in, opened_in, ended_in, is_asked, is_open, is_cancel, is_receiving, is_submitted, is_submit_so, wants_shared, wants_stored, is_fetch_for_all, is_stream, may_stream, lets_join, lets_use_stored, is_for_part, is_own, is_own_success, tells_so, came_back, is_forbidden, is_long_one, is_large, takes_by_answer, has_answered, one, is_submit_alone, has_unsendable, ends_connection_by, is_for_store_alone, is_to_send, answers_so, is_give, is_hit, is_fetched, is_stale, is_tunnel, is_early_one, is_submit, is_fetch, is_withdraw, is_pass_on, is_open_tunnel, is_sent, is_take_out, is_record, is_more_than_record, goes_further, is_again, ends_passage, says_nothing, says_nothing_unsent, says_nothing_in_time, has_broken, is_over, is_recorded, is_waiting, is_left, is_met_hit, has_stale, is_opened, aims_well, routes_well, bars, is_for_store, must_close, goes_on, heard, said, sent_unsafe, pending_unsafe, unchanged_unsafe, taken_in, settled_in, awaited_in}
use Rattle.request_life.proofs.Measures.{is_done, is_answered, has_departed, has_gone_on, may_fetch, is_beginner, submits_left, all_submits_left, may_break, may_part_unsent, may_part_whole, passes_left, tunnels_left, steps_left, may_pass, sends_fields}
use Rattle.request_life.proofs.Walk.{turn_row, split}
use Rattle.request_life.proofs.Induction.{adds_up, is_used_up, is_filled_up, runs_down, balances, is_never_done, is_come_to}
use Rattle.request_life.proofs.Causes.{request_stays, asks_balance, opens_balance, shared_cause, stored_cause, whole_cause, stream_cause, marked_stays, by_answer_cause, last_ends, back_cause, forbidden_cause, long_cause, large_cause, late_cause, unserved_cause, error_cause}
use Rattle.request_life.proofs.Steps.{give_adds, record_adds, submit_uses, all_submits_use, pass_uses, tunnel_uses, steps_run_down, wait_balances, unsafe_balances, take_out_cause, broken_stays, unsent_stays, whole_stays, is_quiet, is_silent, departs_by_leaving, hit_cause, stale_cause, tunnel_cause, open_cause, pass_cause, barred_stays, stored_stays, passed_stays, ends_only, options_stay, closes, early_cause, Agrees, others_stays, keeps_agreed}

pub row_of : (life : Life) (event : Event) → Row life.head life.stage event (turn_of life event)
row_of life event = turn_row life.head life.stage event

answers_are : (events : List Event) → times is_give events ≡ one (is_answered (after unborn events).stage)
answers_are events =
    let a = adds_up is_give (λ life. one (is_answered life.stage)) (λ life event. give_adds life.head life.stage event _ (row_of life event)) unborn events in
    omega arith

pub one_at_most : (b : Bool) → one b ≤ 1
one_at_most true = omega arith
one_at_most false = omega arith

pub answers_at_most : (events : List Event) → times is_give events ≤ 1
answers_at_most events = let a = answers_are events in let b = one_at_most (is_answered (after unborn events).stage) in omega arith

-- over with its client there: it was answered
stays_to_end : (stage : Stage) → is_over stage ≡ true → one (has_departed stage) ≡ 0 → one (is_answered stage) ≡ 1
stays_to_end stages.Ended over there = refl
stays_to_end stages.Left over there = absurd (omega arith)
stays_to_end stage over there = absurd (cc)

pub answers_exactly : (events : List Event) → is_over (after unborn events).stage ≡ true → count_by is_left events ≡ 0 → times is_give events ≡ 1
answers_exactly events over stayed =
    let a = is_come_to (λ life. one (has_departed life.stage)) is_left (λ life event. departs_by_leaving life.head life.stage event _ (row_of life event)) unborn events in
    let b : one (has_departed (after unborn events).stage) ≡ 0 = omega arith in
    answers_are events ∙ stays_to_end (after unborn events).stage over b

pub all_true : (events : List Event) → AllByRecursion (λ e. true ≡ true) events
all_true [] = tt
all_true (e ∷ rest) = (refl, all_true rest)

-- what is answered is left alone
pub quiet_from : (life : Life) (later : List Event) → one (is_answered life.stage) ≡ 1 → count_by goes_further (orders life later) ≡ 0
quiet_from life later answered =
    is_never_done goes_further (λ l. 1 - one (is_answered l.stage)) (λ e. true)
    (λ l e. let a = is_quiet l.head l.stage e _ (row_of l e) in omega arith) life later (omega arith) (all_true later)

pub answers_last : (events later : List Event) → 0 < times is_give events → count_by goes_further (orders (after unborn events) later) ≡ 0
answers_last events later some =
    let a = answers_are events in
    let b = one_at_most (is_answered (after unborn events).stage) in
    quiet_from (after unborn events) later (omega arith)

pub done_unless_broken : (stage : Stage) → one (is_answered stage) ≡ 1 → has_broken stage ≡ false → one (is_done stage) ≡ 1
done_unless_broken stages.Giving answered there = refl
done_unless_broken stages.Ended answered there = refl
done_unless_broken stages.Breaking answered there = absurd (cc)
done_unless_broken stages.BrokenOff answered there = absurd (cc)
done_unless_broken stage answered there = absurd (omega arith)

pub silent_from : (life : Life) (later : List Event) → one (is_done life.stage) ≡ 1 → count_by is_more_than_record (orders life later) ≡ 0
silent_from life later done =
    is_never_done is_more_than_record (λ l. 1 - one (is_done l.stage)) (λ e. true)
    (λ l e. let a = is_silent l.head l.stage e _ (row_of l e) in omega arith) life later (omega arith) (all_true later)

pub answers_silent : (events later : List Event) → 0 < times is_give events → has_broken (after unborn events).stage ≡ false → count_by is_more_than_record (orders (after unborn events) later) ≡ 0
answers_silent events later some there =
    let a = answers_are events in
    let b = one_at_most (is_answered (after unborn events).stage) in
    silent_from (after unborn events) later (done_unless_broken (after unborn events).stage (omega arith) there)

pub records_are : (events : List Event) → times is_record events ≡ one (is_recorded (after unborn events).stage)
records_are events =
    let a = adds_up is_record (λ life. one (is_recorded life.stage)) (λ life event. record_adds life.head life.stage event _ (row_of life event)) unborn events in
    omega arith

pub submits_twice : (events : List Event) → times is_submit events ≤ 2 + count_by is_again events
submits_twice events =
    let a = is_filled_up is_submit (λ life. submits_left life.stage) is_again (λ life event. submit_uses life.head life.stage event _ (row_of life event)) unborn events in
    omega arith

pub submits_thrice : (events : List Event) → times is_submit events ≤ 3
submits_thrice events =
    let a = is_used_up is_submit (λ life. all_submits_left life.stage) (λ life event. all_submits_use life.head life.stage event _ (row_of life event)) unborn events in
    omega arith

pub passes_once : (events : List Event) → times is_pass_on events ≤ 1
passes_once events =
    let a = is_used_up is_pass_on (λ life. passes_left life.stage) (λ life event. pass_uses life.head life.stage event _ (row_of life event)) unborn events in
    omega arith

pub opens_once : (events : List Event) → times is_open_tunnel events ≤ 1
opens_once events =
    let a = is_used_up is_open_tunnel (λ life. tunnels_left life.stage) (λ life event. tunnel_uses life.head life.stage event _ (row_of life event)) unborn events in
    omega arith

pub runs_out : (events : List Event) → moves_where awaited_in unborn events ≤ 15
runs_out events =
    let a = runs_down awaited_in (λ life. steps_left life.stage) (λ life event. steps_run_down life.head life.stage event _ (row_of life event)) unborn events in
    omega arith

pub withdraws : (events : List Event) → moves_where taken_in unborn events ≡ times is_withdraw events + moves_where settled_in unborn events + one (is_waiting (after unborn events).stage)
withdraws events =
    let a = balances taken_in settled_in is_withdraw (λ life. one (is_waiting life.stage)) (λ life event. wait_balances life.head life.stage event _ (row_of life event)) unborn events in
    omega arith

pub takes_out : (events : List Event) → moves_where sent_unsafe unborn events ≡ times is_take_out events + moves_where unchanged_unsafe unborn events + pending_unsafe (after unborn events)
takes_out events =
    let a = balances sent_unsafe unchanged_unsafe is_take_out pending_unsafe (λ life event. unsafe_balances life.head life.stage event _ (row_of life event)) unborn events in
    omega arith

pub take_out_by : IsOnlyBy is_take_out ends_passage
take_out_by head stage event some = take_out_cause head stage event _ (turn_row head stage event) some

-- from a stage at which nothing may be taken out but by the event that `fits` doesn't allow
from_broken : (life : Life) (later : List Event) → may_break life.stage ≡ 0 → AllByRecursion (λ event. says_nothing event ≡ true) later → count_by is_take_out (orders life later) ≡ 0
from_broken life later none all =
    is_never_done is_take_out (λ l. may_break l.stage) says_nothing (λ l event. broken_stays l.head l.stage event _ (row_of l event)) life later none all

from_unsent : (life : Life) (later : List Event) → may_part_unsent life.stage ≡ 0 → AllByRecursion (λ event. says_nothing_unsent event ≡ true) later → count_by is_take_out (orders life later) ≡ 0
from_unsent life later none all =
    is_never_done is_take_out (λ l. may_part_unsent l.stage) says_nothing_unsent (λ l event. unsent_stays l.head l.stage event _ (row_of l event)) life later none all

from_whole : (life : Life) (later : List Event) → may_part_whole life.stage ≡ 0 → AllByRecursion (λ event. says_nothing_in_time event ≡ true) later → count_by is_take_out (orders life later) ≡ 0
from_whole life later none all =
    is_never_done is_take_out (λ l. may_part_whole l.stage) says_nothing_in_time (λ l event. whole_stays l.head l.stage event _ (row_of l event)) life later none all

-- all that is done from a turn on
abbrev from_turn : Turn → List Event → List Command
from_turn t later = t.commands ++ orders t.life later

-- whichever of two turns it is
either_turn : (P : Turn → Type 0) (b : Bool) (x y : Turn) → P x → P y → P (cond b x y)
either_turn P true x y f g = f
either_turn P false x y f g = g

pub broken_takes_none : (head : RequestHead) (later : List Event) → AllByRecursion (λ event. says_nothing event ≡ true) later → count_by is_take_out (orders (life_at head (stages.Passing contents.Coming)) (events.UploadBroken ∷ later)) ≡ 0
broken_takes_none head later all =
    either_turn (λ t. count_by is_take_out (from_turn t later) ≡ 0) head.is_unsafe _ _
    (from_broken (life_at head stages.Breaking) later refl all) (from_broken (life_at head stages.Giving) later refl all)

pub unsent_takes_none : (head : RequestHead) (content : Content) (later : List Event) → is_to_send content ≡ true → AllByRecursion (λ event. says_nothing_unsent event ≡ true) later → count_by is_take_out (orders (life_at head (stages.Passing content)) (events.Left ∷ later)) ≡ 0
unsent_takes_none head contents.Coming later unsent all =
    either_turn (λ t. count_by is_take_out (from_turn t later) ≡ 0) head.is_unsafe _ _
    (from_unsent (life_at head (stages.Parting uploads.Broken)) later refl all) (from_unsent (life_at head stages.Left) later refl all)
unsent_takes_none head contents.Read later unsent all =
    either_turn (λ t. count_by is_take_out (from_turn t later) ≡ 0) head.is_unsafe _ _
    (from_unsent (life_at head (stages.Parting uploads.Broken)) later refl all) (from_unsent (life_at head stages.Left) later refl all)
unsent_takes_none head contents.Sent later unsent all = absurd (cc)

pub whole_takes_none : (head : RequestHead) (later : List Event) → AllByRecursion (λ event. says_nothing_in_time event ≡ true) later → count_by is_take_out (orders (life_at head (stages.Passing contents.Sent)) (events.Left ∷ later)) ≡ 0
whole_takes_none head later all =
    either_turn (λ t. count_by is_take_out (from_turn t later) ≡ 0) head.is_unsafe _ _
    (from_whole (life_at head (stages.Parting uploads.Whole)) later refl all) (from_whole (life_at head stages.Left) later refl all)

pub barred_goes_nowhere : (events : List Event) → AllByRecursion (λ event. bars event ≡ true) events → times is_sent events ≡ 0
barred_goes_nowhere events all =
    is_never_done is_sent (λ life. one (has_gone_on life.stage)) bars (λ life event. barred_stays life.head life.stage event _ (row_of life event)) unborn events refl all

pub stored_is_not_fetched : (events : List Event) → AllByRecursion (λ event. is_for_store event ≡ true) events → times is_fetch events ≡ 0
stored_is_not_fetched events all =
    is_never_done is_fetch (λ life. one (may_fetch life.stage)) is_for_store (λ life event. stored_stays life.head life.stage event _ (row_of life event)) unborn events refl all

pub hit_by : IsOnlyBy (answers_so is_hit) is_met_hit
hit_by head stage event some = hit_cause head stage event _ (turn_row head stage event) some

pub stale_by : IsOnlyBy (answers_so is_stale) has_stale
stale_by head stage event some = stale_cause head stage event _ (turn_row head stage event) some

pub tunnel_by : IsOnlyBy (answers_so is_tunnel) is_opened
tunnel_by head stage event some = tunnel_cause head stage event _ (turn_row head stage event) some

pub open_by : IsOnlyBy is_open_tunnel aims_well
open_by head stage event some = open_cause head stage event _ (turn_row head stage event) some

pub pass_by : IsOnlyBy is_pass_on routes_well
pass_by head stage event some = pass_cause head stage event _ (turn_row head stage event) some

pub closes_after : (head : RequestHead) (stage : Stage) (event : Event) → count_by (λ c. must_close head stage event && goes_on c) (turn head stage event).commands ≡ 0
closes_after head stage event = closes head stage event _ (turn_row head stage event)

agrees_on : (so_far : Option Bool) (life : Life) (events : List Event) → Agrees so_far life.stage → Agrees (said so_far life events) (after life events).stage
agrees_on so_far life [] agrees = agrees
agrees_on so_far life (event ∷ rest) agrees =
    agrees_on (heard so_far life.stage event) (turn_of life event).life rest (keeps_agreed life.head life.stage event _ so_far (row_of life event) agrees)

pub keeps_private : (before : List Event) (f : Fetched) → said None unborn before ≡ Some true → f.is_kept ≡ false → f.is_stale ≡ false → count_by (answers_so is_fetched) (turn_of (after unborn before) (events.Answered (outcomes.Fetched f))).commands ≡ 0
keeps_private before f is unkept fresh =
    let agrees : Agrees (Some true) (after unborn before).stage =
    subst (λ (s : Option Bool). Agrees s (after unborn before).stage) is (agrees_on None unborn before tt) in
    others_stays (after unborn before).head (after unborn before).stage _ _ f (row_of (after unborn before) (events.Answered (outcomes.Fetched f))) refl agrees unkept fresh

begins_it : (share : Share) → has_begun share ≡ true → has_joined share ≡ false
begins_it shares.Began e = refl
begins_it share e = absurd (cc)

begun_said : (so_far : Option Bool) (stage : Stage) → Agrees so_far stage → is_beginner stage ≡ true → so_far ≡ Some false
begun_said so_far (stages.Waiting w) agrees begun = agrees ∙ ap Some (begins_it w.share begun)
begun_said so_far stage agrees begun = absurd (cc)

pub early_by : (events : List Event) (event : Event) → 0 < count_by (answers_so is_early_one) (turn_of (after unborn events) event).commands → said None unborn events ≡ Some false
early_by events event some =
    let life = after unborn events in
    begun_said (said None unborn events) life.stage (agrees_on None unborn events tt) (early_cause life.head life.stage event _ (row_of life event) some)

pub stored_is_not_passed : (events : List Event) → AllByRecursion (λ event. is_for_store_alone event ≡ true) events → times is_pass_on events ≡ 0
stored_is_not_passed events all =
    is_never_done is_pass_on (λ life. may_pass life.stage) is_for_store_alone (λ life event. passed_stays life.head life.stage event _ (row_of life event)) unborn events refl all

pub ends_only_there : (head : RequestHead) (stage : Stage) (event : Event) → count_by (λ c. ends_connection_by c && not (must_close head stage event || head.is_last)) (turn head stage event).commands ≡ 0
ends_only_there head stage event = ends_only head stage event _ (turn_row head stage event)

pub unsendable_is_not_submitted : (events : List Event) → AllByRecursion (λ event. has_unsendable event ≡ true) events → times is_submit_alone events ≡ 0
unsendable_is_not_submitted events all =
    is_never_done is_submit_alone (λ life. sends_fields life.head life.stage) has_unsendable (λ life event. options_stay life.head life.stage event _ (row_of life event)) unborn events refl all

-- a request stays what was received
pub request_is_same : (head : RequestHead) (stage : Stage) (event : Event) → is_receiving stage ≡ false → (turn head stage event).life.head ≡ head
request_is_same head stage event there = request_stays head stage event _ (turn_row head stage event) there

pub request_is_received : (old head : RequestHead) → (turn old stages.Receiving (events.Received head)).life.head ≡ head
request_is_received old head =
    let P : Turn → Type 0 = λ t. t.life.head ≡ head in
    split P (is_for_node head) _ _
    (λ _. split P head.is_too_long _ _ (λ _. refl) (λ _. split P head.has_content _ _ (λ _. refl) (λ _. refl)))
    (λ _. split P (opens_tunnel head) _ _ (λ _. split P head.is_too_long _ _ (λ _. refl) (λ _. refl))
    (λ _. split P head.has_passage _ _ (λ _. split P head.has_foreign_coding _ _ (λ _. refl) (λ _. refl)) (λ _. refl)))

-- what is asked is awaited, and what is opened ends
abbrev none : Command → Bool
none command = false

none_of : (commands : List Command) → count_by none commands ≡ 0
none_of [] = refl
none_of (c ∷ rest) = none_of rest

pub asks_and_waits : (events : List Event) → moves_where asked_in unborn events ≡ moves_where told_in unborn events + one (is_asked (after unborn events).stage)
asks_and_waits events =
    let a = balances asked_in told_in none (λ life. one (is_asked life.stage))
    (λ life event. let b = asks_balance life.head life.stage event _ (row_of life event) in let c = none_of (turn_of life event).commands in omega arith) unborn events in
    let d = none_of (orders unborn events) in
    omega arith

pub opens_and_ends : (events : List Event) → moves_where opened_in unborn events ≡ times is_cancel events + moves_where ended_in unborn events + one (is_open (after unborn events).stage)
opens_and_ends events =
    let a = balances opened_in ended_in is_cancel (λ life. one (is_open life.stage)) (λ life event. opens_balance life.head life.stage event _ (row_of life event)) unborn events in
    omega arith

-- what is asked for
pub shared_by : IsOnlyBy (is_submit_so wants_shared) lets_join
shared_by head stage event some = shared_cause head stage event _ (turn_row head stage event) some

pub stored_by : IsOnlyBy (is_submit_so wants_stored) lets_use_stored
stored_by head stage event some = stored_cause head stage event _ (turn_row head stage event) some

pub whole_by : IsOnlyBy is_fetch_for_all is_for_part
whole_by head stage event some = whole_cause head stage event _ (turn_row head stage event) some

pub stream_by : (head : RequestHead) (stage : Stage) (event : Event) → 0 < count_by is_stream (turn head stage event).commands → may_stream head event ≡ true
stream_by head stage event some = stream_cause head stage event _ (turn_row head stage event) some

-- what a status says
pub back_by : IsOnlyBy (answers_so (is_own 508)) (λ event. tells_so (λ status. status == 508) event || came_back event)
back_by head stage event some = back_cause head stage event _ (turn_row head stage event) some

pub forbidden_by : IsOnlyBy (answers_so (is_own 403)) (λ event. tells_so (λ status. status == 403) event || is_forbidden event)
forbidden_by head stage event some = forbidden_cause head stage event _ (turn_row head stage event) some

pub long_by : IsOnlyBy (answers_so (is_own 414)) (λ event. tells_so (λ status. status == 414) event || is_long_one event)
long_by head stage event some = long_cause head stage event _ (turn_row head stage event) some

pub large_by : IsOnlyBy (answers_so (is_own 413)) (λ event. tells_so (λ status. status == 413) event || is_large event)
large_by head stage event some = large_cause head stage event _ (turn_row head stage event) some

pub late_by : IsOnlyBy (answers_so (is_own 504)) (λ event. tells_so (λ status. status == 504) event || is_late event)
late_by head stage event some = late_cause head stage event _ (turn_row head stage event) some

pub unserved_by : IsOnlyBy (answers_so (is_own 501)) (λ event. tells_so (λ status. status == 501) event || is_unserved event)
unserved_by head stage event some = unserved_cause head stage event _ (turn_row head stage event) some

pub error_by : IsOnlyBy (answers_so is_own_success) (tells_so (λ status. nat_lt status 400))
error_by head stage event some = error_cause head stage event _ (turn_row head stage event) some

-- what is taken out, given and ended
pub by_answer_by : IsOnlyBy takes_by_answer has_answered
by_answer_by head stage event some = by_answer_cause head stage event _ (turn_row head stage event) some

pub marked_has_no_stale : (head : RequestHead) (stage : Stage) (event : Event) → is_submitted stage ≡ true → head.has_loop_marks ≡ true → count_by (answers_so is_stale) (turn head stage event).commands ≡ 0
marked_has_no_stale head stage event there marked = marked_stays head stage event _ (turn_row head stage event) there marked

pub last_is_last : (head : RequestHead) (stage : Stage) (event : Event) → count_by (λ c. goes_on c && head.is_last) (turn head stage event).commands ≡ 0
last_is_last head stage event = last_ends head stage event _ (turn_row head stage event)
