-- In which order things are done, and which answers leave a connection open.
use Rattle.std.proofs.Common.{◌≡◌, ℕ, ◌+◌, ◌-◌, ◌*◌, ◌≤◌, ◌<◌, List, [], ◌∷◌, ◌++◌, Option, Some, None, Bool, true, false, not, ◌&&◌, cond, arith, count_by, refl, sym, ◌∙◌, ap, subst}
use Rattle.std.specs.List.{AllByRecursion}
use Rattle.request_life.specs.declared.facts.RequestHead.{RequestHead}
use Rattle.request_life.specs.declared.facts.Passage.{Passage}
use Rattle.request_life.specs.declared.commands.Command.{Command}
use Rattle.request_life.specs.declared.commands.Command.TheVariants as does
use Rattle.request_life.specs.declared.events.Event.{Event}
use Rattle.request_life.specs.declared.events.Event.TheVariants as events
use Rattle.request_life.specs.declared.events.Outcome.{Outcome}
use Rattle.request_life.specs.declared.events.Outcome.TheVariants as outcomes
use Rattle.request_life.specs.declared.stages.Content.{Content}
use Rattle.request_life.specs.declared.stages.Content.TheVariants as contents
use Rattle.request_life.specs.declared.stages.Life.{Life}
use Rattle.request_life.specs.declared.stages.Stage.{Stage}
use Rattle.request_life.specs.declared.stages.Stage.TheVariants as stages
use Rattle.request_life.specs.Table.{Turn, turn, content_of, routed_by, passage_fault}
use Rattle.request_life.specs.Rows.{Row, awaits, is_early}
use Rattle.request_life.specs.Rows as rows
use Rattle.request_life.specs.Runs.{unborn, life_at, turn_of, orders}
use Rattle.request_life.specs.Laws.{one, AtNode, Absent, Queued, node_says, node_after, suit_all, is_in_turn, behind, leaves_waiting, is_give, is_take_out, is_cancel, is_more_than_record, goes_further, goes_on, has_broken, is_uploading, is_unread, breaks_nothing}
use Rattle.request_life.proofs.Measures.{node_at, is_answered, is_closed, amid}
use Rattle.request_life.proofs.Walk.{turn_row}
use Rattle.request_life.proofs.Induction.{count_append, one_more, is_never_done}
use Rattle.request_life.proofs.Steps.{give_adds}
use Rattle.request_life.proofs.Whole.{row_of, one_at_most, all_true, quiet_from, silent_from, done_unless_broken, closes_after}
use Rattle.request_life.proofs.Served.{both_true}

-- WHAT THE NODE IS TOLD

idle_says : (stage : Stage) (event : Event) → awaits stage event ≡ false → node_says (node_at stage) event ≡ node_at stage
idle_says (stages.Submitting s) (events.Accepted a) idle = absurd (cc)
idle_says (stages.Submitting s) (events.Declined has_one) idle = absurd (cc)
idle_says (stages.Submitting s) event idle = refl
idle_says stages.Leaving (events.Accepted a) idle = absurd (cc)
idle_says stages.Leaving (events.Declined has_one) idle = absurd (cc)
idle_says stages.Leaving event idle = refl
idle_says (stages.Waiting w) (events.Answered outcome) idle = absurd (cc)
idle_says (stages.Waiting w) event idle = refl
idle_says stage event idle = refl

same_early : (outcome : Outcome) → leaves_waiting outcome ≡ is_early outcome
same_early outcomes.Early = refl
same_early outcome = refl

-- what is done from there on, and what the node has then
abbrev InTurn : AtNode → Turn → Type 0
InTurn m t = (suit_all m t.commands ≡ true) × (node_after m t.commands ≡ node_at t.life.stage)

settled : (outcome : Outcome) (t : Turn) → is_early outcome ≡ false → InTurn Absent t → InTurn (cond (leaves_waiting outcome) Queued Absent) t
settled outcome t early e = subst (λ b. InTurn (cond b Queued Absent) t) (sym (same_early outcome ∙ early)) e

pub keeps_turn : (head : RequestHead) (stage : Stage) (event : Event) (t : Turn) → Row head stage event t → InTurn (node_says (node_at stage) event) t
keeps_turn head stage event t (rows.Unawaited h s e idle) = (refl, idle_says s e idle)
keeps_turn head stage event t (rows.Asked_again h w outcome unmet early first fetched few) = settled outcome t early (refl, refl)
keeps_turn head stage event t (rows.Again_refused h w outcome unmet early second) = settled outcome t early (refl, refl)
keeps_turn head stage event t (rows.Again_many_options h w outcome unmet early first fetched many) = settled outcome t early (refl, refl)
keeps_turn head stage event t (rows.Again_uncached h w outcome unmet early first cached) = settled outcome t early (refl, refl)
keeps_turn head stage event t row = (refl, refl)

in_turn_from : (life : Life) (events : List Event) → is_in_turn (node_at life.stage) life events ≡ true
in_turn_from life [] = refl
in_turn_from life (event ∷ rest) =
    let next = turn_of life event in
    let said = node_says (node_at life.stage) event in
    let a = keeps_turn life.head life.stage event _ (row_of life event) in
    both_true (suit_all said next.commands) (is_in_turn (node_after said next.commands) next.life rest) a.0
    (subst (λ m. is_in_turn m next.life rest ≡ true) (sym a.1) (in_turn_from next.life rest))

pub all_in_turn : (events : List Event) → is_in_turn Absent unborn events ≡ true
all_in_turn events = in_turn_from unborn events

-- WHAT STANDS BEHIND WHAT

either_way : (b : Bool) (n m k l : ℕ) → cond b n m ≡ 0 → (b ≡ true → n ≡ 0 → k ≡ 0) → (b ≡ false → m ≡ 0 → l ≡ 0) → cond b k l ≡ 0
either_way true n m k l e g h = g refl e
either_way false n m k l e g h = h refl e

behind_join : (first is : Command → Bool) (xs ys : List Command) → behind first is xs ≡ 0 → behind first is ys ≡ 0 → (0 < count_by first xs → count_by is ys ≡ 0) → behind first is (xs ++ ys) ≡ 0
behind_join first is [] ys e g h = g
behind_join first is (x ∷ xs) ys e g h =
    let m = one_more first x xs in
    either_way (first x) (count_by is xs) (behind first is xs) (count_by is (xs ++ ys)) (behind first is (xs ++ ys)) e
    (λ t n. let i : one (first x) ≡ 1 = ap one t in
    let a = count_append is xs ys in
    let c = h (omega arith) in
    omega arith)
    (λ _ n. behind_join first is xs ys n g (λ some. h (omega arith)))

pub gives_last : (head : RequestHead) (stage : Stage) (event : Event) (t : Turn) → Row head stage event t → (behind is_give is_more_than_record t.commands ≡ 0) × (behind is_give goes_further t.commands ≡ 0) × (behind is_take_out is_cancel t.commands ≡ 0)
gives_last head stage event t (rows.Unawaited h s e idle) = (refl, refl, refl)
gives_last head stage event t row = (refl, refl, refl)

answered_by : (life : Life) (event : Event) → 0 < count_by is_give (turn_of life event).commands → one (is_answered (turn_of life event).life.stage) ≡ 1
answered_by life event some =
    let a = give_adds life.head life.stage event _ (row_of life event) in
    let b = one_at_most (is_answered (turn_of life event).life.stage) in
    omega arith

pub unbroken : (head : RequestHead) (stage : Stage) (event : Event) (t : Turn) → Row head stage event t → has_broken stage ≡ false → breaks_nothing event ≡ true → has_broken t.life.stage ≡ false
unbroken head stage event t (rows.Unawaited h s e idle) there whole = there
unbroken head stage event t (rows.Broken_unsafe h dangerous) there whole = absurd (cc)
unbroken head stage event t (rows.Left_breaking h) there whole = absurd (cc)
unbroken head stage event t (rows.Finished_breaking h) there whole = absurd (cc)
unbroken head stage event t row there whole = refl

quiet_order : (life : Life) (events : List Event) → has_broken life.stage ≡ false → AllByRecursion (λ event. breaks_nothing event ≡ true) events → behind is_give is_more_than_record (orders life events) ≡ 0
quiet_order life [] there all = refl
quiet_order life (event ∷ rest) there all =
    let next = turn_of life event in
    let u = unbroken life.head life.stage event _ (row_of life event) there all.0 in
    behind_join is_give is_more_than_record next.commands (orders next.life rest) (gives_last life.head life.stage event _ (row_of life event)).0 (quiet_order next.life rest u all.1)
    (λ some. silent_from next.life rest (done_unless_broken next.life.stage (answered_by life event some) u))

pub answer_is_last : (events : List Event) → AllByRecursion (λ event. breaks_nothing event ≡ true) events → behind is_give is_more_than_record (orders unborn events) ≡ 0
answer_is_last events all = quiet_order unborn events refl all

further_order : (life : Life) (events : List Event) → behind is_give goes_further (orders life events) ≡ 0
further_order life [] = refl
further_order life (event ∷ rest) =
    let next = turn_of life event in
    behind_join is_give goes_further next.commands (orders next.life rest) (gives_last life.head life.stage event _ (row_of life event)).1 (further_order next.life rest)
    (λ some. quiet_from next.life rest (answered_by life event some))

pub answer_ends : (events : List Event) → behind is_give goes_further (orders unborn events) ≡ 0
answer_ends events = further_order unborn events

-- what is taken out is so once what was passed on has ended
pub takes_close : (head : RequestHead) (stage : Stage) (event : Event) (t : Turn) → Row head stage event t → 0 < count_by is_take_out t.commands → is_closed t.life.stage ≡ true
takes_close head stage event t (rows.Passed_changed h content p dangerous says) some = refl
takes_close head stage event t (rows.Passed_open h content p dangerous unclear) some = refl
takes_close head stage event t (rows.Unanswered_unsafe h content how unknown dangerous) some = refl
takes_close head stage event t (rows.Parted_changed h upload p says) some = refl
takes_close head stage event t (rows.Parted_lost h upload how unknown says) some = refl
takes_close head stage event t (rows.Parted_late h upload says) some = refl
takes_close head stage event t (rows.Breaking_changed h p says) some = refl
takes_close head stage event t (rows.Broken_off_changed h p says) some = refl
takes_close head stage event t row some = absurd (omega arith)

pub closed_stays : (head : RequestHead) (stage : Stage) (event : Event) (t : Turn) → Row head stage event t → count_by is_cancel t.commands + (1 - one (is_closed t.life.stage)) ≤ 4 * (1 - one (is_closed stage))
closed_stays head stage event t (rows.Unawaited h s e idle) = omega arith
closed_stays head stage event t row = omega arith

closed_from : (life : Life) (later : List Event) → is_closed life.stage ≡ true → count_by is_cancel (orders life later) ≡ 0
closed_from life later closed =
    let i : one (is_closed life.stage) ≡ 1 = ap one closed in
    is_never_done is_cancel (λ l. 1 - one (is_closed l.stage)) (λ e. true)
    (λ l e. let a = closed_stays l.head l.stage e _ (row_of l e) in omega arith) life later (omega arith) (all_true later)

takes_order : (life : Life) (events : List Event) → behind is_take_out is_cancel (orders life events) ≡ 0
takes_order life [] = refl
takes_order life (event ∷ rest) =
    let next = turn_of life event in
    behind_join is_take_out is_cancel next.commands (orders next.life rest) (gives_last life.head life.stage event _ (row_of life event)).2 (takes_order next.life rest)
    (λ some. closed_from next.life rest (takes_close life.head life.stage event _ (row_of life event) some))

pub ended_first : (events : List Event) → behind is_take_out is_cancel (orders unborn events) ≡ 0
ended_first events = takes_order unborn events

-- UNTIL ALL OF A CONTENT HAS COME

fewer : (is by : Bool) → (is ≡ true → by ≡ true) → one is ≤ one by
fewer true by e = let a : one by ≡ 1 = ap one (e refl) in omega arith
fewer false by e = omega arith

on_gives : (c : Command) → goes_on c ≡ true → is_give c ≡ true
on_gives (does.Give given) e = refl
on_gives c e = absurd (cc)

on_fewer : (commands : List Command) → count_by goes_on commands ≤ count_by is_give commands
on_fewer [] = omega arith
on_fewer (c ∷ rest) =
    let a = one_more goes_on c rest in
    let b = one_more is_give c rest in
    let d = fewer (goes_on c) (is_give c) (on_gives c) in
    let e = on_fewer rest in
    omega arith

amid_content : (content : Content) → 1 ≤ amid (stages.Passing content) + one (is_uploading (stages.Passing content))
amid_content contents.Coming = omega arith
amid_content contents.Read = omega arith
amid_content contents.Sent = omega arith

pub amid_gives : (head : RequestHead) (stage : Stage) (event : Event) (t : Turn) → Row head stage event t → count_by is_give t.commands ≤ amid stage + one (is_uploading stage)
amid_gives head stage event t (rows.Unawaited h s e idle) = omega arith
amid_gives head stage event t (rows.Passed_changed h content p dangerous says) = let a = amid_content content in omega arith
amid_gives head stage event t (rows.Passed_open h content p dangerous unclear) = let a = amid_content content in omega arith
amid_gives head stage event t (rows.Passed_safe h content p safe) = let a = amid_content content in omega arith
amid_gives head stage event t (rows.Passed_unchanged h content p says unclear) = let a = amid_content content in omega arith
amid_gives head stage event t (rows.Passed_refused h content) = let a = amid_content content in omega arith
amid_gives head stage event t (rows.Unanswered_unsafe h content how unknown dangerous) = let a = amid_content content in omega arith
amid_gives head stage event t (rows.Unanswered_safe h content how unknown safe) = let a = amid_content content in omega arith
amid_gives head stage event t row = omega arith

amid_small : (content : Content) → amid (stages.Passing content) ≤ 1
amid_small contents.Coming = omega arith
amid_small contents.Read = omega arith
amid_small contents.Sent = omega arith

pub amid_stays : (head : RequestHead) (stage : Stage) (event : Event) (t : Turn) → Row head stage event t → amid t.life.stage ≤ amid stage + one (not (is_unread event))
amid_stays head stage event t (rows.Unawaited h s e idle) = omega arith
amid_stays head stage event t (rows.Routed_on h p none) = let a = amid_small (content_of h) in omega arith
amid_stays head stage event t row = omega arith

closing : (head : RequestHead) (stage : Stage) (event : Event) → is_uploading stage ≡ true → count_by goes_on (turn head stage event).commands ≡ 0
closing head (stages.Passing contents.Coming) event there = closes_after head (stages.Passing contents.Coming) event
closing head (stages.Passing contents.Read) event there = absurd (cc)
closing head (stages.Passing contents.Sent) event there = absurd (cc)
closing head stage event there = absurd (cc)

amid_by : (head : RequestHead) (stage : Stage) (event : Event) (b : Bool) → is_uploading stage ≡ b → count_by goes_on (turn head stage event).commands ≤ amid stage
amid_by head stage event true there = let a = closing head stage event there in omega arith
amid_by head stage event false there =
    let a = on_fewer (turn head stage event).commands in
    let b = amid_gives head stage event _ (turn_row head stage event) in
    let c : one (is_uploading stage) ≡ 0 = ap one there in
    omega arith

amid_from : (life : Life) (later : List Event) → amid life.stage ≡ 0 → AllByRecursion (λ event. is_unread event ≡ true) later → count_by goes_on (orders life later) ≡ 0
amid_from life later none all =
    is_never_done goes_on (λ l. amid l.stage) is_unread
    (λ l e. let a : count_by goes_on (turn_of l e).commands ≤ amid l.stage = amid_by l.head l.stage e (is_uploading l.stage) refl in
    let b = amid_stays l.head l.stage e _ (row_of l e) in
    omega arith) life later none all

routed_amid : (head : RequestHead) (o : Option ℕ) → head.has_upload ≡ true → amid (routed_by head o).life.stage ≡ 0
routed_amid head (Some status) upload = refl
routed_amid head None upload = ap (λ b. amid (stages.Passing (cond b contents.Coming contents.Read))) upload

pub unread_closes : (head : RequestHead) (p : Passage) (later : List Event) → head.has_upload ≡ true → AllByRecursion (λ event. is_unread event ≡ true) later → count_by goes_on (orders (life_at head stages.Routing) (events.Routed p ∷ later)) ≡ 0
unread_closes head p later upload all =
    let t = turn_of (life_at head stages.Routing) (events.Routed p) in
    let a : count_by goes_on t.commands ≡ 0 =
    subst (λ b. count_by (λ c. b && goes_on c) t.commands ≡ 0) upload (closes_after head stages.Routing (events.Routed p)) in
    let b = amid_from t.life later (routed_amid head (passage_fault p) upload) all in
    let c = count_append goes_on t.commands (orders t.life later) in
    omega arith
