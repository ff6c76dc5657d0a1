-- What a request begins with, where it goes, and what must not be lost.
use Rattle.std.proofs.Common.{◌≡◌, ℕ, ◌+◌, ◌*◌, ◌≤◌, ◌<◌, List, [], ◌∷◌, None, if◌then◌else◌, Bool, true, false, not, ◌&&◌, ◌||◌, cond, arith, count_by, refl, sym, ◌∙◌, ap}
use Rattle.std.specs.List.{AllByRecursion}
use Rattle.node_terms.specs.declared.mode.Mode.{Mode}
use Rattle.node_terms.specs.declared.mode.Mode.TheVariants.{Shared, Cached, Private}
use Rattle.fair_use.specs.Unanswered.{is_carried_out}
use Rattle.request_life.specs.declared.facts.Choice.TheVariants.{Ask}
use Rattle.request_life.specs.declared.facts.Lookup.{Lookup}
use Rattle.request_life.specs.declared.facts.Method.{Method}
use Rattle.request_life.specs.declared.facts.Method.TheVariants as methods
use Rattle.request_life.specs.declared.facts.Passage.{Passage}
use Rattle.request_life.specs.declared.facts.RequestHead.{RequestHead}
use Rattle.request_life.specs.declared.commands.Answer.TheVariants as answers
use Rattle.request_life.specs.declared.commands.Command.TheVariants as does
use Rattle.request_life.specs.declared.events.Acceptance.{Acceptance}
use Rattle.request_life.specs.declared.events.Event.{Event}
use Rattle.request_life.specs.declared.events.Event.TheVariants as events
use Rattle.request_life.specs.declared.events.PassedEnd.TheVariants as passages
use Rattle.request_life.specs.declared.events.PassedHead.{PassedHead}
use Rattle.request_life.specs.declared.stages.Content.{Content}
use Rattle.request_life.specs.declared.stages.Content.TheVariants as contents
use Rattle.request_life.specs.declared.stages.Round.{Round}
use Rattle.request_life.specs.declared.stages.Round.TheVariants.{First}
use Rattle.request_life.specs.declared.stages.Stage.{Stage}
use Rattle.request_life.specs.declared.stages.Stage.TheVariants as stages
use Rattle.request_life.specs.declared.stages.Submission.{Submission}
use Rattle.request_life.specs.Table.{Turn, turn, goes, turn_down, routed_by, answer_of, asks, bar_of, begins, beside, chosen, found_under, goes_beside, is_first, is_for_node, is_get, is_head, is_connect, is_private, is_shared, is_unclear, opens_tunnel, stands_apart, submits, submits_part, takes_stale, unless_barred}
use Rattle.request_life.specs.Rows.{Row}
use Rattle.request_life.specs.Rows as rows
use Rattle.request_life.specs.Runs.{unborn, times, IsOnlyBy}
use Rattle.request_life.specs.Laws.{one, answers_so, comes_for_nobody, goes_past, is_due_as, is_for_nobody, is_for_server, is_get_one, is_head_one, is_kept_apart, is_look_up, is_looking_up, is_own, is_passed_one, is_route, is_sendable, is_sent, is_submit, is_submit_so, is_submitted, is_uncollected, is_uploading, is_url, may_be_answered, may_be_asked, may_be_passed, may_have_stale, may_stream, may_tunnel, wants_own, wants_shared}
use Rattle.request_life.proofs.Measures.{may_go, may_look_up}
use Rattle.request_life.proofs.Walk.{split, both, not_true, turn_row}
use Rattle.request_life.proofs.Induction.{is_never_done}
use Rattle.request_life.proofs.Steps.{same_node}
use Rattle.request_life.proofs.Whole.{row_of}
use Rattle.request_life.proofs.Served.{on_true, on_false, and_none, none_and, both_true, long_not, unbarred, url_is, unfaulted, same_stale}

-- WITH WHAT IT BEGINS

begun_with : (head : RequestHead) (b : Bool) → (cond b (goes head stages.Collecting (does.Collect ∷ [])) (goes head (stages.LookingUp First) (does.LookUp ∷ []))).commands ≡ (if b then does.Collect else does.LookUp) ∷ []
begun_with head true = refl
begun_with head false = refl

pub content_is_first : (old head : RequestHead) → may_be_answered head head.method ≡ true → head.is_too_long ≡ false → (turn old stages.Receiving (events.Received head)).commands ≡ (if head.has_content then does.Collect else does.LookUp) ∷ []
content_is_first old head node short =
    let a : begins head ≡ cond head.has_content (goes head stages.Collecting (does.Collect ∷ [])) (goes head (stages.LookingUp First) (does.LookUp ∷ [])) =
    on_true (is_for_node head) _ _ (sym (same_node head head.method) ∙ node) ∙ on_false head.is_too_long _ _ short in
    ap (λ (t : Turn). t.commands) a ∙ begun_with head head.has_content

pub collects_first : (head : RequestHead) (stage : Stage) (event : Event) (t : Turn) → Row head stage event t → count_by is_look_up t.commands + one (may_look_up t.life.stage) ≤ 4 * (one (may_look_up stage) + one (not (is_uncollected event)))
collects_first head stage event t (rows.Unawaited h s e idle) = omega arith
collects_first head stage event t (rows.Looks_up old new node none) = let a : one (not new.has_content) ≡ 1 = ap (λ b. one (not b)) none in omega arith
collects_first head stage event t row = omega arith

pub uncollected_is_not_looked_up : (events : List Event) → AllByRecursion (λ event. is_uncollected event ≡ true) events → times is_look_up events ≡ 0
uncollected_is_not_looked_up events all =
    is_never_done is_look_up (λ life. one (may_look_up life.stage)) is_uncollected (λ life event. collects_first life.head life.stage event _ (row_of life event)) unborn events refl all

uploads_so : (b : Bool) → is_uploading (stages.Passing (if b then contents.Coming else contents.Read)) ≡ b
uploads_so true = refl
uploads_so false = refl

pub content_comes : (head : RequestHead) (p : Passage) → may_be_passed p ≡ true → is_uploading (turn head stages.Routing (events.Routed p)).life.stage ≡ head.has_upload
content_comes head p may =
    ap (λ o. is_uploading (routed_by head o).life.stage) (unfaulted p.target p.has_come_back p.is_barred p.is_last_recipient p.has_many_options p.has_room may) ∙ uploads_so head.has_upload

-- FOR WHOM IT IS

same_tunnel : (head : RequestHead) (m : Method) → may_tunnel head m ≡ (is_connect m && head.has_tunnels)
same_tunnel head methods.Get = refl
same_tunnel head methods.Head = refl
same_tunnel head methods.Connect = refl
same_tunnel head methods.Other = refl

not_one : (a b : Bool) → a ≡ true → one (not (not a && b)) ≡ 1
not_one true b e = refl
not_one false b e = absurd (cc)

not_two : (a b c : Bool) → b ≡ true → one (not (a && (not b && c))) ≡ 1
not_two true true c e = refl
not_two false true c e = refl
not_two a false c e = absurd (cc)

not_three : (a b p f : Bool) → p ≡ true → f ≡ false → one (not (a && (b && (not p || f)))) ≡ 1
not_three true true true false e g = refl
not_three true false true false e g = refl
not_three false b true false e g = refl
not_three a b p f e g = absurd (cc)

for_node_fits : (new : RequestHead) → is_for_node new ≡ true → one (not (is_for_nobody new)) ≡ 1
for_node_fits new node = not_one (may_be_answered new new.method) _ (same_node new new.method ∙ node)

pub nobody_stays : (head : RequestHead) (stage : Stage) (event : Event) (t : Turn) → Row head stage event t → count_by is_sent t.commands + one (may_go t.life.stage) ≤ 4 * (one (may_go stage) + one (not (comes_for_nobody event)))
nobody_stays head stage event t (rows.Unawaited h s e idle) = omega arith
nobody_stays head stage event t (rows.Collects old new node has) = let a = for_node_fits new node in omega arith
nobody_stays head stage event t (rows.Looks_up old new node none) = let a = for_node_fits new node in omega arith
nobody_stays head stage event t (rows.Aims old new tunnel) =
    let a : one (not (is_for_nobody new)) ≡ 1 = not_two (not (may_be_answered new new.method)) (may_tunnel new new.method) _ (same_tunnel new new.method ∙ tunnel) in omega arith
nobody_stays head stage event t (rows.Routes old new node has known) =
    let a : one (not (is_for_nobody new)) ≡ 1 = not_three (not (may_be_answered new new.method)) (not (may_tunnel new new.method)) new.has_passage new.has_foreign_coding has known in omega arith
nobody_stays head stage event t row = omega arith

pub nobody_goes_nowhere : (events : List Event) → AllByRecursion (λ event. comes_for_nobody event ≡ true) events → times is_sent events ≡ 0
nobody_goes_nowhere events all =
    is_never_done is_sent (λ life. one (may_go life.stage)) comes_for_nobody (λ life event. nobody_stays life.head life.stage event _ (row_of life event)) unborn events refl all

neither_way : {A : Type 0} (p f : Bool) (x y : A) → (not p || f) ≡ true → cond p (cond f x y) x ≡ x
neither_way true true x y e = refl
neither_way true false x y e = absurd (cc)
neither_way false f x y e = refl

one_way : {A : Type 0} (p f : Bool) (x y z : A) → (p && not f) ≡ true → cond p (cond f x y) z ≡ y
one_way true false x y z e = refl
one_way true true x y z e = absurd (cc)
one_way false f x y z e = absurd (cc)

not_for_node : (head : RequestHead) → not (may_be_answered head head.method) ≡ true → is_for_node head ≡ false
not_for_node head e = sym (same_node head head.method) ∙ not_true (may_be_answered head head.method) e

no_tunnel : (head : RequestHead) → not (may_tunnel head head.method) ≡ true → opens_tunnel head ≡ false
no_tunnel head e = sym (same_tunnel head head.method) ∙ not_true (may_tunnel head head.method) e

pub nobody_is_told : (old head : RequestHead) → is_for_nobody head ≡ true → (turn old stages.Receiving (events.Received head)).commands ≡ does.Give (record { answer = answers.Own 501; is_last = true }) ∷ []
nobody_is_told old head nobody =
    let a = both (not (may_be_answered head head.method)) _ nobody in
    let b = both (not (may_tunnel head head.method)) (not head.has_passage || head.has_foreign_coding) a.1 in
    ap (λ (t : Turn). t.commands) (on_false (is_for_node head) _ _ (not_for_node head a.0) ∙ on_false (opens_tunnel head) _ _ (no_tunnel head b.0) ∙ neither_way head.has_passage head.has_foreign_coding (turn_down head 501) (goes head stages.Routing (does.Route ∷ [])) b.1)

pub server_is_sought : (old head : RequestHead) → is_for_server head ≡ true → (turn old stages.Receiving (events.Received head)).commands ≡ does.Route ∷ []
server_is_sought old head server =
    let a = both (not (may_be_answered head head.method)) _ server in
    let b = both (not (may_tunnel head head.method)) (head.has_passage && not head.has_foreign_coding) a.1 in
    ap (λ (t : Turn). t.commands) (on_false (is_for_node head) _ _ (not_for_node head a.0) ∙ on_false (opens_tunnel head) _ _ (no_tunnel head b.0) ∙ one_way head.has_passage head.has_foreign_coding (turn_down head 501) (goes head stages.Routing (does.Route ∷ [])) (turn_down head 501) b.1)

tunnel_no_node : (head : RequestHead) (m : Method) → may_tunnel head m ≡ true → may_be_answered head m ≡ false
tunnel_no_node head methods.Connect e = refl
tunnel_no_node head methods.Get e = absurd (cc)
tunnel_no_node head methods.Head e = absurd (cc)
tunnel_no_node head methods.Other e = absurd (cc)

pub tunnel_is_aimed : (old head : RequestHead) → may_tunnel head head.method ≡ true → head.is_too_long ≡ false → (turn old stages.Receiving (events.Received head)).commands ≡ does.Aim ∷ []
tunnel_is_aimed old head tunnel short =
    ap (λ (t : Turn). t.commands) (on_false (is_for_node head) _ _ (sym (same_node head head.method) ∙ tunnel_no_node head head.method tunnel) ∙ on_true (opens_tunnel head) _ _ (sym (same_tunnel head head.method) ∙ tunnel) ∙ on_false head.is_too_long _ _ short)

same_get : (m : Method) → is_get_one m ≡ is_get m
same_get methods.Get = refl
same_get m = refl

same_head : (m : Method) → is_head_one m ≡ is_head m
same_head methods.Head = refl
same_head m = refl

or_first : (a b : Bool) → a ≡ true → (a || b) ≡ true
or_first true b e = refl
or_first false b e = absurd (cc)

or_second : (a b : Bool) → b ≡ true → (a || b) ≡ true
or_second true b e = refl
or_second false b e = e

pub past_cause : (head : RequestHead) (stage : Stage) (event : Event) (t : Turn) → Row head stage event t → is_looking_up stage ≡ true → 0 < count_by is_route t.commands → goes_past head event ≡ true
past_cause head stage event t (rows.Found_long h lookup round mode first is get long fetched) there some =
    or_first (is_get_one h.method && lookup.is_long) _ (both_true (is_get_one h.method) lookup.is_long (same_get h.method ∙ get) long)
past_cause head stage event t (rows.Found_head h lookup round status first is unserved headed has) there some =
    or_second (is_get_one h.method && lookup.is_long) _ (both_true (is_head_one h.method) h.has_passage (same_head h.method ∙ headed) has)
past_cause head stage event t (rows.Routes old new node has known) there some = absurd (cc)
past_cause head stage event t (rows.Failed_long h w f fetched status long) there some = absurd (cc)
past_cause head stage event t row there some = absurd (omega arith)

pub past_by : (head : RequestHead) (round : Round) (event : Event) → 0 < count_by is_route (turn head (stages.LookingUp round) event).commands → goes_past head event ≡ true
past_by head round event some = past_cause head (stages.LookingUp round) event _ (turn_row head (stages.LookingUp round) event) refl some

-- WHO JOINS, AND WHO STANDS APART

pub apart_cause : (head : RequestHead) (stage : Stage) (event : Event) (t : Turn) → Row head stage event t → is_submitted stage ≡ true → 0 < count_by is_submit t.commands → is_kept_apart event ≡ true
apart_cause head stage event t (rows.Taken_apart h a s shared first joined apart few) there some = both_true a.has_joined a.is_kept_out joined apart
apart_cause head stage event t (rows.Found_asks h lookup round mode is none fields) there some = absurd (cc)
apart_cause head stage event t (rows.Found_part h lookup round is unstored third none few) there some = absurd (cc)
apart_cause head stage event t (rows.Asked_again h w outcome unmet early first fetched few) there some = absurd (cc)
apart_cause head stage event t row there some = absurd (omega arith)

pub apart_by : (head : RequestHead) (stage : Stage) (event : Event) → is_submitted stage ≡ true → 0 < count_by is_submit (turn head stage event).commands → is_kept_apart event ≡ true
apart_by head stage event there some = apart_cause head stage event _ (turn_row head stage event) there some

same_shared : (mode : Mode) → wants_shared mode ≡ is_shared mode
same_shared Shared = refl
same_shared Cached = refl
same_shared Private = refl

no_stale_taken : (head : RequestHead) (mode : Mode) (b : Bool) → (may_have_stale head mode && b) ≡ false → (takes_stale head mode && b) ≡ false
no_stale_taken head mode b e = ap (λ x. x && b) (sym (same_stale head mode)) ∙ e

pub apart_is_fetched : (head : RequestHead) (a : Acceptance) (s : Submission) → wants_shared s.mode ≡ true → s.is_second ≡ false → a.has_joined ≡ true → a.is_kept_out ≡ true → head.has_many_options ≡ false → (may_have_stale head s.mode && a.has_stale) ≡ false → (turn head (stages.Submitting s) (events.Accepted a)).commands ≡ does.Withdraw ∷ does.Submit Private ∷ []
apart_is_fetched head a s shared first joined apart few fresh =
    ap (λ (t : Turn). t.commands) (on_false (takes_stale head s.mode && a.has_stale) _ _ (no_stale_taken head s.mode a.has_stale fresh) ∙ on_true (stands_apart a s) _ _ (both_true (is_shared s.mode && not s.is_second) (a.has_joined && a.is_kept_out) (both_true (is_shared s.mode) (not s.is_second) (sym (same_shared s.mode) ∙ shared) (ap not first)) (both_true a.has_joined a.is_kept_out joined apart)) ∙ on_false head.has_many_options _ _ few)

pub stream_is_begun : (head : RequestHead) (a : Acceptance) (s : Submission) → wants_shared s.mode ≡ true → may_stream head (events.Accepted a) ≡ true → a.has_stale ≡ false → (turn head (stages.Submitting s) (events.Accepted a)).commands ≡ does.Stream ∷ []
stream_is_begun head a s shared may fresh =
    let b = both (not a.has_joined) (head.is_streamed && not head.has_loop_marks) may in
    let c = both head.is_streamed (not head.has_loop_marks) b.1 in
    let d : takes_stale head s.mode ≡ true = both_true (is_shared s.mode) (not head.has_loop_marks) (sym (same_shared s.mode) ∙ shared) c.1 in
    ap (λ (t : Turn). t.commands) (on_false (takes_stale head s.mode && a.has_stale) _ _ (and_none (takes_stale head s.mode) a.has_stale fresh) ∙ on_false (stands_apart a s) _ _ (and_none (is_shared s.mode && not s.is_second) (a.has_joined && a.is_kept_out) (none_and a.has_joined a.is_kept_out (not_true a.has_joined b.0))) ∙ on_true (takes_stale head s.mode && (not a.has_joined && head.is_streamed)) _ _ (both_true (takes_stale head s.mode) (not a.has_joined && head.is_streamed) d (both_true (not a.has_joined) head.is_streamed b.0 c.0)))

asks_under : (head : RequestHead) (lookup : Lookup) (round : Round) (mode : Mode) → lookup.choice ≡ Ask mode → lookup.has_come_back ≡ false → lookup.is_barred ≡ false → lookup.is_long ≡ false → head.has_many_options ≡ false → found_under head lookup round None ≡ asks head lookup round mode
asks_under head lookup round mode is new free short few =
    let a : goes_beside head lookup lookup.choice ≡ false = ap (goes_beside head lookup) is ∙ long_not _ lookup.is_long _ short in
    let b : found_under head lookup round None ≡ chosen head lookup round lookup.choice = on_false (is_first round && goes_beside head lookup lookup.choice) _ _ (and_none (is_first round) _ a) in
    let c : chosen head lookup round (Ask mode) ≡ unless_barred head (bar_of lookup.has_come_back lookup.is_barred) (asks head lookup round mode) =
    on_false (is_private (beside lookup.is_overtaken mode) && head.has_many_options) _ _ (and_none (is_private (beside lookup.is_overtaken mode)) head.has_many_options few) in
    let d : unless_barred head (bar_of lookup.has_come_back lookup.is_barred) (asks head lookup round mode) ≡ asks head lookup round mode =
    ap (λ o. unless_barred head o (asks head lookup round mode)) (unbarred lookup.has_come_back lookup.is_barred new free) in
    b ∙ ap (chosen head lookup round) is ∙ c ∙ d

asks_so : (head : RequestHead) (lookup : Lookup) (round : Round) (mode : Mode) → lookup.choice ≡ Ask mode → may_be_asked head lookup ≡ true → turn head (stages.LookingUp round) (events.Found lookup) ≡ asks head lookup round mode
asks_so head lookup round mode is may =
    let a = both (is_url lookup.target) _ may in
    let b = both (not lookup.has_come_back) _ a.1 in
    let c = both (not lookup.is_barred) _ b.1 in
    let d = both (not lookup.is_long) (not head.has_many_options) c.1 in
    ap (λ o. found_under head lookup round o) (url_is lookup.target a.0) ∙ asks_under head lookup round mode is (not_true lookup.has_come_back b.0) (not_true lookup.is_barred c.0) (not_true lookup.is_long d.0) (not_true head.has_many_options d.1)

pub part_is_fetched : (head : RequestHead) (lookup : Lookup) (round : Round) → lookup.choice ≡ Ask Private → may_be_asked head lookup ≡ true → lookup.is_stored ≡ false → lookup.is_third_part ≡ true → (turn head (stages.LookingUp round) (events.Found lookup)).commands ≡ does.FetchForAll ∷ does.Submit Private ∷ []
part_is_fetched head lookup round is may unstored third =
    ap (λ (t : Turn). t.commands) (asks_so head lookup round Private is may ∙ on_true (true && (not lookup.is_stored && lookup.is_third_part)) (submits_part head round) _ (both_true (not lookup.is_stored) lookup.is_third_part (ap not unstored) third))

shared_due : (o : Bool) → 0 + cond {A = ℕ} (if o then wants_own (if o then Private else Shared) else wants_shared (if o then Private else Shared)) 1 0 ≡ 1
shared_due true = refl
shared_due false = refl

due_so : (head : RequestHead) (lookup : Lookup) (round : Round) (mode : Mode) → count_by (is_submit_so (is_due_as lookup mode)) (asks head lookup round mode).commands ≡ 1
due_so head lookup round Shared = shared_due lookup.is_overtaken
due_so head lookup round Cached = refl
due_so head lookup round Private =
    split (λ (t : Turn). count_by (is_submit_so (is_due_as lookup Private)) t.commands ≡ 1) (true && (not lookup.is_stored && lookup.is_third_part)) (submits_part head round) (submits head round false Private) (λ _. refl) (λ _. refl)

pub submitted_as_due : (head : RequestHead) (lookup : Lookup) (round : Round) (mode : Mode) → lookup.choice ≡ Ask mode → may_be_asked head lookup ≡ true → count_by (is_submit_so (is_due_as lookup mode)) (turn head (stages.LookingUp round) (events.Found lookup)).commands ≡ 1
submitted_as_due head lookup round mode is may =
    ap (λ (t : Turn). count_by (is_submit_so (is_due_as lookup mode)) t.commands) (asks_so head lookup round mode is may) ∙ due_so head lookup round mode

-- WHAT ITS SERVER HAS ANSWERED

sends_by : (b : Bool) → 0 < cond {A = ℕ} (is_passed_one (if b then answers.Own 502 else answers.Passed)) 1 0 → not b ≡ true
sends_by true some = absurd (omega arith)
sends_by false some = refl

sends_on : (p : PassedHead) → 0 < cond {A = ℕ} (is_passed_one (answer_of p)) 1 0 → not p.has_many_options ≡ true
sends_on p some = sends_by p.has_many_options some

pub sendable_cause : (head : RequestHead) (stage : Stage) (event : Event) (t : Turn) → Row head stage event t → 0 < count_by (answers_so is_passed_one) t.commands → is_sendable event ≡ true
sendable_cause head stage event t (rows.Passed_changed h content p dangerous says) some = sends_on p (omega arith)
sendable_cause head stage event t (rows.Passed_open h content p dangerous unclear) some = sends_on p (omega arith)
sendable_cause head stage event t (rows.Passed_safe h content p safe) some = sends_on p (omega arith)
sendable_cause head stage event t (rows.Passed_unchanged h content p says unclear) some = sends_on p (omega arith)
sendable_cause head stage event t row some = absurd (omega arith)

pub sendable_by : IsOnlyBy (answers_so is_passed_one) is_sendable
sendable_by head stage event some = sendable_cause head stage event _ (turn_row head stage event) some

pub unsendable_is_told : (head : RequestHead) (content : Content) (p : PassedHead) → p.has_many_options ≡ true → count_by (answers_so (is_own 502)) (turn head (stages.Passing content) (events.Passed (passages.Head p))).commands ≡ 1
unsendable_is_told head content p many =
    let P : Turn → Type 0 = λ t. count_by (answers_so (is_own 502)) t.commands ≡ 1 in
    let a : cond {A = ℕ} (is_own 502 (answer_of p)) 1 0 ≡ 1 = ap (λ b. cond {A = ℕ} (is_own 502 (if b then answers.Own 502 else answers.Passed)) 1 0) many in
    split P (head.is_unsafe && is_carried_out p.status) _ _ (λ _. omega arith)
    (λ _. split P (head.is_unsafe && is_unclear p) _ _ (λ _. omega arith) (λ _. omega arith))
