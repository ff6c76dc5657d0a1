-- Each turn of the table is one of its rows.
use Rattle.std.proofs.Common.{◌≡◌, ◌==◌, ℕ, Bool, true, false, not, ◌&&◌, cond, if◌then◌else◌, Option, Some, None, [], ◌∷◌, refl, sym, ◌∙◌, ap}
use Rattle.node_terms.specs.declared.mode.Mode.{Mode}
use Rattle.node_terms.specs.declared.mode.Mode.TheVariants.{Shared, Cached, Private}
use Rattle.fair_use.specs.declared.unanswered.Upload.{Upload}
use Rattle.fair_use.specs.declared.unanswered.Upload.TheVariants as uploads
use Rattle.fair_use.specs.Unanswered.{is_carried_out, may_have_changed}
use Rattle.request_life.specs.declared.facts.Choice.{Choice}
use Rattle.request_life.specs.declared.facts.Choice.TheVariants.{Ask, Refuse}
use Rattle.request_life.specs.declared.facts.RequestHead.{RequestHead}
use Rattle.request_life.specs.declared.facts.Lookup.{Lookup}
use Rattle.request_life.specs.declared.facts.Passage.{Passage}
use Rattle.request_life.specs.declared.facts.TunnelTarget.{TunnelTarget}
use Rattle.request_life.specs.declared.events.ContentEnd.{ContentEnd}
use Rattle.request_life.specs.declared.events.ContentEnd.TheVariants as ends
use Rattle.request_life.specs.declared.events.Acceptance.{Acceptance}
use Rattle.request_life.specs.declared.events.Failure.{Failure}
use Rattle.request_life.specs.declared.events.Outcome.{Outcome}
use Rattle.request_life.specs.declared.events.Outcome.TheVariants as outcomes
use Rattle.request_life.specs.declared.events.PassedHead.{PassedHead}
use Rattle.request_life.specs.declared.events.PassedEnd.{PassedEnd}
use Rattle.request_life.specs.declared.events.PassedEnd.TheVariants as passages
use Rattle.request_life.specs.declared.events.TunnelEnd.{TunnelEnd}
use Rattle.request_life.specs.declared.events.TunnelEnd.TheVariants as tunnels
use Rattle.request_life.specs.declared.events.Event.{Event}
use Rattle.request_life.specs.declared.events.Event.TheVariants as events
use Rattle.request_life.specs.declared.stages.Round.{Round}
use Rattle.request_life.specs.declared.stages.Wait.{Wait}
use Rattle.request_life.specs.declared.facts.Target.{Target}
use Rattle.request_life.specs.declared.facts.Target.TheVariants as targets
use Rattle.request_life.specs.declared.stages.Content.{Content}
use Rattle.request_life.specs.declared.stages.Content.TheVariants as contents
use Rattle.request_life.specs.declared.stages.Stage.{Stage}
use Rattle.request_life.specs.declared.stages.Stage.TheVariants as stages
use Rattle.request_life.specs.declared.commands.Answer.TheVariants as answers
use Rattle.request_life.specs.declared.commands.Command.TheVariants as does
use Rattle.request_life.specs.Table.{Turn, turn, goes, begins, received, collected, found, found_under, fault_of, chosen, asks, unless_barred, bar_of, beside, accepted, stands_apart, declined, again, is_first, answered, answered_so, failed, routed, routed_by, passed, passed_head, passed_so, parted, expired, sent, upload_broken, aimed, aimed_by, tunnelled, left, finished, is_private, is_shared, is_cached, is_for_another, goes_beside, first_of, is_get, is_head, read, is_for_node, opens_tunnel, takes_stale, has_begun, is_unclear, gives, gives_passed, answer_of}
use Rattle.request_life.specs.Rows.{Row, awaits, is_no_answer, is_early, changes_nothing, is_unknown}
use Rattle.request_life.specs.Rows as rows

-- a choice, by its test
pub split : {A : Type 0} (P : A → Type 0) (b : Bool) (x y : A) → (b ≡ true → P x) → (b ≡ false → P y) → P (cond b x y)
split P true x y f g = f refl
split P false x y f g = g refl

pub both : (a b : Bool) → (a && b) ≡ true → (a ≡ true) × (b ≡ true)
both true true e = (refl, refl)
both true false e = absurd (cc)
both false b e = absurd (cc)

pub not_true : (b : Bool) → not b ≡ true → b ≡ false
not_true true e = sym e
not_true false e = refl

begins_row : (old new : RequestHead) → Row old stages.Receiving (events.Received new) (begins new)
begins_row old new =
    let P : Turn → Type 0 = Row old stages.Receiving (events.Received new) in
    split P (is_for_node new) _ _
    (λ e. split P new.is_too_long _ _ (λ l. rows.Too_long old new e l)
    (λ _. split P new.has_content _ _ (λ c. rows.Collects old new e c) (λ c. rows.Looks_up old new e c)))
    (λ n. split P (opens_tunnel new) _ _
    (λ e. split P new.is_too_long _ _ (λ l. rows.Too_long_for_tunnel old new e l) (λ _. rows.Aims old new e))
    (λ o. split P new.has_passage _ _
    (λ e. split P new.has_foreign_coding _ _ (λ f. rows.Foreign_coding old new n o f) (λ h. rows.Routes old new n e h))
    (λ h. rows.Unknown_method old new n o h)))

received_row : (new head : RequestHead) (stage : Stage) → Row head stage (events.Received new) (received new head stage)
received_row new head stages.Receiving = begins_row head new
received_row new head stage = rows.Unawaited head _ _ refl

collected_row : (head : RequestHead) (how : ContentEnd) (stage : Stage) → Row head stage (events.Collected how) (collected head how stage)
collected_row head ends.Whole stages.Collecting = rows.Content_whole head
collected_row head ends.TooLong stages.Collecting = rows.Content_too_long head
collected_row head ends.Broken stages.Collecting = rows.Content_broken head
collected_row head how stage = rows.Unawaited head _ _ refl

-- who has come back, or may not be fetched from
bar_case : (Q : Option ℕ → Type 0) (c b : Bool) → (c ≡ true → Q (Some 508)) → (b ≡ true → Q (Some 403)) → (bar_of c b ≡ None → Q None) → Q (bar_of c b)
bar_case Q true b f g h = f refl
bar_case Q false true f g h = g refl
bar_case Q false false f g h = h refl

-- the conditions under which a request is asked for
asks_row : (head : RequestHead) (lookup : Lookup) (round : Round) (mode : Mode) → lookup.choice ≡ Ask mode → bar_of lookup.has_come_back lookup.is_barred ≡ None → (is_private (beside lookup.is_overtaken mode) && head.has_many_options) ≡ false → Row head (stages.LookingUp round) (events.Found lookup) (asks head lookup round mode)
asks_row head lookup round Private is none fields =
    let P : Turn → Type 0 = Row head (stages.LookingUp round) (events.Found lookup) in
    split P (is_private Private && (not lookup.is_stored && lookup.is_third_part)) _ _
    (λ e. let h = both (not lookup.is_stored) lookup.is_third_part e in rows.Found_part head lookup round is (not_true lookup.is_stored h.0) h.1 none fields)
    (λ _. rows.Found_asks head lookup round Private is none fields)
asks_row head lookup round Shared is none fields = rows.Found_asks head lookup round Shared is none fields
asks_row head lookup round Cached is none fields = rows.Found_asks head lookup round Cached is none fields

chosen_row : (head : RequestHead) (lookup : Lookup) (round : Round) (choice : Choice) → lookup.choice ≡ choice → Row head (stages.LookingUp round) (events.Found lookup) (chosen head lookup round choice)
chosen_row head lookup round (Ask mode) is =
    let P : Turn → Type 0 = Row head (stages.LookingUp round) (events.Found lookup) in
    split P (is_private (beside lookup.is_overtaken mode) && head.has_many_options) _ _
    (λ e. let h = both (is_private (beside lookup.is_overtaken mode)) head.has_many_options e in rows.Found_many_options head lookup round mode is h.0 h.1)
    (λ fields. bar_case (λ o. P (unless_barred head o (asks head lookup round mode))) lookup.has_come_back lookup.is_barred
    (λ c. rows.Found_came_back head lookup round c) (λ b. rows.Found_barred head lookup round b) (λ none. asks_row head lookup round mode is none fields))
chosen_row head lookup round (Refuse status) is =
    let P : Turn → Type 0 = Row head (stages.LookingUp round) (events.Found lookup) in
    split P lookup.has_accepted_stale _ _
    (λ stale. bar_case (λ o. P (unless_barred head o (gives head answers.Stale))) lookup.has_come_back lookup.is_barred
    (λ c. rows.Found_came_back head lookup round c) (λ b. rows.Found_barred head lookup round b) (λ none. rows.Found_stale head lookup round status is stale none))
    (λ fresh. rows.Found_refused head lookup round status is fresh)

beside_row : (head : RequestHead) (lookup : Lookup) (round : Round) (choice : Choice) → lookup.choice ≡ choice → is_first round ≡ true → goes_beside head lookup choice ≡ true → Row head (stages.LookingUp round) (events.Found lookup) (goes head stages.Routing (does.Route ∷ []))
beside_row head lookup round (Ask Cached) is first e =
    let h = both (is_get head.method && lookup.is_long) false e in absurd (cc)
beside_row head lookup round (Ask Shared) is first e =
    let h = both (is_get head.method && lookup.is_long) (not lookup.is_stored) e in
    let k = both (is_get head.method) lookup.is_long h.0 in rows.Found_long head lookup round Shared first is k.0 k.1 refl
beside_row head lookup round (Ask Private) is first e =
    let h = both (is_get head.method && lookup.is_long) true e in
    let k = both (is_get head.method) lookup.is_long h.0 in rows.Found_long head lookup round Private first is k.0 k.1 refl
beside_row head lookup round (Refuse status) is first e =
    let h = both (is_head head.method && head.has_passage) (status == 501) e in
    let k = both (is_head head.method) head.has_passage h.0 in rows.Found_head head lookup round status first is h.1 k.0 k.1

under_row : (head : RequestHead) (lookup : Lookup) (round : Round) (target : Target) → lookup.target ≡ target → Row head (stages.LookingUp round) (events.Found lookup) (found_under head lookup round (fault_of target))
under_row head lookup round targets.NotHttp is = rows.Found_not_http head lookup round is
under_row head lookup round targets.TooLong is = rows.Found_too_long head lookup round is
under_row head lookup round targets.NoMemory is = rows.Found_no_memory head lookup round is
under_row head lookup round targets.Url is =
    split (Row head (stages.LookingUp round) (events.Found lookup)) (is_first round && goes_beside head lookup lookup.choice) _ _
    (λ e. let h = both (is_first round) (goes_beside head lookup lookup.choice) e in beside_row head lookup round lookup.choice refl h.0 h.1)
    (λ _. chosen_row head lookup round lookup.choice refl)

found_row : (head : RequestHead) (lookup : Lookup) (stage : Stage) → Row head stage (events.Found lookup) (found head lookup stage)
found_row head lookup (stages.LookingUp round) = under_row head lookup round lookup.target refl
found_row head lookup stage = rows.Unawaited head _ _ refl

accepted_row : (head : RequestHead) (a : Acceptance) (stage : Stage) → Row head stage (events.Accepted a) (accepted head a stage)
accepted_row head a (stages.Submitting s) =
    let P : Turn → Type 0 = Row head (stages.Submitting s) (events.Accepted a) in
    split P (takes_stale head s.mode && a.has_stale) _ _
    (λ e. let h = both (takes_stale head s.mode) a.has_stale e in rows.Taken_stale head a s h.0 h.1)
    (λ _. split P (stands_apart a s) _ _
    (λ e. let h = both (is_shared s.mode && not s.is_second) (a.has_joined && a.is_kept_out) e in
    let k = both (is_shared s.mode) (not s.is_second) h.0 in
    let m = both a.has_joined a.is_kept_out h.1 in
    split P head.has_many_options _ _ (λ many. rows.Taken_many_options head a s k.0 (not_true s.is_second k.1) m.0 m.1 many)
    (λ few. rows.Taken_apart head a s k.0 (not_true s.is_second k.1) m.0 m.1 few))
    (λ _. split P (takes_stale head s.mode && (not a.has_joined && head.is_streamed)) _ _
    (λ e. let h = both (takes_stale head s.mode) (not a.has_joined && head.is_streamed) e in
    let k = both (not a.has_joined) head.is_streamed h.1 in rows.Taken_streamed head a s h.0 (not_true a.has_joined k.0) k.1) (λ _. rows.Taken_waits head a s)))
accepted_row head a stages.Leaving = rows.Taken_left head a
accepted_row head a stage = rows.Unawaited head _ _ refl

declined_row : (head : RequestHead) (has_stale : Bool) (stage : Stage) → Row head stage (events.Declined has_stale) (declined head has_stale stage)
declined_row head has_stale (stages.Submitting s) =
    split (Row head (stages.Submitting s) (events.Declined has_stale)) (takes_stale head s.mode && has_stale) _ _
    (λ e. let h = both (takes_stale head s.mode) has_stale e in rows.Declined_stale head has_stale s h.0 h.1)
    (λ n. rows.Declined_own head has_stale s n)
declined_row head has_stale stages.Leaving = rows.Declined_left head has_stale
declined_row head has_stale stage = rows.Unawaited head _ _ refl

again_row : (head : RequestHead) (w : Wait) (outcome : Outcome) → is_no_answer w outcome ≡ true → is_early outcome ≡ false → Row head (stages.Waiting w) (events.Answered outcome) (again head w)
again_row head w outcome unmet early =
    let P : Turn → Type 0 = Row head (stages.Waiting w) (events.Answered outcome) in
    split P w.is_second _ _ (λ second. rows.Again_refused head w outcome unmet early second)
    (λ first. split P (is_cached w.mode) _ _ (λ cached. rows.Again_uncached head w outcome unmet early first cached)
    (λ fetched. split P head.has_many_options _ _ (λ many. rows.Again_many_options head w outcome unmet early first fetched many)
    (λ few. rows.Asked_again head w outcome unmet early first fetched few)))

failed_row : (head : RequestHead) (w : Wait) (f : Failure) → Row head (stages.Waiting w) (events.Answered (outcomes.Failed f)) (failed head w f)
failed_row head w f =
    let P : Turn → Type 0 = Row head (stages.Waiting w) (events.Answered (outcomes.Failed f)) in
    split P ((f.status == 502) && (f.is_long && not (is_cached w.mode))) _ _
    (λ e. let h = both (f.status == 502) (f.is_long && not (is_cached w.mode)) e in
    let k = both f.is_long (not (is_cached w.mode)) h.1 in
    rows.Failed_long head w f (not_true (is_cached w.mode) k.1) h.0 k.0)
    (λ n. rows.Failed_own head w f n)

answered_by_row : (head : RequestHead) (w : Wait) (outcome : Outcome) → Row head (stages.Waiting w) (events.Answered outcome) (answered_so head w outcome)
answered_by_row head w (outcomes.Hit hit) =
    let P : Turn → Type 0 = Row head (stages.Waiting w) (events.Answered (outcomes.Hit hit)) in
    split P hit.is_accepted _ _ (λ e. rows.Hit_given head w hit e)
    (λ e. again_row head w (outcomes.Hit hit) (ap not e) refl)
answered_by_row head w (outcomes.Fetched f) =
    let P : Turn → Type 0 = Row head (stages.Waiting w) (events.Answered (outcomes.Fetched f)) in
    split P (is_for_another w.share f) _ _ (λ e. again_row head w (outcomes.Fetched f) e refl)
    (λ e. rows.Fetched_given head w f e)
answered_by_row head w outcomes.Early =
    let P : Turn → Type 0 = Row head (stages.Waiting w) (events.Answered outcomes.Early) in
    split P (has_begun w.share) _ _ (λ e. rows.Early_given head w e) (λ e. rows.Early_refused head w e)
answered_by_row head w (outcomes.Failed f) = failed_row head w f
answered_by_row head w outcomes.Again =
    let P : Turn → Type 0 = Row head (stages.Waiting w) (events.Answered outcomes.Again) in
    split P (is_first w.round && not w.is_second) _ _
    (λ e. let h = both (is_first w.round) (not w.is_second) e in rows.Handed_in_anew head w h.0 (not_true w.is_second h.1))
    (λ n. rows.Unwanted_again head w n)
answered_by_row head w outcomes.Lost =
    split (Row head (stages.Waiting w) (events.Answered outcomes.Lost)) (is_first w.round) _ _ (λ e. rows.Lost head w e) (λ e. rows.Lost_anew head w e)

answered_row : (head : RequestHead) (outcome : Outcome) (stage : Stage) → Row head stage (events.Answered outcome) (answered head outcome stage)
answered_row head outcome (stages.Waiting w) = answered_by_row head w outcome
answered_row head outcome stage = rows.Unawaited head _ _ refl

-- why a request is not passed on
passage_case : (Q : Option ℕ → Type 0) (t : Target) (c b l m r : Bool) → (t ≡ targets.NotHttp → Q (Some 400)) → (t ≡ targets.TooLong → Q (Some 414)) → (t ≡ targets.NoMemory → Q (Some 503)) → (c ≡ true → Q (Some 508)) → (b ≡ true → Q (Some 403)) → (l ≡ true → Q (Some 501)) → (m ≡ true → Q (Some 400)) → (r ≡ false → Q (Some 503)) → (first_of (fault_of t) (first_of (bar_of c b) (if l then Some 501 else if m then Some 400 else if r then None else Some 503)) ≡ None → Q None) → Q (first_of (fault_of t) (first_of (bar_of c b) (if l then Some 501 else if m then Some 400 else if r then None else Some 503)))
passage_case Q targets.NotHttp c b l m r f1 f2 f3 f4 f5 f6 f7 f8 none = f1 refl
passage_case Q targets.TooLong c b l m r f1 f2 f3 f4 f5 f6 f7 f8 none = f2 refl
passage_case Q targets.NoMemory c b l m r f1 f2 f3 f4 f5 f6 f7 f8 none = f3 refl
passage_case Q targets.Url true b l m r f1 f2 f3 f4 f5 f6 f7 f8 none = f4 refl
passage_case Q targets.Url false true l m r f1 f2 f3 f4 f5 f6 f7 f8 none = f5 refl
passage_case Q targets.Url false false true m r f1 f2 f3 f4 f5 f6 f7 f8 none = f6 refl
passage_case Q targets.Url false false false true r f1 f2 f3 f4 f5 f6 f7 f8 none = f7 refl
passage_case Q targets.Url false false false false false f1 f2 f3 f4 f5 f6 f7 f8 none = f8 refl
passage_case Q targets.Url false false false false true f1 f2 f3 f4 f5 f6 f7 f8 none = none refl

routed_row : (head : RequestHead) (p : Passage) (stage : Stage) → Row head stage (events.Routed p) (routed head p stage)
routed_row head p stages.Routing =
    passage_case (λ o. Row head stages.Routing (events.Routed p) (routed_by head o)) p.target p.has_come_back p.is_barred p.is_last_recipient p.has_many_options p.has_room
    (λ e. rows.Routed_not_http head p e) (λ e. rows.Routed_too_long head p e) (λ e. rows.Routed_no_memory head p e) (λ e. rows.Routed_came_back head p e)
    (λ e. rows.Routed_barred head p e) (λ e. rows.Routed_last head p e) (λ e. rows.Routed_many_options head p e) (λ e. rows.Routed_no_room head p e)
    (λ none. rows.Routed_on head p none)
routed_row head p stage = rows.Unawaited head _ _ refl

-- what an unsafe request has neither changed nor left open
unchanged_row : (head : RequestHead) (content : Content) (p : PassedHead) (unsafe says unclear : Bool) → head.is_unsafe ≡ unsafe → is_carried_out p.status ≡ says → is_unclear p ≡ unclear → (unsafe && says) ≡ false → (unsafe && unclear) ≡ false → Row head (stages.Passing content) (events.Passed (passages.Head p)) (gives_passed head content (answer_of p))
unchanged_row head content p false says unclear safe a b c d = rows.Passed_safe head content p safe
unchanged_row head content p true says unclear u a b c d = rows.Passed_unchanged head content p (a ∙ c) (b ∙ d)

passed_head_row : (head : RequestHead) (content : Content) (p : PassedHead) → Row head (stages.Passing content) (events.Passed (passages.Head p)) (passed_head head content p)
passed_head_row head content p =
    let P : Turn → Type 0 = Row head (stages.Passing content) (events.Passed (passages.Head p)) in
    split P (head.is_unsafe && is_carried_out p.status) _ _
    (λ e. let h = both head.is_unsafe (is_carried_out p.status) e in rows.Passed_changed head content p h.0 h.1)
    (λ c. split P (head.is_unsafe && is_unclear p) _ _
    (λ e. let h = both head.is_unsafe (is_unclear p) e in rows.Passed_open head content p h.0 h.1)
    (λ d. unchanged_row head content p head.is_unsafe (is_carried_out p.status) (is_unclear p) refl refl refl c d))

passed_by_row : (head : RequestHead) (content : Content) (how : PassedEnd) → Row head (stages.Passing content) (events.Passed how) (passed_so head content how)
passed_by_row head content (passages.Head p) = passed_head_row head content p
passed_by_row head content passages.Refused = rows.Passed_refused head content
passed_by_row head content passages.TimedOut =
    split (Row head (stages.Passing content) (events.Passed passages.TimedOut)) head.is_unsafe _ _
    (λ e. rows.Unanswered_unsafe head content _ refl e) (λ e. rows.Unanswered_safe head content _ refl e)
passed_by_row head content passages.Failed =
    split (Row head (stages.Passing content) (events.Passed passages.Failed)) head.is_unsafe _ _
    (λ e. rows.Unanswered_unsafe head content _ refl e) (λ e. rows.Unanswered_safe head content _ refl e)

parted_row : (head : RequestHead) (upload : Upload) (how : PassedEnd) → Row head (stages.Parting upload) (events.Passed how) (parted head stages.Left upload how)
parted_row head upload (passages.Head p) =
    split (Row head (stages.Parting upload) (events.Passed (passages.Head p))) (may_have_changed upload (Some p.status)) _ _
    (λ e. rows.Parted_changed head upload p e) (λ e. rows.Parted_unchanged head upload _ (ap not e))
parted_row head upload passages.Refused = rows.Parted_unchanged head upload _ refl
parted_row head upload passages.TimedOut =
    split (Row head (stages.Parting upload) (events.Passed passages.TimedOut)) (may_have_changed upload None) _ _
    (λ e. rows.Parted_lost head upload _ refl e) (λ e. rows.Parted_unchanged head upload _ (ap not e))
parted_row head upload passages.Failed =
    split (Row head (stages.Parting upload) (events.Passed passages.Failed)) (may_have_changed upload None) _ _
    (λ e. rows.Parted_lost head upload _ refl e) (λ e. rows.Parted_unchanged head upload _ (ap not e))

breaking_row : (head : RequestHead) (how : PassedEnd) → Row head stages.Breaking (events.Passed how) (parted head stages.Giving uploads.Broken how)
breaking_row head (passages.Head p) =
    split (Row head stages.Breaking (events.Passed (passages.Head p))) (may_have_changed uploads.Broken (Some p.status)) _ _
    (λ e. rows.Breaking_changed head p e) (λ e. rows.Breaking_unchanged head _ (ap not e))
breaking_row head passages.Refused = rows.Breaking_unchanged head _ refl
breaking_row head passages.TimedOut = rows.Breaking_unchanged head _ refl
breaking_row head passages.Failed = rows.Breaking_unchanged head _ refl

broken_off_row : (head : RequestHead) (how : PassedEnd) → Row head stages.BrokenOff (events.Passed how) (parted head stages.Ended uploads.Broken how)
broken_off_row head (passages.Head p) =
    split (Row head stages.BrokenOff (events.Passed (passages.Head p))) (may_have_changed uploads.Broken (Some p.status)) _ _
    (λ e. rows.Broken_off_changed head p e) (λ e. rows.Broken_off_unchanged head _ (ap not e))
broken_off_row head passages.Refused = rows.Broken_off_unchanged head _ refl
broken_off_row head passages.TimedOut = rows.Broken_off_unchanged head _ refl
broken_off_row head passages.Failed = rows.Broken_off_unchanged head _ refl

passed_row : (head : RequestHead) (how : PassedEnd) (stage : Stage) → Row head stage (events.Passed how) (passed head how stage)
passed_row head how (stages.Passing content) = passed_by_row head content how
passed_row head how (stages.Parting upload) = parted_row head upload how
passed_row head how stages.Breaking = breaking_row head how
passed_row head how stages.BrokenOff = broken_off_row head how
passed_row head how stage = rows.Unawaited head _ _ refl

expired_row : (head : RequestHead) (stage : Stage) → Row head stage events.Expired (expired head stage)
expired_row head (stages.Parting upload) =
    split (Row head (stages.Parting upload) events.Expired) (may_have_changed upload None) _ _
    (λ e. rows.Parted_late head upload e) (λ e. rows.Parted_in_vain head upload e)
expired_row head stages.Breaking = rows.Breaking_in_vain head
expired_row head stages.BrokenOff = rows.Broken_off_in_vain head
expired_row head stage = rows.Unawaited head _ _ refl

read_row : (head : RequestHead) (stage : Stage) → Row head stage events.Read (read head stage)
read_row head (stages.Passing contents.Coming) = rows.Read_whole head
read_row head (stages.Passing contents.Read) = rows.Unawaited head _ _ refl
read_row head (stages.Passing contents.Sent) = rows.Unawaited head _ _ refl
read_row head stage = rows.Unawaited head _ _ refl

sent_row : (head : RequestHead) (stage : Stage) → Row head stage events.Sent (sent head stage)
sent_row head (stages.Passing contents.Coming) = rows.Sent_whole head contents.Coming refl
sent_row head (stages.Passing contents.Read) = rows.Sent_whole head contents.Read refl
sent_row head (stages.Passing contents.Sent) = rows.Unawaited head _ _ refl
sent_row head (stages.Parting uploads.Broken) = rows.Parted_sent head
sent_row head (stages.Parting uploads.Whole) = rows.Unawaited head _ _ refl
sent_row head stage = rows.Unawaited head _ _ refl

broken_row : (head : RequestHead) (stage : Stage) → Row head stage events.UploadBroken (upload_broken head stage)
broken_row head (stages.Passing contents.Coming) =
    split (Row head (stages.Passing contents.Coming) events.UploadBroken) head.is_unsafe _ _
    (λ e. rows.Broken_unsafe head e) (λ e. rows.Broken_safe head e)
broken_row head (stages.Passing contents.Read) = rows.Unawaited head _ _ refl
broken_row head (stages.Passing contents.Sent) = rows.Unawaited head _ _ refl
broken_row head stage = rows.Unawaited head _ _ refl

-- why a tunnel is not opened
tunnel_case : (Q : Option ℕ → Type 0) (a p c b r : Bool) → (a ≡ false → Q (Some 400)) → (p ≡ false → Q (Some 403)) → (c ≡ true → Q (Some 508)) → (b ≡ true → Q (Some 403)) → (r ≡ false → Q (Some 503)) → ((if not a then Some 400 else if not p then Some 403 else first_of (bar_of c b) (if r then None else Some 503)) ≡ None → Q None) → Q (if not a then Some 400 else if not p then Some 403 else first_of (bar_of c b) (if r then None else Some 503))
tunnel_case Q false p c b r f1 f2 f3 f4 f5 none = f1 refl
tunnel_case Q true false c b r f1 f2 f3 f4 f5 none = f2 refl
tunnel_case Q true true true b r f1 f2 f3 f4 f5 none = f3 refl
tunnel_case Q true true false true r f1 f2 f3 f4 f5 none = f4 refl
tunnel_case Q true true false false false f1 f2 f3 f4 f5 none = f5 refl
tunnel_case Q true true false false true f1 f2 f3 f4 f5 none = none refl

aimed_row : (head : RequestHead) (t : TunnelTarget) (stage : Stage) → Row head stage (events.Aimed t) (aimed head t stage)
aimed_row head t stages.Aiming =
    tunnel_case (λ o. Row head stages.Aiming (events.Aimed t) (aimed_by head o)) t.is_authority t.is_port_allowed t.has_come_back t.is_barred t.has_room
    (λ e. rows.Aimed_nowhere head t e) (λ e. rows.Aimed_at_port head t e) (λ e. rows.Aimed_came_back head t e) (λ e. rows.Aimed_barred head t e)
    (λ e. rows.Aimed_no_room head t e) (λ none. rows.Aimed_opens head t none)
aimed_row head t stage = rows.Unawaited head _ _ refl

tunnelled_row : (head : RequestHead) (how : TunnelEnd) (stage : Stage) → Row head stage (events.Tunnelled how) (tunnelled head how stage)
tunnelled_row head tunnels.Opened stages.Opening = rows.Opened head
tunnelled_row head (tunnels.Refused status) stages.Opening = rows.Tunnel_refused head status
tunnelled_row head how stage = rows.Unawaited head _ _ refl

left_row : (head : RequestHead) (stage : Stage) → Row head stage events.Left (left head stage)
left_row head (stages.Submitting s) = rows.Left_submitting head s
left_row head (stages.Waiting w) = rows.Left_waiting head w
left_row head (stages.Passing content) =
    split (Row head (stages.Passing content) events.Left) head.is_unsafe _ _
    (λ e. rows.Left_passing_unsafe head content e) (λ e. rows.Left_passing_safe head content e)
left_row head stages.Breaking = rows.Left_breaking head
left_row head stages.Opening = rows.Left_opening head
left_row head stages.Giving = rows.Left_giving head
left_row head stages.Receiving = rows.Left_receiving head
left_row head stages.Collecting = rows.Left_collecting head
left_row head (stages.LookingUp round) = rows.Left_looking_up head round
left_row head stages.Routing = rows.Left_routing head
left_row head stages.Aiming = rows.Left_aiming head
left_row head stage = rows.Unawaited head _ _ refl

finished_row : (head : RequestHead) (stage : Stage) → Row head stage events.Finished (finished head stage)
finished_row head stages.Giving = rows.Finished head
finished_row head stages.Breaking = rows.Finished_breaking head
finished_row head stage = rows.Unawaited head _ _ refl

-- each turn is a row
pub turn_row : (head : RequestHead) (stage : Stage) (event : Event) → Row head stage event (turn head stage event)
turn_row head stage (events.Received new) = received_row new head stage
turn_row head stage (events.Collected how) = collected_row head how stage
turn_row head stage (events.Found lookup) = found_row head lookup stage
turn_row head stage (events.Accepted a) = accepted_row head a stage
turn_row head stage (events.Declined has_stale) = declined_row head has_stale stage
turn_row head stage (events.Answered outcome) = answered_row head outcome stage
turn_row head stage (events.Routed p) = routed_row head p stage
turn_row head stage (events.Passed how) = passed_row head how stage
turn_row head stage events.Read = read_row head stage
turn_row head stage events.Sent = sent_row head stage
turn_row head stage events.UploadBroken = broken_row head stage
turn_row head stage events.Expired = expired_row head stage
turn_row head stage (events.Aimed t) = aimed_row head t stage
turn_row head stage (events.Tunnelled how) = tunnelled_row head how stage
turn_row head stage events.Left = left_row head stage
turn_row head stage events.Finished = finished_row head stage
