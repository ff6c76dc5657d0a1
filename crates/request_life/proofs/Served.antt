-- What is done where it may be: by the table itself.
use Rattle.std.proofs.Common.{◌≡◌, ◌==◌, ℕ, [], ◌∷◌, Some, None, if◌then◌else◌, Bool, true, false, not, ◌&&◌, ◌||◌, cond, arith, count_by, refl, sym, ◌∙◌, ap}
use Rattle.node_terms.specs.declared.mode.Mode.{Mode}
use Rattle.node_terms.specs.declared.mode.Mode.TheVariants.{Shared, Cached, Private}
use Rattle.request_life.specs.declared.facts.Choice.TheVariants.{Ask}
use Rattle.request_life.specs.declared.facts.Lookup.{Lookup}
use Rattle.request_life.specs.declared.facts.Passage.{Passage}
use Rattle.request_life.specs.declared.facts.RequestHead.{RequestHead}
use Rattle.request_life.specs.declared.facts.Target.{Target}
use Rattle.request_life.specs.declared.facts.Target.TheVariants as targets
use Rattle.request_life.specs.declared.facts.TunnelTarget.{TunnelTarget}
use Rattle.request_life.specs.declared.commands.Answer.TheVariants as answers
use Rattle.request_life.specs.declared.commands.Command.TheVariants as does
use Rattle.request_life.specs.declared.commands.Shape.{Shape}
use Rattle.request_life.specs.declared.events.Acceptance.{Acceptance}
use Rattle.request_life.specs.declared.events.Event.TheVariants as events
use Rattle.request_life.specs.declared.events.Failure.{Failure}
use Rattle.request_life.specs.declared.events.Fetched.{Fetched}
use Rattle.request_life.specs.declared.events.Hit.{Hit}
use Rattle.request_life.specs.declared.events.Outcome.TheVariants as outcomes
use Rattle.request_life.specs.declared.events.PassedEnd.TheVariants as passages
use Rattle.request_life.specs.declared.events.PassedHead.{PassedHead}
use Rattle.request_life.specs.declared.events.TunnelEnd.TheVariants as tunnels
use Rattle.request_life.specs.declared.stages.Content.{Content}
use Rattle.request_life.specs.declared.stages.Round.{Round}
use Rattle.request_life.specs.declared.stages.Share.{Share}
use Rattle.request_life.specs.declared.stages.Share.TheVariants as shares
use Rattle.request_life.specs.declared.stages.Stage.TheVariants as stages
use Rattle.request_life.specs.declared.stages.Submission.{Submission}
use Rattle.request_life.specs.declared.stages.Wait.{Wait}
use Rattle.fair_use.specs.Unanswered.{is_carried_out}
use Rattle.request_life.specs.Table.{Turn, turn, aimed_by, answer_of, asks, bar_of, begins, beside, chosen, fault_of, first_of, found_under, goes_beside, has_begun, is_cached, is_first, is_for_another, is_for_node, is_private, is_unclear, routed_by, shape_for, takes_stale, unless_barred}
use Rattle.request_life.specs.Laws.{may_have_stale, answers_so, gives_one, is_begin, is_passed_one, is_submit, is_submit_alone, is_url, may_be_answered, may_be_asked, may_be_passed, may_be_tunnelled, may_have, says_done, shape_due, takes_by_answer, wants_stored}
use Rattle.request_life.proofs.Walk.{split, both, not_true}
use Rattle.request_life.proofs.Steps.{same_cached, same_node}

pub on_true : {A : Type 0} (b : Bool) (x y : A) → b ≡ true → cond b x y ≡ x
on_true true x y e = refl
on_true false x y e = absurd (cc)

pub on_false : {A : Type 0} (b : Bool) (x y : A) → b ≡ false → cond b x y ≡ y
on_false false x y e = refl
on_false true x y e = absurd (cc)

pub and_none : (a b : Bool) → b ≡ false → (a && b) ≡ false
and_none true b e = e
and_none false b e = refl

pub none_and : (a b : Bool) → a ≡ false → (a && b) ≡ false
none_and true b e = absurd (cc)
none_and false b e = refl

pub both_true : (a b : Bool) → a ≡ true → b ≡ true → (a && b) ≡ true
both_true true b e g = g
both_true false b e g = absurd (cc)

-- WHAT MAY BE IS DONE

pub is_begun : (old head : RequestHead) → may_be_answered head head.method ≡ true → head.is_too_long ≡ false → count_by is_begin (turn old stages.Receiving (events.Received head)).commands ≡ 1
is_begun old head node short =
    let a : begins head ≡ _ = on_true (is_for_node head) _ _ (sym (same_node head head.method) ∙ node) ∙ on_false head.is_too_long _ _ short in
    ap (λ (t : Turn). count_by is_begin t.commands) a ∙ split (λ (t : Turn). count_by is_begin t.commands ≡ 1) head.has_content _ _ (λ _. refl) (λ _. refl)

pub long_not : (g l x : Bool) → l ≡ false → ((g && l) && x) ≡ false
long_not true l x e = none_and l x e
long_not false l x e = refl

pub unbarred : (c b : Bool) → c ≡ false → b ≡ false → bar_of c b ≡ None
unbarred false false e g = refl
unbarred c b e g = absurd (cc)

asked_under : (head : RequestHead) (lookup : Lookup) (round : Round) (mode : Mode) → lookup.choice ≡ Ask mode → lookup.has_come_back ≡ false → lookup.is_barred ≡ false → lookup.is_long ≡ false → head.has_many_options ≡ false → count_by is_submit (found_under head lookup round None).commands ≡ 1
asked_under head lookup round mode is new free short few =
    let a : goes_beside head lookup lookup.choice ≡ false = ap (goes_beside head lookup) is ∙ long_not _ lookup.is_long _ short in
    let b : found_under head lookup round None ≡ chosen head lookup round lookup.choice = on_false (is_first round && goes_beside head lookup lookup.choice) _ _ (and_none (is_first round) _ a) in
    let c : chosen head lookup round (Ask mode) ≡ unless_barred head (bar_of lookup.has_come_back lookup.is_barred) (asks head lookup round mode) =
    on_false (is_private (beside lookup.is_overtaken mode) && head.has_many_options) _ _ (and_none (is_private (beside lookup.is_overtaken mode)) head.has_many_options few) in
    let d : unless_barred head (bar_of lookup.has_come_back lookup.is_barred) (asks head lookup round mode) ≡ asks head lookup round mode =
    ap (λ o. unless_barred head o (asks head lookup round mode)) (unbarred lookup.has_come_back lookup.is_barred new free) in
    ap (λ (t : Turn). count_by is_submit t.commands) (b ∙ ap (chosen head lookup round) is ∙ c ∙ d) ∙ split (λ (t : Turn). count_by is_submit t.commands ≡ 1) (is_private mode && (not lookup.is_stored && lookup.is_third_part)) _ _ (λ _. refl) (λ _. refl)

pub url_is : (t : Target) → is_url t ≡ true → fault_of t ≡ None
url_is targets.Url e = refl
url_is t e = absurd (cc)

pub is_submitted_so : (head : RequestHead) (lookup : Lookup) (round : Round) (mode : Mode) → lookup.choice ≡ Ask mode → may_be_asked head lookup ≡ true → count_by is_submit (turn head (stages.LookingUp round) (events.Found lookup)).commands ≡ 1
is_submitted_so head lookup round mode is may =
    let a = both (is_url lookup.target) _ may in
    let b = both (not lookup.has_come_back) _ a.1 in
    let c = both (not lookup.is_barred) _ b.1 in
    let d = both (not lookup.is_long) (not head.has_many_options) c.1 in
    ap (λ o. count_by is_submit (found_under head lookup round o).commands) (url_is lookup.target a.0) ∙ asked_under head lookup round mode is (not_true lookup.has_come_back b.0) (not_true lookup.is_barred c.0) (not_true lookup.is_long d.0) (not_true head.has_many_options d.1)

pub unfaulted : (t : Target) (c b l m r : Bool) → (is_url t && (not c && (not b && (not l && (not m && r))))) ≡ true → first_of (fault_of t) (first_of (bar_of c b) (if l then Some 501 else if m then Some 400 else if r then None else Some 503)) ≡ None
unfaulted targets.Url false false false false true e = refl
unfaulted t c b l m r e = absurd (cc)

pub is_passed_so : (head : RequestHead) (p : Passage) → may_be_passed p ≡ true → (turn head stages.Routing (events.Routed p)).commands ≡ does.PassOn ∷ []
is_passed_so head p may =
    ap (λ o. (routed_by head o).commands) (unfaulted p.target p.has_come_back p.is_barred p.is_last_recipient p.has_many_options p.has_room may)

unrefused : (a p c b r : Bool) → (a && (p && (not c && (not b && r)))) ≡ true → (if not a then Some 400 else if not p then Some 403 else first_of (bar_of c b) (if r then None else Some 503)) ≡ None
unrefused true true false false true e = refl
unrefused a p c b r e = absurd (cc)

pub is_opened_so : (head : RequestHead) (t : TunnelTarget) → may_be_tunnelled t ≡ true → (turn head stages.Aiming (events.Aimed t)).commands ≡ does.OpenTunnel ∷ []
is_opened_so head t may =
    ap (λ o. (aimed_by head o).commands) (unrefused t.is_authority t.is_port_allowed t.has_come_back t.is_barred t.has_room may)

neither_so : (k s : Bool) → (k || s) ≡ false → (true && (not k && not s)) ≡ true
neither_so false false e = refl
neither_so k s e = absurd (cc)

other_so : (share : Share) (f : Fetched) → may_have share f ≡ false → is_for_another share f ≡ true
other_so shares.Joined f e = neither_so f.is_kept f.is_stale e
other_so shares.Began f e = absurd (cc)
other_so shares.Alone f e = absurd (cc)

pub is_set_apart : (head : RequestHead) (w : Wait) (f : Fetched) → may_have w.share f ≡ false → w.is_second ≡ false → wants_stored w.mode ≡ false → head.has_many_options ≡ false → count_by is_submit_alone (turn head (stages.Waiting w) (events.Answered (outcomes.Fetched f))).commands ≡ 1
is_set_apart head w f other first fetched few =
    ap (λ (t : Turn). count_by is_submit_alone t.commands) (on_true (is_for_another w.share f) _ _ (other_so w.share f other) ∙ on_false w.is_second _ _ first ∙ on_false (is_cached w.mode) _ _ (sym (same_cached w.mode) ∙ fetched) ∙ on_false head.has_many_options _ _ few)

-- WHAT HAS COME IS GIVEN

pub hit_is_given : (head : RequestHead) (w : Wait) (hit : Hit) → hit.is_accepted ≡ true → (turn head (stages.Waiting w) (events.Answered (outcomes.Hit hit))).commands ≡ gives_one head (answers.Hit hit.shape)
hit_is_given head w hit met = ap (λ (t : Turn). t.commands) (on_true hit.is_accepted _ _ met)

some_so : (k s : Bool) → (k || s) ≡ true → (true && (not k && not s)) ≡ false
some_so true s e = refl
some_so false true e = refl
some_so false false e = absurd (cc)

own_so : (share : Share) (f : Fetched) → may_have share f ≡ true → is_for_another share f ≡ false
own_so shares.Joined f e = some_so f.is_kept f.is_stale e
own_so shares.Began f e = refl
own_so shares.Alone f e = refl

same_shape : (share : Share) (shape : Shape) → shape_for share shape ≡ shape_due share shape
same_shape shares.Joined shape = refl
same_shape shares.Began shape = refl
same_shape shares.Alone shape = refl

pub fetched_is_given : (head : RequestHead) (w : Wait) (f : Fetched) → may_have w.share f ≡ true → (turn head (stages.Waiting w) (events.Answered (outcomes.Fetched f))).commands ≡ gives_one head (answers.Fetched (shape_due w.share f.shape))
fetched_is_given head w f may =
    ap (λ (t : Turn). t.commands) (on_false (is_for_another w.share f) _ _ (own_so w.share f may)) ∙ ap (λ shape. gives_one head (answers.Fetched shape)) (same_shape w.share f.shape)

pub early_is_given : (head : RequestHead) (w : Wait) → w.share ≡ shares.Began → (turn head (stages.Waiting w) (events.Answered outcomes.Early)).commands ≡ does.Withdraw ∷ gives_one head answers.Early
early_is_given head w begun = ap (λ (t : Turn). t.commands) (on_true (has_begun w.share) _ _ (ap has_begun begun))

pub same_stale : (head : RequestHead) (mode : Mode) → may_have_stale head mode ≡ takes_stale head mode
same_stale head Shared = refl
same_stale head Cached = refl
same_stale head Private = refl

pub stale_is_given : (head : RequestHead) (a : Acceptance) (s : Submission) → may_have_stale head s.mode ≡ true → a.has_stale ≡ true → (turn head (stages.Submitting s) (events.Accepted a)).commands ≡ does.Withdraw ∷ gives_one head answers.Stale
stale_is_given head a s may has =
    ap (λ (t : Turn). t.commands) (on_true (takes_stale head s.mode && a.has_stale) _ _ (both_true (takes_stale head s.mode) a.has_stale (sym (same_stale head s.mode) ∙ may) has))

pub declined_is_stale : (head : RequestHead) (s : Submission) → may_have_stale head s.mode ≡ true → (turn head (stages.Submitting s) (events.Declined true)).commands ≡ gives_one head answers.Stale
declined_is_stale head s may =
    ap (λ (t : Turn). t.commands) (on_true (takes_stale head s.mode && true) _ _ (both_true (takes_stale head s.mode) true (sym (same_stale head s.mode) ∙ may) refl))

pub failure_is_given : (head : RequestHead) (w : Wait) (f : Failure) → f.is_long ≡ false → (turn head (stages.Waiting w) (events.Answered (outcomes.Failed f))).commands ≡ gives_one head (answers.Own f.status)
failure_is_given head w f short =
    ap (λ (t : Turn). t.commands) (on_false ((f.status == 502) && (f.is_long && not (is_cached w.mode))) _ _ (and_none (f.status == 502) _ (none_and f.is_long _ short)))

pub passed_is_given : (head : RequestHead) (content : Content) (p : PassedHead) → p.has_many_options ≡ false → count_by (answers_so is_passed_one) (turn head (stages.Passing content) (events.Passed (passages.Head p))).commands ≡ 1
passed_is_given head content p few =
    let P : Turn → Type 0 = λ t. count_by (answers_so is_passed_one) t.commands ≡ 1 in
    let a : cond {A = ℕ} (is_passed_one (answer_of p)) 1 0 ≡ 1 = ap (λ b. cond {A = ℕ} (is_passed_one (if b then answers.Own 502 else answers.Passed)) 1 0) few in
    split P (head.is_unsafe && is_carried_out p.status) _ _ (λ _. omega arith)
    (λ _. split P (head.is_unsafe && is_unclear p) _ _ (λ _. omega arith) (λ _. omega arith))

pub tunnel_is_given : (head : RequestHead) → (turn head stages.Opening (events.Tunnelled tunnels.Opened)).commands ≡ gives_one head answers.Tunnel
tunnel_is_given head = refl

pub done_is_taken_out : (head : RequestHead) (content : Content) (p : PassedHead) → head.is_unsafe ≡ true → says_done p.status ≡ true → count_by takes_by_answer (turn head (stages.Passing content) (events.Passed (passages.Head p))).commands ≡ 1
done_is_taken_out head content p dangerous says =
    ap (λ (t : Turn). count_by takes_by_answer t.commands) (on_true (head.is_unsafe && is_carried_out p.status) _ _ (both_true head.is_unsafe (is_carried_out p.status) dangerous says))
