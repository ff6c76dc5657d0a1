-- What holds of each row.
use Rattle.std.proofs.Common.{◌≡◌, ◌==◌, ℕ, ◌+◌, ◌-◌, ◌*◌, ◌≤◌, ◌<◌, Option, Some, None, if◌then◌else◌, Bool, true, false, not, ◌&&◌, ◌||◌, cond, arith, count_by, refl, ◌∙◌, ap}
use Rattle.node_terms.specs.declared.mode.Mode.{Mode}
use Rattle.node_terms.specs.declared.mode.Mode.TheVariants.{Shared, Cached, Private}
use Rattle.fair_use.specs.declared.unanswered.Upload.{Upload}
use Rattle.fair_use.specs.declared.unanswered.Upload.TheVariants as uploads
use Rattle.fair_use.specs.Unanswered.{may_have_changed}
use Rattle.request_life.specs.declared.facts.RequestHead.{RequestHead}
use Rattle.request_life.specs.declared.facts.Target.{Target}
use Rattle.request_life.specs.declared.facts.Target.TheVariants as targets
use Rattle.request_life.specs.declared.facts.Passage.{Passage}
use Rattle.request_life.specs.declared.facts.TunnelTarget.{TunnelTarget}
use Rattle.request_life.specs.declared.events.Event.{Event}
use Rattle.request_life.specs.declared.events.Event.TheVariants as events
use Rattle.request_life.specs.declared.commands.Answer.{Answer}
use Rattle.request_life.specs.declared.commands.Answer.TheVariants as answers
use Rattle.request_life.specs.declared.facts.Method.{Method}
use Rattle.request_life.specs.declared.facts.Method.TheVariants as methods
use Rattle.request_life.specs.declared.stages.Content.{Content}
use Rattle.request_life.specs.declared.stages.Content.TheVariants as contents
use Rattle.request_life.specs.declared.stages.Stage.{Stage}
use Rattle.request_life.specs.declared.stages.Stage.TheVariants as stages
use Rattle.request_life.specs.Table.{Turn, is_private, is_get, is_head, content_of, upload_of, has_joined, share_of, bar_of, beside, is_shared, is_cached, is_first, fault_of, first_of, passage_fault, tunnel_fault, answer_of, is_for_another}
use Rattle.request_life.specs.declared.events.Fetched.{Fetched}
use Rattle.request_life.specs.declared.events.Outcome.TheVariants as outcomes
use Rattle.request_life.specs.declared.events.PassedHead.{PassedHead}
use Rattle.request_life.specs.declared.events.PassedEnd.{PassedEnd}
use Rattle.request_life.specs.declared.events.PassedEnd.TheVariants as passages
use Rattle.request_life.specs.Rows.{Row, awaits, changes_nothing, is_early, is_unknown, is_unsent}
use Rattle.request_life.specs.Rows as rows
use Rattle.request_life.specs.Laws.{one, wants_own, is_submit_alone, has_unsendable, ends_connection_by, may_be_answered, is_for_store_alone, stays_with_store, says_done, says_unclear, is_silence, is_all_sent, leaves_unchanged, wants_stored, is_awaited, is_give, is_submit, is_fetch, is_withdraw, is_pass_on, is_open_tunnel, is_sent, is_take_out, is_record, is_more_than_record, is_recorded, is_waiting, is_taken, is_settled, is_left, is_again, goes_further, ends_passage, says_nothing, says_nothing_unsent, says_nothing_in_time, leaves_time, pending_at, unchanged_at, answers_so, is_early_one, is_fetched, must_close, goes_on, heard, is_hit, is_stale, is_tunnel, is_met_hit, has_stale, is_opened, is_url, aims_well, routes_well, leaves_all, passes_unsafe, bars, is_for_store, asks_store}
use Rattle.request_life.proofs.Measures.{is_answered, is_done, may_break, may_part_unsent, may_part_whole, all_submits_left, is_beginner, has_departed, has_gone_on, may_fetch, submits_left, passes_left, tunnels_left, steps_left, may_pass, sends_fields}

pub give_adds : (head : RequestHead) (stage : Stage) (event : Event) (t : Turn) → Row head stage event t → count_by is_give t.commands + one (is_answered stage) ≡ one (is_answered t.life.stage)
give_adds head stage event t (rows.Unawaited h s e idle) = omega arith
give_adds head stage event t row = refl

pub record_adds : (head : RequestHead) (stage : Stage) (event : Event) (t : Turn) → Row head stage event t → count_by is_record t.commands + one (is_recorded stage) ≡ one (is_recorded t.life.stage)
record_adds head stage event t (rows.Unawaited h s e idle) = omega arith
record_adds head stage event t row = refl

pub submit_uses : (head : RequestHead) (stage : Stage) (event : Event) (t : Turn) → Row head stage event t → count_by is_submit t.commands + submits_left t.life.stage ≤ submits_left stage + one (is_again event)
submit_uses head stage event t (rows.Unawaited h s e idle) = omega arith
submit_uses head stage event t (rows.Taken_apart h a s shared first joined apart few) = let e : one (not s.is_second) ≡ 1 = ap (λ b. one (not b)) first in omega arith
submit_uses head stage event t (rows.Asked_again h w outcome unmet early first fetched few) =
    let e : one (not w.is_second) ≡ 1 = ap (λ b. one (not b)) first in omega arith
submit_uses head stage event t (rows.Handed_in_anew h w round first) = let e : one (not w.is_second) ≡ 1 = ap (λ b. one (not b)) first in omega arith
submit_uses head stage event t row = omega arith

and_one : (a b : Bool) → a ≡ true → b ≡ false → one (a && not b) ≡ 1
and_one true false e g = refl
and_one true true e g = absurd (cc)
and_one false b e g = absurd (cc)

at_most_one : (b : Bool) → one b ≤ 1
at_most_one true = omega arith
at_most_one false = omega arith

and_less : (a b : Bool) → one (a && b) ≤ one a
and_less true b = at_most_one b
and_less false b = omega arith

none_after : (a b : Bool) → b ≡ true → one (a && not b) ≡ 0
none_after true b e = ap (λ v. one (not v)) e
none_after false b e = refl

pub all_submits_use : (head : RequestHead) (stage : Stage) (event : Event) (t : Turn) → Row head stage event t → count_by is_submit t.commands + all_submits_left t.life.stage ≤ all_submits_left stage
all_submits_use head stage event t (rows.Unawaited h s e idle) = omega arith
all_submits_use head stage event t (rows.Found_asks h lookup round mode is none fields) = let a = and_less (is_first round) true in omega arith
all_submits_use head stage event t (rows.Found_part h lookup round is unstored third none few) = let a = and_less (is_first round) true in omega arith
all_submits_use head stage event t (rows.Taken_apart h a s shared first joined apart few) =
    let e : one (not s.is_second) ≡ 1 = ap (λ b. one (not b)) first in
    let g = none_after (is_first s.round) true refl in omega arith
all_submits_use head stage event t (rows.Asked_again h w outcome unmet early first fetched few) =
    let e : one (not w.is_second) ≡ 1 = ap (λ b. one (not b)) first in
    let g = none_after (is_first w.round) true refl in omega arith
all_submits_use head stage event t (rows.Handed_in_anew h w round first) =
    let e : one (not w.is_second) ≡ 1 = ap (λ b. one (not b)) first in
    let g = and_one (is_first w.round) w.is_second round first in omega arith
all_submits_use head stage event t row = omega arith

pub pass_uses : (head : RequestHead) (stage : Stage) (event : Event) (t : Turn) → Row head stage event t → count_by is_pass_on t.commands + passes_left t.life.stage ≤ passes_left stage
pass_uses head stage event t (rows.Unawaited h s e idle) = omega arith
pass_uses head stage event t row = omega arith

pub tunnel_uses : (head : RequestHead) (stage : Stage) (event : Event) (t : Turn) → Row head stage event t → count_by is_open_tunnel t.commands + tunnels_left t.life.stage ≤ tunnels_left stage
tunnel_uses head stage event t (rows.Unawaited h s e idle) = omega arith
tunnel_uses head stage event t row = omega arith

-- what the table waits for is what the law counts
pub same_awaited : (event : Event) (stage : Stage) → is_awaited stage event ≡ awaits stage event
same_awaited (events.Received head) stages.Receiving = refl
same_awaited (events.Received head) stage = refl
same_awaited (events.Collected how) stages.Collecting = refl
same_awaited (events.Collected how) stage = refl
same_awaited (events.Found lookup) (stages.LookingUp round) = refl
same_awaited (events.Found lookup) stage = refl
same_awaited (events.Accepted a) (stages.Submitting s) = refl
same_awaited (events.Accepted a) stages.Leaving = refl
same_awaited (events.Accepted a) stage = refl
same_awaited (events.Declined has_one) (stages.Submitting s) = refl
same_awaited (events.Declined has_one) stages.Leaving = refl
same_awaited (events.Declined has_one) stage = refl
same_awaited events.Read (stages.Passing contents.Coming) = refl
same_awaited events.Read (stages.Passing contents.Read) = refl
same_awaited events.Read (stages.Passing contents.Sent) = refl
same_awaited events.Read stage = refl
same_awaited (events.Answered outcome) (stages.Waiting w) = refl
same_awaited (events.Answered outcome) stage = refl
same_awaited (events.Routed p) stages.Routing = refl
same_awaited (events.Routed p) stage = refl
same_awaited (events.Passed how) (stages.Passing content) = refl
same_awaited (events.Passed how) stage = refl
same_awaited events.Sent (stages.Passing contents.Coming) = refl
same_awaited events.Sent (stages.Passing contents.Read) = refl
same_awaited events.Sent (stages.Passing contents.Sent) = refl
same_awaited events.Sent (stages.Parting uploads.Whole) = refl
same_awaited events.Sent (stages.Parting uploads.Broken) = refl
same_awaited events.Sent stage = refl
same_awaited events.UploadBroken (stages.Passing contents.Coming) = refl
same_awaited events.UploadBroken (stages.Passing contents.Read) = refl
same_awaited events.UploadBroken (stages.Passing contents.Sent) = refl
same_awaited events.UploadBroken stage = refl
same_awaited events.Expired (stages.Parting upload) = refl
same_awaited events.Expired stage = refl
same_awaited (events.Aimed t) stages.Aiming = refl
same_awaited (events.Aimed t) stage = refl
same_awaited (events.Tunnelled how) stages.Opening = refl
same_awaited (events.Tunnelled how) stage = refl
same_awaited events.Left stages.Receiving = refl
same_awaited events.Left stage = refl
same_awaited events.Finished stages.Giving = refl
same_awaited events.Finished stage = refl

passing_steps : (content : Content) → 2 ≤ steps_left (stages.Passing content)
passing_steps contents.Coming = omega arith
passing_steps contents.Read = omega arith
passing_steps contents.Sent = omega arith

begun_steps : (b : Bool) → steps_left (stages.Passing (if b then contents.Coming else contents.Read)) ≤ 4
begun_steps true = omega arith
begun_steps false = omega arith

sending_steps : (content : Content) → is_unsent (upload_of content) ≡ true → 3 ≤ steps_left (stages.Passing content)
sending_steps contents.Coming e = omega arith
sending_steps contents.Read e = omega arith
sending_steps contents.Sent e = absurd (cc)

routing_steps : (head : RequestHead) → steps_left (stages.Passing (content_of head)) ≤ 4
routing_steps head = begun_steps head.has_upload

parting_steps : (upload : Upload) → 1 ≤ steps_left (stages.Parting upload)
parting_steps uploads.Whole = omega arith
parting_steps uploads.Broken = omega arith

leaving_steps : (content : Content) → 1 + steps_left (stages.Parting (upload_of content)) ≤ steps_left (stages.Passing content)
leaving_steps contents.Coming = omega arith
leaving_steps contents.Read = omega arith
leaving_steps contents.Sent = omega arith

pub steps_run_down : (head : RequestHead) (stage : Stage) (event : Event) (t : Turn) → Row head stage event t → one (is_awaited stage event) + steps_left t.life.stage ≤ steps_left stage
steps_run_down head stage event t (rows.Unawaited h s e idle) = let f : one (is_awaited s e) ≡ 0 = ap one (same_awaited e s ∙ idle) in omega arith
steps_run_down head stage event t (rows.Found_asks h lookup round mode is none fields) = let a = and_less (is_first round) true in omega arith
steps_run_down head stage event t (rows.Found_part h lookup round is unstored third none few) = let a = and_less (is_first round) true in omega arith
steps_run_down head stage event t (rows.Taken_apart h a s shared first joined apart few) =
    let e : one (not s.is_second) ≡ 1 = ap (λ b. one (not b)) first in
    let g = none_after (is_first s.round) true refl in omega arith
steps_run_down head stage event t (rows.Asked_again h w outcome unmet early first fetched few) =
    let e : one (not w.is_second) ≡ 1 = ap (λ b. one (not b)) first in
    let g = none_after (is_first w.round) true refl in omega arith
steps_run_down head stage event t (rows.Handed_in_anew h w round first) =
    let e : one (not w.is_second) ≡ 1 = ap (λ b. one (not b)) first in
    let g = and_one (is_first w.round) w.is_second round first in omega arith
steps_run_down head stage event t (rows.Routed_on h p none) = let a = routing_steps h in omega arith
steps_run_down head stage event t (rows.Sent_whole h content unsent) =
    let a = sending_steps content unsent in let b = at_most_one (is_awaited (stages.Passing content) events.Sent) in omega arith
steps_run_down head stage event t (rows.Passed_changed h content p dangerous says) = let a = passing_steps content in omega arith
steps_run_down head stage event t (rows.Passed_open h content p dangerous unclear) = let a = passing_steps content in omega arith
steps_run_down head stage event t (rows.Passed_safe h content p safe) = let a = passing_steps content in omega arith
steps_run_down head stage event t (rows.Passed_unchanged h content p says unclear) = let a = passing_steps content in omega arith
steps_run_down head stage event t (rows.Passed_refused h content) = let a = passing_steps content in omega arith
steps_run_down head stage event t (rows.Unanswered_unsafe h content how unknown dangerous) = let a = passing_steps content in omega arith
steps_run_down head stage event t (rows.Unanswered_safe h content how unknown safe) = let a = passing_steps content in omega arith
steps_run_down head stage event t (rows.Left_passing_unsafe h content dangerous) = let a = leaving_steps content in omega arith
steps_run_down head stage event t (rows.Left_passing_safe h content safe) = let a = passing_steps content in omega arith
steps_run_down head stage event t (rows.Parted_changed h upload p says) = let a = parting_steps upload in omega arith
steps_run_down head stage event t (rows.Parted_lost h upload how unknown says) = let a = parting_steps upload in omega arith
steps_run_down head stage event t (rows.Parted_unchanged h upload how nothing) = let a = parting_steps upload in omega arith
steps_run_down head stage event t (rows.Parted_late h upload says) = let a = parting_steps upload in omega arith
steps_run_down head stage event t (rows.Parted_in_vain h upload says) = let a = parting_steps upload in omega arith
steps_run_down head stage event t row = omega arith

-- what is taken or settled is awaited
taken_awaited : (stage : Stage) (event : Event) → awaits stage event ≡ false → is_taken stage event ≡ false
taken_awaited (stages.Submitting s) (events.Accepted a) idle = idle
taken_awaited (stages.Submitting s) event idle = refl
taken_awaited stages.Leaving (events.Accepted a) idle = idle
taken_awaited stages.Leaving event idle = refl
taken_awaited stage event idle = refl

settled_awaited : (stage : Stage) (event : Event) → awaits stage event ≡ false → is_settled stage event ≡ false
settled_awaited (stages.Waiting w) (events.Answered outcome) idle = absurd (cc)
settled_awaited (stages.Waiting w) event idle = refl
settled_awaited stage event idle = refl

unchanged_awaited : (head : RequestHead) (stage : Stage) (event : Event) → awaits stage event ≡ false → unchanged_at head stage event ≡ 0
unchanged_awaited head (stages.Passing content) (events.Passed how) idle = absurd (cc)
unchanged_awaited head (stages.Passing content) event idle = refl
unchanged_awaited head (stages.Parting upload) (events.Passed how) idle = absurd (cc)
unchanged_awaited head (stages.Parting upload) events.Expired idle = absurd (cc)
unchanged_awaited head (stages.Parting upload) event idle = refl
unchanged_awaited head stages.Breaking (events.Passed how) idle = absurd (cc)
unchanged_awaited head stages.Breaking events.Expired idle = absurd (cc)
unchanged_awaited head stages.Breaking event idle = refl
unchanged_awaited head stages.BrokenOff (events.Passed how) idle = absurd (cc)
unchanged_awaited head stages.BrokenOff events.Expired idle = absurd (cc)
unchanged_awaited head stages.BrokenOff event idle = refl
unchanged_awaited head stage event idle = refl

pub wait_balances : (head : RequestHead) (stage : Stage) (event : Event) (t : Turn) → Row head stage event t → one (is_taken stage event) + one (is_waiting stage) ≡ count_by is_withdraw t.commands + one (is_settled stage event) + one (is_waiting t.life.stage)
wait_balances head stage event t (rows.Unawaited h s e idle) =
    let a : one (is_taken s e) ≡ 0 = ap one (taken_awaited s e idle) in
    let b : one (is_settled s e) ≡ 0 = ap one (settled_awaited s e idle) in omega arith
wait_balances head stage event t (rows.Asked_again h w outcome unmet early first fetched few) =
    let a : one (not (is_early outcome)) ≡ 1 = ap (λ b. one (not b)) early in omega arith
wait_balances head stage event t (rows.Again_refused h w outcome unmet early second) =
    let a : one (not (is_early outcome)) ≡ 1 = ap (λ b. one (not b)) early in omega arith
wait_balances head stage event t (rows.Again_many_options h w outcome unmet early first fetched many) =
    let a : one (not (is_early outcome)) ≡ 1 = ap (λ b. one (not b)) early in omega arith
wait_balances head stage event t (rows.Again_uncached h w outcome unmet early first cached) =
    let a : one (not (is_early outcome)) ≡ 1 = ap (λ b. one (not b)) early in omega arith
wait_balances head stage event t row = refl

counts_one : (b : Bool) → cond b 1 0 ≡ one b
counts_one true = refl
counts_one false = refl

and_false : (x u : Bool) → u ≡ false → one (x && u) ≡ 0
and_false true u e = ap one e
and_false false u e = refl

not_first : (x y u : Bool) → x ≡ true → one ((not x && not y) && u) ≡ 0
not_first true y u e = refl
not_first false y u e = absurd (cc)

not_second : (x y u : Bool) → y ≡ true → one ((not x && not y) && u) ≡ 0
not_second x false u e = absurd (cc)
not_second true true u e = refl
not_second false true u e = refl

neither : (x y u : Bool) → x ≡ false → y ≡ false → one ((not x && not y) && u) ≡ one u
neither false false u e f = refl
neither true y u e f = absurd (cc)
neither false true u e f = absurd (cc)

-- the words of the laws are those of the table
same_silence : (how : PassedEnd) → is_silence how ≡ is_unknown how
same_silence passages.TimedOut = refl
same_silence passages.Failed = refl
same_silence passages.Refused = refl
same_silence (passages.Head p) = refl

same_unsaid : (upload : Upload) → is_all_sent upload ≡ may_have_changed upload None
same_unsaid uploads.Whole = refl
same_unsaid uploads.Broken = refl

pub same_said : (upload : Upload) (status : ℕ) → says_done status ≡ may_have_changed upload (Some status)
same_said uploads.Whole status = refl
same_said uploads.Broken status = refl

same_unchanged : (upload : Upload) (how : PassedEnd) → leaves_unchanged upload how ≡ changes_nothing upload how
same_unchanged upload (passages.Head p) = ap not (same_said upload p.status)
same_unchanged upload passages.Refused = refl
same_unchanged upload passages.TimedOut = ap not (same_unsaid upload)
same_unchanged upload passages.Failed = ap not (same_unsaid upload)

unknown_leaves_none : (how : PassedEnd) (u : Bool) → is_unknown how ≡ true → one (leaves_all how && u) ≡ 0
unknown_leaves_none passages.TimedOut u e = refl
unknown_leaves_none passages.Failed u e = refl
unknown_leaves_none passages.Refused u e = absurd (cc)
unknown_leaves_none (passages.Head p) u e = absurd (cc)

unknown_says_none : (upload : Upload) (how : PassedEnd) → is_unknown how ≡ true → leaves_unchanged upload how ≡ not (may_have_changed upload None)
unknown_says_none upload passages.TimedOut e = ap not (same_unsaid upload)
unknown_says_none upload passages.Failed e = ap not (same_unsaid upload)
unknown_says_none upload passages.Refused e = absurd (cc)
unknown_says_none upload (passages.Head p) e = absurd (cc)

pub unsafe_balances : (head : RequestHead) (stage : Stage) (event : Event) (t : Turn) → Row head stage event t → count_by (passes_unsafe head) t.commands + pending_at head stage ≡ count_by is_take_out t.commands + unchanged_at head stage event + pending_at t.life.head t.life.stage
unsafe_balances head stage event t (rows.Unawaited h s e idle) = let a = unchanged_awaited h s e idle in omega arith
unsafe_balances head stage event t (rows.Routed_on h p none) =
    let a : cond h.is_unsafe 1 0 ≡ one h.is_unsafe = counts_one h.is_unsafe in omega arith
unsafe_balances head stage event t (rows.Passed_changed h content p dangerous says) =
    let a : one h.is_unsafe ≡ 1 = ap one dangerous in
    let b = not_first (says_done p.status) (says_unclear p) h.is_unsafe says in omega arith
unsafe_balances head stage event t (rows.Passed_open h content p dangerous unclear) =
    let a : one h.is_unsafe ≡ 1 = ap one dangerous in
    let b = not_second (says_done p.status) (says_unclear p) h.is_unsafe unclear in omega arith
unsafe_balances head stage event t (rows.Passed_safe h content p safe) =
    let a : one h.is_unsafe ≡ 0 = ap one safe in
    let b = and_false (leaves_all (passages.Head p)) h.is_unsafe safe in omega arith
unsafe_balances head stage event t (rows.Passed_unchanged h content p says unclear) =
    let b = neither (says_done p.status) (says_unclear p) h.is_unsafe says unclear in omega arith
unsafe_balances head stage event t (rows.Passed_refused h content) = omega arith
unsafe_balances head stage event t (rows.Unanswered_unsafe h content how unknown dangerous) =
    let a : one h.is_unsafe ≡ 1 = ap one dangerous in
    let b = unknown_leaves_none how h.is_unsafe unknown in omega arith
unsafe_balances head stage event t (rows.Unanswered_safe h content how unknown safe) =
    let a : one h.is_unsafe ≡ 0 = ap one safe in
    let b = unknown_leaves_none how h.is_unsafe unknown in omega arith
unsafe_balances head stage event t (rows.Broken_unsafe h dangerous) = let a : one h.is_unsafe ≡ 1 = ap one dangerous in omega arith
unsafe_balances head stage event t (rows.Broken_safe h safe) = let a : one h.is_unsafe ≡ 0 = ap one safe in omega arith
unsafe_balances head stage event t (rows.Parted_changed h upload p says) =
    let a : one (leaves_unchanged upload (passages.Head p)) ≡ 0 = ap (λ b. one (not b)) (same_said upload p.status ∙ says) in omega arith
unsafe_balances head stage event t (rows.Parted_lost h upload how unknown says) =
    let a : one (leaves_unchanged upload how) ≡ 0 = ap one (unknown_says_none upload how unknown) ∙ ap (λ b. one (not b)) says in omega arith
unsafe_balances head stage event t (rows.Parted_unchanged h upload how nothing) =
    let a : one (leaves_unchanged upload how) ≡ 1 = ap one (same_unchanged upload how ∙ nothing) in omega arith
unsafe_balances head stage event t (rows.Parted_late h upload says) =
    let a : one (not (is_all_sent upload)) ≡ 0 = ap (λ b. one (not b)) (same_unsaid upload ∙ says) in omega arith
unsafe_balances head stage event t (rows.Parted_in_vain h upload says) =
    let a : one (not (is_all_sent upload)) ≡ 1 = ap (λ b. one (not b)) (same_unsaid upload ∙ says) in omega arith
unsafe_balances head stage event t (rows.Breaking_changed h p says) =
    let a : one (leaves_unchanged uploads.Broken (passages.Head p)) ≡ 0 = ap (λ b. one (not b)) (same_said uploads.Broken p.status ∙ says) in omega arith
unsafe_balances head stage event t (rows.Breaking_unchanged h how nothing) =
    let a : one (leaves_unchanged uploads.Broken how) ≡ 1 = ap one (same_unchanged uploads.Broken how ∙ nothing) in omega arith
unsafe_balances head stage event t (rows.Broken_off_changed h p says) =
    let a : one (leaves_unchanged uploads.Broken (passages.Head p)) ≡ 0 = ap (λ b. one (not b)) (same_said uploads.Broken p.status ∙ says) in omega arith
unsafe_balances head stage event t (rows.Broken_off_unchanged h how nothing) =
    let a : one (leaves_unchanged uploads.Broken how) ≡ 1 = ap one (same_unchanged uploads.Broken how ∙ nothing) in omega arith
unsafe_balances head stage event t (rows.Left_passing_unsafe h content dangerous) = let a : one h.is_unsafe ≡ 1 = ap one dangerous in omega arith
unsafe_balances head stage event t (rows.Left_passing_safe h content safe) = let a : one h.is_unsafe ≡ 0 = ap one safe in omega arith
unsafe_balances head stage event t row = refl

-- what is taken out is so by what a server says, or for want of it
unknown_ends : (how : PassedEnd) → is_unknown how ≡ true → ends_passage (events.Passed how) ≡ true
unknown_ends passages.TimedOut e = refl
unknown_ends passages.Failed e = refl
unknown_ends passages.Refused e = absurd (cc)
unknown_ends (passages.Head p) e = absurd (cc)

pub take_out_cause : (head : RequestHead) (stage : Stage) (event : Event) (t : Turn) → Row head stage event t → 0 < count_by is_take_out t.commands → ends_passage event ≡ true
take_out_cause head stage event t (rows.Passed_changed h content p dangerous says) some = refl
take_out_cause head stage event t (rows.Passed_open h content p dangerous unclear) some = refl
take_out_cause head stage event t (rows.Unanswered_unsafe h content how unknown dangerous) some = unknown_ends how unknown
take_out_cause head stage event t (rows.Parted_changed h upload p says) some = refl
take_out_cause head stage event t (rows.Parted_lost h upload how unknown says) some = unknown_ends how unknown
take_out_cause head stage event t (rows.Parted_late h upload says) some = refl
take_out_cause head stage event t (rows.Breaking_changed h p says) some = refl
take_out_cause head stage event t (rows.Broken_off_changed h p says) some = refl
take_out_cause head stage event t row some = absurd (omega arith)

-- what a client has broken takes out nothing without a word of its server
broken_says : (p : PassedHead) → may_have_changed uploads.Broken (Some p.status) ≡ true → one (not (says_nothing (events.Passed (passages.Head p)))) ≡ 1
broken_says p e = ap (λ b. one (not (not b))) e

pub broken_stays : (head : RequestHead) (stage : Stage) (event : Event) (t : Turn) → Row head stage event t → count_by is_take_out t.commands + may_break t.life.stage ≤ 4 * (may_break stage + one (not (says_nothing event)))
broken_stays head stage event t (rows.Unawaited h s e idle) = omega arith
broken_stays head stage event t (rows.Breaking_changed h p says) = let a = broken_says p says in omega arith
broken_stays head stage event t (rows.Broken_off_changed h p says) = let a = broken_says p says in omega arith
broken_stays head stage event t row = omega arith

-- nor does what it has left before all was sent
both_fail : (a b : Bool) → one (not a) ≤ one (not (a && b))
both_fail true b = omega arith
both_fail false b = omega arith

and_not : (a b : Bool) → b ≡ false → one (not (a && b)) ≡ 1
and_not true b e = ap (λ v. one (not v)) e
and_not false b e = refl

unsent_head : (upload : Upload) (p : PassedHead) → may_have_changed upload (Some p.status) ≡ true → 1 ≤ may_part_unsent (stages.Parting upload) + one (not (says_nothing_unsent (events.Passed (passages.Head p))))
unsent_head uploads.Whole p e = omega arith
unsent_head uploads.Broken p e =
    let a = broken_says p e in let b = both_fail (says_nothing (events.Passed (passages.Head p))) true in omega arith

unsent_none : (upload : Upload) → may_have_changed upload None ≡ true → may_part_unsent (stages.Parting upload) ≡ 1
unsent_none uploads.Whole e = refl
unsent_none uploads.Broken e = absurd (cc)

unsent_small : (upload : Upload) → may_part_unsent (stages.Parting upload) ≤ 1
unsent_small uploads.Whole = omega arith
unsent_small uploads.Broken = omega arith

pub unsent_stays : (head : RequestHead) (stage : Stage) (event : Event) (t : Turn) → Row head stage event t → count_by is_take_out t.commands + may_part_unsent t.life.stage ≤ 4 * (may_part_unsent stage + one (not (says_nothing_unsent event)))
unsent_stays head stage event t (rows.Unawaited h s e idle) = omega arith
unsent_stays head stage event t (rows.Left_passing_unsafe h content dangerous) = let a = unsent_small (upload_of content) in omega arith
unsent_stays head stage event t (rows.Parted_changed h upload p says) = let a = unsent_head upload p says in omega arith
unsent_stays head stage event t (rows.Parted_lost h upload how unknown says) = let a = unsent_none upload says in omega arith
unsent_stays head stage event t (rows.Parted_late h upload says) = let a = unsent_none upload says in omega arith
unsent_stays head stage event t row = omega arith

-- nor what was sent whole, as long as there is time for an answer
whole_head : (upload : Upload) (p : PassedHead) → may_have_changed upload (Some p.status) ≡ true → 1 ≤ may_part_whole (stages.Parting upload) + one (not (says_nothing_in_time (events.Passed (passages.Head p))))
whole_head uploads.Broken p e = omega arith
whole_head uploads.Whole p e =
    let a : one (not (says_nothing (events.Passed (passages.Head p)))) ≡ 1 = ap (λ b. one (not (not b))) e in
    let b = both_fail (says_nothing (events.Passed (passages.Head p))) (leaves_time (events.Passed (passages.Head p))) in omega arith

whole_lost : (how : PassedEnd) → is_unknown how ≡ true → one (not (says_nothing_in_time (events.Passed how))) ≡ 1
whole_lost how e = and_not (says_nothing (events.Passed how)) (leaves_time (events.Passed how)) (ap not (same_silence how ∙ e))

whole_small : (upload : Upload) → may_part_whole (stages.Parting upload) ≤ 1
whole_small uploads.Whole = omega arith
whole_small uploads.Broken = omega arith

pub whole_stays : (head : RequestHead) (stage : Stage) (event : Event) (t : Turn) → Row head stage event t → count_by is_take_out t.commands + may_part_whole t.life.stage ≤ 4 * (may_part_whole stage + one (not (says_nothing_in_time event)))
whole_stays head stage event t (rows.Unawaited h s e idle) = omega arith
whole_stays head stage event t (rows.Left_passing_unsafe h content dangerous) = let a = whole_small (upload_of content) in omega arith
whole_stays head stage event t (rows.Parted_changed h upload p says) = let a = whole_head upload p says in omega arith
whole_stays head stage event t (rows.Parted_lost h upload how unknown says) = let a = whole_lost how unknown in omega arith
whole_stays head stage event t row = omega arith

-- once it is answered, nothing more is done
pub is_quiet : (head : RequestHead) (stage : Stage) (event : Event) (t : Turn) → Row head stage event t → count_by goes_further t.commands + (1 - one (is_answered t.life.stage)) ≤ 4 * (1 - one (is_answered stage))
is_quiet head stage event t (rows.Unawaited h s e idle) = omega arith
is_quiet head stage event t row = omega arith

pub is_silent : (head : RequestHead) (stage : Stage) (event : Event) (t : Turn) → Row head stage event t → count_by is_more_than_record t.commands + (1 - one (is_done t.life.stage)) ≤ 4 * (1 - one (is_done stage))
is_silent head stage event t (rows.Unawaited h s e idle) = omega arith
is_silent head stage event t row = omega arith

pub departs_by_leaving : (head : RequestHead) (stage : Stage) (event : Event) (t : Turn) → Row head stage event t → one (has_departed t.life.stage) ≤ one (has_departed stage) + one (is_left event)
departs_by_leaving head stage event t (rows.Unawaited h s e idle) = omega arith
departs_by_leaving head stage event t row = omega arith

-- causes
pub no_answer_so : (is : Answer → Bool) (many : Bool) → is (answers.Own 502) ≡ false → is answers.Passed ≡ false → is (if many then answers.Own 502 else answers.Passed) ≡ false
no_answer_so is true e f = e
no_answer_so is false e f = f

passes_no_hit : (p : PassedHead) → cond {A = ℕ} (is_hit (answer_of p)) 1 0 ≡ 0
passes_no_hit p = ap (λ b. cond {A = ℕ} b 1 0) (no_answer_so is_hit p.has_many_options refl refl)

passes_no_stale : (p : PassedHead) → cond {A = ℕ} (is_stale (answer_of p)) 1 0 ≡ 0
passes_no_stale p = ap (λ b. cond {A = ℕ} b 1 0) (no_answer_so is_stale p.has_many_options refl refl)

passes_no_early : (p : PassedHead) → cond {A = ℕ} (is_early_one (answer_of p)) 1 0 ≡ 0
passes_no_early p = ap (λ b. cond {A = ℕ} b 1 0) (no_answer_so is_early_one p.has_many_options refl refl)

passes_no_tunnel : (p : PassedHead) → cond {A = ℕ} (is_tunnel (answer_of p)) 1 0 ≡ 0
passes_no_tunnel p = ap (λ b. cond {A = ℕ} b 1 0) (no_answer_so is_tunnel p.has_many_options refl refl)

pub hit_cause : (head : RequestHead) (stage : Stage) (event : Event) (t : Turn) → Row head stage event t → 0 < count_by (answers_so is_hit) t.commands → is_met_hit event ≡ true
hit_cause head stage event t (rows.Hit_given h w hit met) some = met
hit_cause head stage event t (rows.Passed_changed h content p dangerous says) some = absurd (omega (arith, passes_no_hit p))
hit_cause head stage event t (rows.Passed_open h content p dangerous says) some = absurd (omega (arith, passes_no_hit p))
hit_cause head stage event t (rows.Passed_safe h content p safe) some = absurd (omega (arith, passes_no_hit p))
hit_cause head stage event t (rows.Passed_unchanged h content p says unclear) some = absurd (omega (arith, passes_no_hit p))
hit_cause head stage event t row some = absurd (omega arith)

pub stale_cause : (head : RequestHead) (stage : Stage) (event : Event) (t : Turn) → Row head stage event t → 0 < count_by (answers_so is_stale) t.commands → has_stale event ≡ true
stale_cause head stage event t (rows.Found_stale h lookup round status is stale none) some = stale
stale_cause head stage event t (rows.Taken_stale h a s takes stale) some = stale
stale_cause head stage event t (rows.Declined_stale h has_one s takes stale) some = stale
stale_cause head stage event t (rows.Passed_changed h content p dangerous says) some = absurd (omega (arith, passes_no_stale p))
stale_cause head stage event t (rows.Passed_open h content p dangerous says) some = absurd (omega (arith, passes_no_stale p))
stale_cause head stage event t (rows.Passed_safe h content p safe) some = absurd (omega (arith, passes_no_stale p))
stale_cause head stage event t (rows.Passed_unchanged h content p says unclear) some = absurd (omega (arith, passes_no_stale p))
stale_cause head stage event t row some = absurd (omega arith)

pub tunnel_cause : (head : RequestHead) (stage : Stage) (event : Event) (t : Turn) → Row head stage event t → 0 < count_by (answers_so is_tunnel) t.commands → is_opened event ≡ true
tunnel_cause head stage event t (rows.Opened h) some = refl
tunnel_cause head stage event t (rows.Passed_changed h content p dangerous says) some = absurd (omega (arith, passes_no_tunnel p))
tunnel_cause head stage event t (rows.Passed_open h content p dangerous says) some = absurd (omega (arith, passes_no_tunnel p))
tunnel_cause head stage event t (rows.Passed_safe h content p safe) some = absurd (omega (arith, passes_no_tunnel p))
tunnel_cause head stage event t (rows.Passed_unchanged h content p says unclear) some = absurd (omega (arith, passes_no_tunnel p))
tunnel_cause head stage event t row some = absurd (omega arith)

-- what is not refused is as the law wants it
well_aimed : (a p c b r : Bool) → (if not a then Some 400 else if not p then Some 403 else first_of (bar_of c b) (if r then None else Some 503)) ≡ None → (a && (p && (not c && (not b && r)))) ≡ true
well_aimed true true false false true e = refl
well_aimed a p c b r e = absurd (cc)

well_routed : (t : Target) (c b l m r : Bool) → first_of (fault_of t) (first_of (bar_of c b) (if l then Some 501 else if m then Some 400 else if r then None else Some 503)) ≡ None → (is_url t && (not c && (not b && (not l && (not m && r))))) ≡ true
well_routed targets.Url false false false false true e = refl
well_routed t c b l m r e = absurd (cc)

pub open_cause : (head : RequestHead) (stage : Stage) (event : Event) (t : Turn) → Row head stage event t → 0 < count_by is_open_tunnel t.commands → aims_well event ≡ true
open_cause head stage event t (rows.Aimed_opens h target none) some = well_aimed target.is_authority target.is_port_allowed target.has_come_back target.is_barred target.has_room none
open_cause head stage event t row some = absurd (omega arith)

pub pass_cause : (head : RequestHead) (stage : Stage) (event : Event) (t : Turn) → Row head stage event t → 0 < count_by is_pass_on t.commands → routes_well event ≡ true
pass_cause head stage event t (rows.Routed_on h p none) some = well_routed p.target p.has_come_back p.is_barred p.is_last_recipient p.has_many_options p.has_room none
pass_cause head stage event t row some = absurd (omega arith)

-- a request that is barred goes nowhere
first_none : (a b : Option ℕ) → first_of a b ≡ None → a ≡ None
first_none None b e = refl
first_none (Some n) b e = absurd (cc)

rest_none : (a b : Option ℕ) → first_of a b ≡ None → b ≡ None
rest_none None b e = e
rest_none (Some n) b e = absurd (cc)

if_none : (b : Bool) (n : ℕ) (o : Option ℕ) → (if b then Some n else o) ≡ None → o ≡ None
if_none true n o e = absurd (cc)
if_none false n o e = e

not_barred : (c b : Bool) → bar_of c b ≡ None → one (not (c || b)) ≡ 1
not_barred false false e = refl
not_barred c b e = absurd (cc)

passage_bar : (p : Passage) → passage_fault p ≡ None → bar_of p.has_come_back p.is_barred ≡ None
passage_bar p e = first_none _ _ (rest_none (fault_of p.target) _ e)

tunnel_bar : (t : TunnelTarget) → tunnel_fault t ≡ None → bar_of t.has_come_back t.is_barred ≡ None
tunnel_bar t e = first_none _ _ (if_none (not t.is_port_allowed) 403 _ (if_none (not t.is_authority) 400 _ e))

pub barred_stays : (head : RequestHead) (stage : Stage) (event : Event) (t : Turn) → Row head stage event t → count_by is_sent t.commands + one (has_gone_on t.life.stage) ≤ 4 * (one (has_gone_on stage) + one (not (bars event)))
barred_stays head stage event t (rows.Unawaited h s e idle) = omega arith
barred_stays head stage event t (rows.Found_asks h lookup round mode is none fields) =
    let a = not_barred lookup.has_come_back lookup.is_barred none in omega arith
barred_stays head stage event t (rows.Found_part h lookup round is unstored third none few) =
    let a = not_barred lookup.has_come_back lookup.is_barred none in omega arith
barred_stays head stage event t (rows.Routed_on h p none) =
    let a = not_barred p.has_come_back p.is_barred (passage_bar p none) in omega arith
barred_stays head stage event t (rows.Aimed_opens h target none) =
    let a = not_barred target.has_come_back target.is_barred (tunnel_bar target none) in omega arith
barred_stays head stage event t row = omega arith

-- what is to be answered from the store alone is not fetched
beside_cached : (is_overtaken : Bool) (mode : Mode) → is_cached mode ≡ true → is_cached (beside is_overtaken mode) ≡ true
beside_cached o Cached e = refl
beside_cached o Shared e = absurd (cc)
beside_cached o Private e = absurd (cc)

asks_fetch : (o : Bool) (mode : Mode) → cond {A = ℕ} (not (wants_stored (beside o mode))) 1 0 + one (not (wants_stored (beside o mode))) ≤ 4 * one (not (wants_stored mode))
asks_fetch o Cached = omega arith
asks_fetch true Shared = omega arith
asks_fetch false Shared = omega arith
asks_fetch o Private = omega arith

pub same_cached : (mode : Mode) → wants_stored mode ≡ is_cached mode
same_cached Shared = refl
same_cached Cached = refl
same_cached Private = refl

pub same_node : (head : RequestHead) (m : Method) → may_be_answered head m ≡ (is_get m || (is_head m && head.answers_heads))
same_node head methods.Get = refl
same_node head methods.Head = refl
same_node head methods.Connect = refl
same_node head methods.Other = refl

shared_fetches : (mode : Mode) → is_shared mode ≡ true → one (not (wants_stored mode)) ≡ 1
shared_fetches Shared e = refl
shared_fetches Cached e = absurd (cc)
shared_fetches Private e = absurd (cc)

pub stored_stays : (head : RequestHead) (stage : Stage) (event : Event) (t : Turn) → Row head stage event t → count_by is_fetch t.commands + one (may_fetch t.life.stage) ≤ 4 * (one (may_fetch stage) + one (not (is_for_store event)))
stored_stays head stage event t (rows.Found_asks h lookup round mode is none fields) =
    let a : one (not (asks_store lookup.choice)) ≡ one (not (wants_stored mode)) = ap (λ c. one (not (asks_store c))) is in
    let b = asks_fetch lookup.is_overtaken mode in omega arith
stored_stays head stage event t (rows.Found_part h lookup round is unstored third none few) =
    let a : one (not (asks_store lookup.choice)) ≡ 1 = ap (λ c. one (not (asks_store c))) is in omega arith
stored_stays head stage event t (rows.Taken_apart h a s shared first joined apart few) = let e = shared_fetches s.mode shared in omega arith
stored_stays head stage event t (rows.Asked_again h w outcome unmet early first fetched few) =
    let a : one (not (wants_stored w.mode)) ≡ 1 = ap (λ b. one (not b)) (same_cached w.mode ∙ fetched) in omega arith
stored_stays head stage event t row = omega arith

-- what the node may answer and is to be answered from the store alone is not passed on
asks_pass : (o : Bool) (mode : Mode) → one (not (wants_stored (beside o mode))) ≤ 4 * one (not (wants_stored mode))
asks_pass o Cached = omega arith
asks_pass true Shared = omega arith
asks_pass false Shared = omega arith
asks_pass o Private = omega arith

pub passed_stays : (head : RequestHead) (stage : Stage) (event : Event) (t : Turn) → Row head stage event t → count_by is_pass_on t.commands + may_pass t.life.stage ≤ 4 * (may_pass stage + one (not (is_for_store_alone event)))
passed_stays head stage event t (rows.Unawaited h s e idle) = omega arith
passed_stays head stage event t (rows.Routes old new nodeless has known) =
    let a : one (not (may_be_answered new new.method)) ≡ 1 = ap (λ b. one (not b)) (same_node new new.method ∙ nodeless) in omega arith
passed_stays head stage event t (rows.Found_long h lookup round mode first is get long fetched) =
    let a : one (not (stays_with_store lookup.choice)) ≡ one (not (wants_stored mode)) = ap (λ c. one (not (stays_with_store c))) is in
    let b : one (not (wants_stored mode)) ≡ 1 = ap (λ b. one (not b)) (same_cached mode ∙ fetched) in omega arith
passed_stays head stage event t (rows.Found_head h lookup round status first is unstored asks has) =
    let a : one (not (stays_with_store lookup.choice)) ≡ one (not (not (status == 501))) = ap (λ c. one (not (stays_with_store c))) is in
    let b : one (not (not (status == 501))) ≡ 1 = ap (λ b. one (not (not b))) unstored in omega arith
passed_stays head stage event t (rows.Found_asks h lookup round mode is none fields) =
    let a : one (not (stays_with_store lookup.choice)) ≡ one (not (wants_stored mode)) = ap (λ c. one (not (stays_with_store c))) is in
    let b = asks_pass lookup.is_overtaken mode in omega arith
passed_stays head stage event t (rows.Found_part h lookup round is unstored third none few) =
    let a : one (not (stays_with_store lookup.choice)) ≡ 1 = ap (λ c. one (not (stays_with_store c))) is in omega arith
passed_stays head stage event t (rows.Taken_apart h a s shared first joined apart few) = let e = shared_fetches s.mode shared in omega arith
passed_stays head stage event t (rows.Asked_again h w outcome unmet early first fetched few) =
    let a : one (not (wants_stored w.mode)) ≡ 1 = ap (λ b. one (not b)) (same_cached w.mode ∙ fetched) in omega arith
passed_stays head stage event t (rows.Failed_long h w f fetched lost long) =
    let a : one (not (wants_stored w.mode)) ≡ 1 = ap (λ b. one (not b)) (same_cached w.mode ∙ fetched) in omega arith
passed_stays head stage event t row = omega arith

counts_nothing : (x : Bool) → 0 + cond {A = ℕ} (x && false) 1 0 ≡ 0
counts_nothing true = refl
counts_nothing false = refl

-- where there is content that was not read, the connection ends
upload_closes : (u l : Bool) → 0 + cond {A = ℕ} (u && (not (l || u) && true)) 1 0 ≡ 0
upload_closes true true = refl
upload_closes true false = refl
upload_closes false l = refl

pub closes : (head : RequestHead) (stage : Stage) (event : Event) (t : Turn) → Row head stage event t → count_by (λ c. must_close head stage event && goes_on c) t.commands ≡ 0
closes head stage event t (rows.Unawaited h s e idle) = refl
closes head stage event t (rows.Opened h) = counts_nothing (not h.is_last)
closes head stage event t (rows.Routed_not_http h p why) = upload_closes h.has_upload h.is_last
closes head stage event t (rows.Routed_too_long h p why) = upload_closes h.has_upload h.is_last
closes head stage event t (rows.Routed_no_memory h p why) = upload_closes h.has_upload h.is_last
closes head stage event t (rows.Routed_came_back h p why) = upload_closes h.has_upload h.is_last
closes head stage event t (rows.Routed_barred h p why) = upload_closes h.has_upload h.is_last
closes head stage event t (rows.Routed_last h p why) = upload_closes h.has_upload h.is_last
closes head stage event t (rows.Routed_many_options h p why) = upload_closes h.has_upload h.is_last
closes head stage event t (rows.Routed_no_room h p why) = upload_closes h.has_upload h.is_last
closes head stage event t (rows.Routed_on h p none) = counts_nothing h.has_upload
closes head stage event t (rows.Left_routing h) = counts_nothing h.has_upload
closes head stage event t (rows.Passed_changed h contents.Coming p dangerous says) = refl
closes head stage event t (rows.Passed_changed h contents.Read p dangerous says) = refl
closes head stage event t (rows.Passed_changed h contents.Sent p dangerous says) = refl
closes head stage event t (rows.Passed_open h contents.Coming p dangerous says) = refl
closes head stage event t (rows.Passed_open h contents.Read p dangerous says) = refl
closes head stage event t (rows.Passed_open h contents.Sent p dangerous says) = refl
closes head stage event t (rows.Passed_safe h contents.Coming p safe) = refl
closes head stage event t (rows.Passed_safe h contents.Read p safe) = refl
closes head stage event t (rows.Passed_safe h contents.Sent p safe) = refl
closes head stage event t (rows.Passed_unchanged h contents.Coming p says unclear) = refl
closes head stage event t (rows.Passed_unchanged h contents.Read p says unclear) = refl
closes head stage event t (rows.Passed_unchanged h contents.Sent p says unclear) = refl
closes head stage event t (rows.Passed_refused h contents.Coming) = refl
closes head stage event t (rows.Passed_refused h contents.Read) = refl
closes head stage event t (rows.Passed_refused h contents.Sent) = refl
closes head stage event t (rows.Unanswered_unsafe h contents.Coming how unknown dangerous) = refl
closes head stage event t (rows.Unanswered_unsafe h contents.Read how unknown dangerous) = refl
closes head stage event t (rows.Unanswered_unsafe h contents.Sent how unknown dangerous) = refl
closes head stage event t (rows.Unanswered_safe h contents.Coming how unknown safe) = refl
closes head stage event t (rows.Unanswered_safe h contents.Read how unknown safe) = refl
closes head stage event t (rows.Unanswered_safe h contents.Sent how unknown safe) = refl
closes head stage event t (rows.Left_passing_unsafe h contents.Coming dangerous) = refl
closes head stage event t (rows.Left_passing_unsafe h contents.Read dangerous) = refl
closes head stage event t (rows.Left_passing_unsafe h contents.Sent dangerous) = refl
closes head stage event t (rows.Left_passing_safe h contents.Coming safe) = refl
closes head stage event t (rows.Left_passing_safe h contents.Read safe) = refl
closes head stage event t (rows.Left_passing_safe h contents.Sent safe) = refl
closes head stage event t (rows.Sent_whole h contents.Coming unsent) = refl
closes head stage event t (rows.Sent_whole h contents.Read unsent) = refl
closes head stage event t (rows.Sent_whole h contents.Sent unsent) = refl
closes head stage event t row = refl

last_only : (l : Bool) → 0 + cond {A = ℕ} (l && not (false || l)) 1 0 ≡ 0
last_only true = refl
last_only false = refl

upload_ends : (u l : Bool) → 0 + cond {A = ℕ} ((l || u) && not (u || l)) 1 0 ≡ 0
upload_ends true true = refl
upload_ends true false = refl
upload_ends false true = refl
upload_ends false false = refl

-- no other answer ends the connection
pub ends_only : (head : RequestHead) (stage : Stage) (event : Event) (t : Turn) → Row head stage event t → count_by (λ c. ends_connection_by c && not (must_close head stage event || head.is_last)) t.commands ≡ 0
ends_only head stage event t (rows.Unawaited h s e idle) = refl
ends_only head stage event t (rows.Opened h) = counts_nothing h.is_last
ends_only head stage event t (rows.Found_not_http h lookup round why) = last_only h.is_last
ends_only head stage event t (rows.Found_too_long h lookup round why) = last_only h.is_last
ends_only head stage event t (rows.Found_no_memory h lookup round why) = last_only h.is_last
ends_only head stage event t (rows.Found_came_back h lookup round why) = last_only h.is_last
ends_only head stage event t (rows.Found_barred h lookup round why) = last_only h.is_last
ends_only head stage event t (rows.Found_refused h lookup round status is fresh) = last_only h.is_last
ends_only head stage event t (rows.Found_many_options h lookup round mode is alone many) = last_only h.is_last
ends_only head stage event t (rows.Found_stale h lookup round status is stale none) = last_only h.is_last
ends_only head stage event t (rows.Taken_stale h a s takes stale) = last_only h.is_last
ends_only head stage event t (rows.Taken_many_options h a s shared first joined apart many) = last_only h.is_last
ends_only head stage event t (rows.Declined_stale h has_one s takes stale) = last_only h.is_last
ends_only head stage event t (rows.Declined_own h has_one s none) = last_only h.is_last
ends_only head stage event t (rows.Hit_given h w hit met) = last_only h.is_last
ends_only head stage event t (rows.Fetched_given h w f own) = last_only h.is_last
ends_only head stage event t (rows.Again_refused h w outcome unmet early second) = last_only h.is_last
ends_only head stage event t (rows.Again_uncached h w outcome unmet early first cached) = last_only h.is_last
ends_only head stage event t (rows.Again_many_options h w outcome unmet early first fetched many) = last_only h.is_last
ends_only head stage event t (rows.Failed_own h w f known) = last_only h.is_last
ends_only head stage event t (rows.Unwanted_again h w late) = last_only h.is_last
ends_only head stage event t (rows.Lost h w first) = last_only h.is_last
ends_only head stage event t (rows.Lost_anew h w late) = last_only h.is_last
ends_only head stage event t (rows.Early_given h w begun) = last_only h.is_last
ends_only head stage event t (rows.Early_refused h w other) = last_only h.is_last
ends_only head stage event t (rows.Routed_not_http h p why) = upload_ends h.has_upload h.is_last
ends_only head stage event t (rows.Routed_too_long h p why) = upload_ends h.has_upload h.is_last
ends_only head stage event t (rows.Routed_no_memory h p why) = upload_ends h.has_upload h.is_last
ends_only head stage event t (rows.Routed_came_back h p why) = upload_ends h.has_upload h.is_last
ends_only head stage event t (rows.Routed_barred h p why) = upload_ends h.has_upload h.is_last
ends_only head stage event t (rows.Routed_last h p why) = upload_ends h.has_upload h.is_last
ends_only head stage event t (rows.Routed_many_options h p why) = upload_ends h.has_upload h.is_last
ends_only head stage event t (rows.Routed_no_room h p why) = upload_ends h.has_upload h.is_last
ends_only head stage event t (rows.Passed_changed h contents.Coming p dangerous says) = refl
ends_only head stage event t (rows.Passed_changed h contents.Read p dangerous says) = last_only h.is_last
ends_only head stage event t (rows.Passed_changed h contents.Sent p dangerous says) = last_only h.is_last
ends_only head stage event t (rows.Passed_open h contents.Coming p dangerous says) = refl
ends_only head stage event t (rows.Passed_open h contents.Read p dangerous says) = last_only h.is_last
ends_only head stage event t (rows.Passed_open h contents.Sent p dangerous says) = last_only h.is_last
ends_only head stage event t (rows.Passed_safe h contents.Coming p safe) = refl
ends_only head stage event t (rows.Passed_safe h contents.Read p safe) = last_only h.is_last
ends_only head stage event t (rows.Passed_safe h contents.Sent p safe) = last_only h.is_last
ends_only head stage event t (rows.Passed_unchanged h contents.Coming p says unclear) = refl
ends_only head stage event t (rows.Passed_unchanged h contents.Read p says unclear) = last_only h.is_last
ends_only head stage event t (rows.Passed_unchanged h contents.Sent p says unclear) = last_only h.is_last
ends_only head stage event t (rows.Passed_refused h contents.Coming) = refl
ends_only head stage event t (rows.Passed_refused h contents.Read) = last_only h.is_last
ends_only head stage event t (rows.Passed_refused h contents.Sent) = last_only h.is_last
ends_only head stage event t (rows.Unanswered_unsafe h contents.Coming how unknown dangerous) = refl
ends_only head stage event t (rows.Unanswered_unsafe h contents.Read how unknown dangerous) = last_only h.is_last
ends_only head stage event t (rows.Unanswered_unsafe h contents.Sent how unknown dangerous) = last_only h.is_last
ends_only head stage event t (rows.Unanswered_safe h contents.Coming how unknown safe) = refl
ends_only head stage event t (rows.Unanswered_safe h contents.Read how unknown safe) = last_only h.is_last
ends_only head stage event t (rows.Unanswered_safe h contents.Sent how unknown safe) = last_only h.is_last
ends_only head stage event t row = refl

private_fields : (p m : Bool) → (p && m) ≡ false → cond {A = ℕ} p 1 0 ≤ one (not m)
private_fields true m e = let a : one (not m) ≡ 1 = ap (λ b. one (not b)) e in omega arith
private_fields false m e = omega arith

same_private : (mode : Mode) → wants_own mode ≡ is_private mode
same_private Shared = refl
same_private Cached = refl
same_private Private = refl

-- none is submitted alone whose fields can't be sent on
pub options_stay : (head : RequestHead) (stage : Stage) (event : Event) (t : Turn) → Row head stage event t → count_by is_submit_alone t.commands + sends_fields t.life.head t.life.stage ≤ 4 * (sends_fields head stage + one (not (has_unsendable event)))
options_stay head stage event t (rows.Unawaited h s e idle) = omega arith
options_stay head stage event t (rows.Found_asks h lookup round mode is none fields) =
    let a : (wants_own (beside lookup.is_overtaken mode) && h.has_many_options) ≡ false = ap (λ b. b && h.has_many_options) (same_private (beside lookup.is_overtaken mode)) ∙ fields in
    let b = private_fields (wants_own (beside lookup.is_overtaken mode)) h.has_many_options a in omega arith
options_stay head stage event t (rows.Found_part h lookup round is unstored third none few) =
    let a : one (not h.has_many_options) ≡ 1 = ap (λ b. one (not b)) few in omega arith
options_stay head stage event t (rows.Taken_apart h a s shared first joined apart few) =
    let b : one (not h.has_many_options) ≡ 1 = ap (λ b. one (not b)) few in omega arith
options_stay head stage event t (rows.Asked_again h w outcome unmet early first fetched few) =
    let a : one (not h.has_many_options) ≡ 1 = ap (λ b. one (not b)) few in omega arith
options_stay head stage event t row = omega arith

pub early_cause : (head : RequestHead) (stage : Stage) (event : Event) (t : Turn) → Row head stage event t → 0 < count_by (answers_so is_early_one) t.commands → is_beginner stage ≡ true
early_cause head stage event t (rows.Early_given h w begun) some = begun
early_cause head stage event t (rows.Passed_changed h content p dangerous says) some = absurd (omega (arith, passes_no_early p))
early_cause head stage event t (rows.Passed_open h content p dangerous says) some = absurd (omega (arith, passes_no_early p))
early_cause head stage event t (rows.Passed_safe h content p safe) some = absurd (omega (arith, passes_no_early p))
early_cause head stage event t (rows.Passed_unchanged h content p says unclear) some = absurd (omega (arith, passes_no_early p))
early_cause head stage event t row some = absurd (omega arith)

-- a stage agrees with what was said
abbrev pub Agrees : Option Bool → Stage → Type 0
Agrees said (stages.Waiting w) = said ≡ Some (has_joined w.share)
Agrees said stage = Unit {0}

all_three : (a b c : Bool) → a ≡ true → b ≡ false → c ≡ false → (a && (not b && not c)) ≡ true
all_three true false false e g h = refl
all_three a b c e g h = absurd (cc)

-- what is only for another is not given
pub others_stays : (head : RequestHead) (stage : Stage) (event : Event) (t : Turn) (f : Fetched) → Row head stage event t → event ≡ events.Answered (outcomes.Fetched f) → Agrees (Some true) stage → f.is_kept ≡ false → f.is_stale ≡ false → count_by (answers_so is_fetched) t.commands ≡ 0
others_stays head stage event t f (rows.Unawaited h s e idle) is agrees unkept fresh = refl
others_stays head stage event t f (rows.Fetched_given h w g own) is agrees unkept fresh =
    let a : g ≡ f = cc in
    let b : has_joined w.share ≡ true = cc in
    let c : is_for_another w.share g ≡ true = all_three (has_joined w.share) g.is_kept g.is_stale b (cc) (cc) in
    absurd (cc)
others_stays head stage event t f (rows.Passed_changed h content p dangerous says) is agrees unkept fresh = absurd (cc)
others_stays head stage event t f (rows.Passed_open h content p dangerous says) is agrees unkept fresh = absurd (cc)
others_stays head stage event t f (rows.Passed_safe h content p safe) is agrees unkept fresh = absurd (cc)
others_stays head stage event t f (rows.Passed_unchanged h content p says unclear) is agrees unkept fresh = absurd (cc)
others_stays head stage event t f row is agrees unkept fresh = refl

keeps_idle : (said : Option Bool) (stage : Stage) (event : Event) → awaits stage event ≡ false → Agrees said stage → Agrees (heard said stage event) stage
keeps_idle said (stages.Waiting w) event idle agrees = agrees
keeps_idle said stage event idle agrees = tt

-- what the node says of whose fetch it is, is kept
share_is : (b : Bool) (mode : Mode) → Some b ≡ Some (has_joined (share_of b mode))
share_is true Shared = refl
share_is true Cached = refl
share_is true Private = refl
share_is false Shared = refl
share_is false Cached = refl
share_is false Private = refl

pub keeps_agreed : (head : RequestHead) (stage : Stage) (event : Event) (t : Turn) (said : Option Bool) → Row head stage event t → Agrees said stage → Agrees (heard said stage event) t.life.stage
keeps_agreed head stage event t said (rows.Unawaited h s e idle) agrees = keeps_idle said s e idle agrees
keeps_agreed head stage event t said (rows.Taken_streamed h a s takes joined streams) agrees = share_is a.has_joined s.mode
keeps_agreed head stage event t said (rows.Taken_waits h a s) agrees = share_is a.has_joined s.mode
keeps_agreed head stage event t said row agrees = tt
