-- What holds of each row: why something is asked for, given or taken out, and what stays as it was.
use Rattle.std.proofs.Common.{◌≡◌, ◌==◌, ℕ, ◌+◌, ◌<◌, Bool, true, false, not, ◌&&◌, ◌||◌, nat_lt, cond, arith, count_by, refl, sym, ◌∙◌, ap}
use Rattle.node_terms.specs.declared.mode.Mode.{Mode}
use Rattle.node_terms.specs.declared.mode.Mode.TheVariants.{Shared, Cached, Private}
use Rattle.request_life.specs.declared.facts.RequestHead.{RequestHead}
use Rattle.request_life.specs.declared.commands.Answer.{Answer}
use Rattle.request_life.specs.declared.commands.Answer.TheVariants as answers
use Rattle.request_life.specs.declared.events.Event.{Event}
use Rattle.request_life.specs.declared.events.Event.TheVariants as events
use Rattle.request_life.specs.declared.events.PassedHead.{PassedHead}
use Rattle.request_life.specs.declared.events.PassedEnd.{PassedEnd}
use Rattle.request_life.specs.declared.events.PassedEnd.TheVariants as passages
use Rattle.request_life.specs.declared.stages.Content.TheVariants as contents
use Rattle.request_life.specs.declared.stages.Stage.{Stage}
use Rattle.request_life.specs.declared.stages.Stage.TheVariants as stages
use Rattle.request_life.specs.Table.{Turn, answer_of, beside, is_shared}
use Rattle.request_life.specs.Rows.{Row, awaits, silence}
use Rattle.request_life.specs.Rows as rows
use Rattle.request_life.specs.Laws.{is_late, is_unserved, one, asks_own, asks_shared, asks_stored, answers_so, came_back, ends_itself, goes_on, has_answered, is_asked, is_awaited, is_cancel, is_fetch_for_all, is_for_part, is_forbidden, is_large, is_long_one, is_long_target, is_open, goes_out, is_own, is_own_success, is_question, is_receiving, is_stale, is_stream, is_submit_so, is_submitted, lets_join, lets_use_stored, may_stream, refuses_so, takes_by_answer, tells_so, wants_shared, wants_stored}
use Rattle.request_life.proofs.Walk.{both}
use Rattle.request_life.proofs.Steps.{no_answer_so, same_awaited, same_said}

-- a request stays what was received
pub request_stays : (head : RequestHead) (stage : Stage) (event : Event) (t : Turn) → Row head stage event t → is_receiving stage ≡ false → t.life.head ≡ head
request_stays head stage event t (rows.Too_long old new node long) there = absurd (cc)
request_stays head stage event t (rows.Too_long_for_tunnel old new tunnel long) there = absurd (cc)
request_stays head stage event t (rows.Foreign_coding old new node tunnel foreign) there = absurd (cc)
request_stays head stage event t (rows.Unknown_method old new node tunnel unknown) there = absurd (cc)
request_stays head stage event t (rows.Collects old new node has) there = absurd (cc)
request_stays head stage event t (rows.Looks_up old new node none) there = absurd (cc)
request_stays head stage event t (rows.Aims old new tunnel) there = absurd (cc)
request_stays head stage event t (rows.Routes old new node has known) there = absurd (cc)
request_stays head stage event t row there = refl

-- what is asked is awaited
and_no : (a b : Bool) → b ≡ false → one (a && b) ≡ 0
and_no true b e = ap one e
and_no false b e = refl

pub asks_balance : (head : RequestHead) (stage : Stage) (event : Event) (t : Turn) → Row head stage event t → count_by is_question t.commands + one (is_asked stage) ≡ one (is_asked stage && is_awaited stage event) + one (is_asked t.life.stage)
asks_balance head stage event t (rows.Unawaited h s e idle) = let a = and_no (is_asked s) (is_awaited s e) (same_awaited e s ∙ idle) in omega arith
asks_balance head stage event t row = refl

-- what is opened ends
ends_awaited : (stage : Stage) (event : Event) → awaits stage event ≡ false → ends_itself stage event ≡ false
ends_awaited (stages.Passing content) (events.Passed how) idle = absurd (cc)
ends_awaited (stages.Passing content) event idle = refl
ends_awaited stages.Opening (events.Tunnelled how) idle = absurd (cc)
ends_awaited stages.Opening event idle = refl
ends_awaited stage event idle = refl

pub opens_balance : (head : RequestHead) (stage : Stage) (event : Event) (t : Turn) → Row head stage event t → count_by goes_out t.commands + one (is_open stage) ≡ count_by is_cancel t.commands + one (ends_itself stage event) + one (is_open t.life.stage)
opens_balance head stage event t (rows.Unawaited h s e idle) = let a : one (ends_itself s e) ≡ 0 = ap one (ends_awaited s e idle) in omega arith
opens_balance head stage event t row = refl

-- why a fetch is joined, and why the store alone is asked
joins_so : (o : Bool) (mode : Mode) → 0 < 0 + cond {A = ℕ} (wants_shared (beside o mode)) 1 0 → (wants_shared mode && not o) ≡ true
joins_so false Shared some = refl
joins_so true Shared some = absurd (omega arith)
joins_so o Cached some = absurd (omega arith)
joins_so o Private some = absurd (omega arith)

pub shared_cause : (head : RequestHead) (stage : Stage) (event : Event) (t : Turn) → Row head stage event t → 0 < count_by (is_submit_so wants_shared) t.commands → lets_join event ≡ true
shared_cause head stage event t (rows.Found_asks h lookup round mode is none fields) some =
    ap (λ c. asks_shared c && not lookup.is_overtaken) is ∙ joins_so lookup.is_overtaken mode some
shared_cause head stage event t row some = absurd (omega arith)

stores_so : (o : Bool) (mode : Mode) → 0 < 0 + cond {A = ℕ} (wants_stored (beside o mode)) 1 0 → wants_stored mode ≡ true
stores_so false Shared some = absurd (omega arith)
stores_so true Shared some = absurd (omega arith)
stores_so o Cached some = refl
stores_so o Private some = absurd (omega arith)

pub stored_cause : (head : RequestHead) (stage : Stage) (event : Event) (t : Turn) → Row head stage event t → 0 < count_by (is_submit_so wants_stored) t.commands → lets_use_stored event ≡ true
stored_cause head stage event t (rows.Found_asks h lookup round mode is none fields) some =
    ap asks_stored is ∙ stores_so lookup.is_overtaken mode some
stored_cause head stage event t row some = absurd (omega arith)

-- why the whole is fetched for all
third_so : (a s p : Bool) → a ≡ true → s ≡ false → p ≡ true → (a && (not s && p)) ≡ true
third_so true false true e g h = refl
third_so a s p e g h = absurd (cc)

pub whole_cause : (head : RequestHead) (stage : Stage) (event : Event) (t : Turn) → Row head stage event t → 0 < count_by is_fetch_for_all t.commands → is_for_part event ≡ true
whole_cause head stage event t (rows.Found_part h lookup round is unstored third none few) some =
    third_so (asks_own lookup.choice) lookup.is_stored lookup.is_third_part (ap asks_own is) unstored third
whole_cause head stage event t row some = absurd (omega arith)

-- why an answer is given while it is collected
streams_so : (j s m : Bool) → j ≡ false → s ≡ true → not m ≡ true → (not j && (s && not m)) ≡ true
streams_so false true m e g h = h
streams_so j s m e g h = absurd (cc)

pub stream_cause : (head : RequestHead) (stage : Stage) (event : Event) (t : Turn) → Row head stage event t → 0 < count_by is_stream t.commands → may_stream head event ≡ true
stream_cause head stage event t (rows.Taken_streamed h a s takes joined streams) some =
    streams_so a.has_joined h.is_streamed h.has_loop_marks joined streams (both (is_shared s.mode) (not h.has_loop_marks) takes).1
stream_cause head stage event t row some = absurd (omega arith)

-- who counts on an answer that has come by its origin is given nothing stale in place of a fetch
unmarked : (m : Bool) → not m ≡ true → m ≡ true → true ≡ false
unmarked true e g = sym e
unmarked false e g = sym g

pub marked_stays : (head : RequestHead) (stage : Stage) (event : Event) (t : Turn) → Row head stage event t → is_submitted stage ≡ true → head.has_loop_marks ≡ true → count_by (answers_so is_stale) t.commands ≡ 0
marked_stays head stage event t (rows.Taken_stale h a s takes stale) there marked =
    let e = unmarked h.has_loop_marks (both (is_shared s.mode) (not h.has_loop_marks) takes).1 marked in absurd (cc)
marked_stays head stage event t (rows.Declined_stale h has_one s takes stale) there marked =
    let e = unmarked h.has_loop_marks (both (is_shared s.mode) (not h.has_loop_marks) takes).1 marked in absurd (cc)
marked_stays head stage event t (rows.Found_stale h lookup round status is stale none) there marked = absurd (cc)
marked_stays head stage event t (rows.Passed_changed h content p dangerous says) there marked = absurd (cc)
marked_stays head stage event t (rows.Passed_open h content p dangerous unclear) there marked = absurd (cc)
marked_stays head stage event t (rows.Passed_safe h content p safe) there marked = absurd (cc)
marked_stays head stage event t (rows.Passed_unchanged h content p says unclear) there marked = absurd (cc)
marked_stays head stage event t row there marked = refl

-- why something is taken out that an answer says
pub by_answer_cause : (head : RequestHead) (stage : Stage) (event : Event) (t : Turn) → Row head stage event t → 0 < count_by takes_by_answer t.commands → has_answered event ≡ true
by_answer_cause head stage event t (rows.Passed_changed h content p dangerous says) some = says
by_answer_cause head stage event t (rows.Parted_changed h upload p says) some = same_said upload p.status ∙ says
by_answer_cause head stage event t (rows.Breaking_changed h p says) some = says
by_answer_cause head stage event t (rows.Broken_off_changed h p says) some = says
by_answer_cause head stage event t row some = absurd (omega arith)

-- the connection ends where its client has asked for that
never_on : (l x : Bool) → 0 + cond {A = ℕ} ((not l && x) && l) 1 0 ≡ 0
never_on true x = refl
never_on false true = refl
never_on false false = refl

never_behind : (l u : Bool) → 0 + cond {A = ℕ} ((not (l || u) && true) && l) 1 0 ≡ 0
never_behind true u = refl
never_behind false true = refl
never_behind false false = refl

pub last_ends : (head : RequestHead) (stage : Stage) (event : Event) (t : Turn) → Row head stage event t → count_by (λ c. goes_on c && head.is_last) t.commands ≡ 0
last_ends head stage event t (rows.Opened h) = never_on h.is_last false
last_ends head stage event t (rows.Found_not_http h lookup round why) = never_on h.is_last true
last_ends head stage event t (rows.Found_too_long h lookup round why) = never_on h.is_last true
last_ends head stage event t (rows.Found_no_memory h lookup round why) = never_on h.is_last true
last_ends head stage event t (rows.Found_came_back h lookup round why) = never_on h.is_last true
last_ends head stage event t (rows.Found_barred h lookup round why) = never_on h.is_last true
last_ends head stage event t (rows.Found_refused h lookup round status is fresh) = never_on h.is_last true
last_ends head stage event t (rows.Found_many_options h lookup round mode is alone many) = never_on h.is_last true
last_ends head stage event t (rows.Found_stale h lookup round status is stale none) = never_on h.is_last true
last_ends head stage event t (rows.Taken_stale h a s takes stale) = never_on h.is_last true
last_ends head stage event t (rows.Taken_many_options h a s shared first joined apart many) = never_on h.is_last true
last_ends head stage event t (rows.Declined_stale h has_one s takes stale) = never_on h.is_last true
last_ends head stage event t (rows.Declined_own h has_one s none) = never_on h.is_last true
last_ends head stage event t (rows.Hit_given h w hit met) = never_on h.is_last true
last_ends head stage event t (rows.Fetched_given h w f own) = never_on h.is_last true
last_ends head stage event t (rows.Again_refused h w outcome unmet early second) = never_on h.is_last true
last_ends head stage event t (rows.Again_uncached h w outcome unmet early first cached) = never_on h.is_last true
last_ends head stage event t (rows.Again_many_options h w outcome unmet early first fetched many) = never_on h.is_last true
last_ends head stage event t (rows.Failed_own h w f known) = never_on h.is_last true
last_ends head stage event t (rows.Unwanted_again h w late) = never_on h.is_last true
last_ends head stage event t (rows.Lost h w first) = never_on h.is_last true
last_ends head stage event t (rows.Lost_anew h w late) = never_on h.is_last true
last_ends head stage event t (rows.Early_given h w begun) = never_on h.is_last true
last_ends head stage event t (rows.Early_refused h w other) = never_on h.is_last true
last_ends head stage event t (rows.Routed_not_http h p why) = never_behind h.is_last h.has_upload
last_ends head stage event t (rows.Routed_too_long h p why) = never_behind h.is_last h.has_upload
last_ends head stage event t (rows.Routed_no_memory h p why) = never_behind h.is_last h.has_upload
last_ends head stage event t (rows.Routed_came_back h p why) = never_behind h.is_last h.has_upload
last_ends head stage event t (rows.Routed_barred h p why) = never_behind h.is_last h.has_upload
last_ends head stage event t (rows.Routed_last h p why) = never_behind h.is_last h.has_upload
last_ends head stage event t (rows.Routed_many_options h p why) = never_behind h.is_last h.has_upload
last_ends head stage event t (rows.Routed_no_room h p why) = never_behind h.is_last h.has_upload
last_ends head stage event t (rows.Passed_changed h contents.Coming p dangerous says) = refl
last_ends head stage event t (rows.Passed_changed h contents.Read p dangerous says) = never_on h.is_last _
last_ends head stage event t (rows.Passed_changed h contents.Sent p dangerous says) = never_on h.is_last _
last_ends head stage event t (rows.Passed_open h contents.Coming p dangerous says) = refl
last_ends head stage event t (rows.Passed_open h contents.Read p dangerous says) = never_on h.is_last _
last_ends head stage event t (rows.Passed_open h contents.Sent p dangerous says) = never_on h.is_last _
last_ends head stage event t (rows.Passed_safe h contents.Coming p safe) = refl
last_ends head stage event t (rows.Passed_safe h contents.Read p safe) = never_on h.is_last _
last_ends head stage event t (rows.Passed_safe h contents.Sent p safe) = never_on h.is_last _
last_ends head stage event t (rows.Passed_unchanged h contents.Coming p says unclear) = refl
last_ends head stage event t (rows.Passed_unchanged h contents.Read p says unclear) = never_on h.is_last _
last_ends head stage event t (rows.Passed_unchanged h contents.Sent p says unclear) = never_on h.is_last _
last_ends head stage event t (rows.Passed_refused h contents.Coming) = refl
last_ends head stage event t (rows.Passed_refused h contents.Read) = never_on h.is_last true
last_ends head stage event t (rows.Passed_refused h contents.Sent) = never_on h.is_last true
last_ends head stage event t (rows.Unanswered_unsafe h contents.Coming how unknown dangerous) = refl
last_ends head stage event t (rows.Unanswered_unsafe h contents.Read how unknown dangerous) = never_on h.is_last true
last_ends head stage event t (rows.Unanswered_unsafe h contents.Sent how unknown dangerous) = never_on h.is_last true
last_ends head stage event t (rows.Unanswered_safe h contents.Coming how unknown safe) = refl
last_ends head stage event t (rows.Unanswered_safe h contents.Read how unknown safe) = never_on h.is_last true
last_ends head stage event t (rows.Unanswered_safe h contents.Sent how unknown safe) = never_on h.is_last true
last_ends head stage event t row = refl

-- what a status of the proxy's own says
by_test : (b : Bool) → 0 < 0 + cond {A = ℕ} b 1 0 → b ≡ true
by_test true some = refl
by_test false some = absurd (omega arith)

or_left : (a b : Bool) → a ≡ true → (a || b) ≡ true
or_left true b e = refl
or_left false b e = absurd (cc)

or_right : (a b : Bool) → b ≡ true → (a || b) ≡ true
or_right true b e = refl
or_right false b e = e

-- what is answered for want of an answer, or in place of one, is none of these
silent_not : (is : Answer → Bool) → is (answers.Own 502) ≡ false → is (answers.Own 504) ≡ false → (how : PassedEnd) → cond {A = ℕ} (is (answers.Own (silence how))) 1 0 ≡ 0
silent_not is two four passages.TimedOut = ap (λ b. cond {A = ℕ} b 1 0) four
silent_not is two four passages.Failed = ap (λ b. cond {A = ℕ} b 1 0) two
silent_not is two four passages.Refused = ap (λ b. cond {A = ℕ} b 1 0) two
silent_not is two four (passages.Head p) = ap (λ b. cond {A = ℕ} b 1 0) two

passes_not : (is : Answer → Bool) (p : PassedHead) → is (answers.Own 502) ≡ false → is answers.Passed ≡ false → cond {A = ℕ} (is (answer_of p)) 1 0 ≡ 0
passes_not is p two passed = ap (λ b. cond {A = ℕ} b 1 0) (no_answer_so is p.has_many_options two passed)

pub back_cause : (head : RequestHead) (stage : Stage) (event : Event) (t : Turn) → Row head stage event t → 0 < count_by (answers_so (is_own 508)) t.commands → (tells_so (λ status. status == 508) event || came_back event) ≡ true
back_cause head stage event t (rows.Found_came_back h lookup round back) some = or_right _ lookup.has_come_back back
back_cause head stage event t (rows.Routed_came_back h p back) some = back
back_cause head stage event t (rows.Aimed_came_back h target back) some = back
back_cause head stage event t (rows.Found_refused h lookup round status is fresh) some =
    or_left _ _ (ap (refuses_so (λ status. status == 508)) is ∙ by_test _ some)
back_cause head stage event t (rows.Failed_own h w f known) some = or_left _ _ (by_test _ some)
back_cause head stage event t (rows.Tunnel_refused h status) some = or_left _ _ (by_test _ some)
back_cause head stage event t (rows.Unanswered_unsafe h content how unknown dangerous) some = absurd (omega (arith, silent_not (is_own 508) refl refl how))
back_cause head stage event t (rows.Unanswered_safe h content how unknown safe) some = absurd (omega (arith, silent_not (is_own 508) refl refl how))
back_cause head stage event t (rows.Passed_changed h content p dangerous says) some = absurd (omega (arith, passes_not (is_own 508) p refl refl))
back_cause head stage event t (rows.Passed_open h content p dangerous unclear) some = absurd (omega (arith, passes_not (is_own 508) p refl refl))
back_cause head stage event t (rows.Passed_safe h content p safe) some = absurd (omega (arith, passes_not (is_own 508) p refl refl))
back_cause head stage event t (rows.Passed_unchanged h content p says unclear) some = absurd (omega (arith, passes_not (is_own 508) p refl refl))
back_cause head stage event t row some = absurd (omega arith)

pub forbidden_cause : (head : RequestHead) (stage : Stage) (event : Event) (t : Turn) → Row head stage event t → 0 < count_by (answers_so (is_own 403)) t.commands → (tells_so (λ status. status == 403) event || is_forbidden event) ≡ true
forbidden_cause head stage event t (rows.Found_barred h lookup round barred) some = or_right _ lookup.is_barred barred
forbidden_cause head stage event t (rows.Routed_barred h p barred) some = barred
forbidden_cause head stage event t (rows.Aimed_barred h target barred) some = or_left target.is_barred _ barred
forbidden_cause head stage event t (rows.Aimed_at_port h target port) some = or_right target.is_barred (not target.is_port_allowed) (ap not port)
forbidden_cause head stage event t (rows.Passed_refused h content) some = refl
forbidden_cause head stage event t (rows.Found_refused h lookup round status is fresh) some =
    or_left _ _ (ap (refuses_so (λ status. status == 403)) is ∙ by_test _ some)
forbidden_cause head stage event t (rows.Failed_own h w f known) some = or_left _ _ (by_test _ some)
forbidden_cause head stage event t (rows.Tunnel_refused h status) some = or_left _ _ (by_test _ some)
forbidden_cause head stage event t (rows.Unanswered_unsafe h content how unknown dangerous) some = absurd (omega (arith, silent_not (is_own 403) refl refl how))
forbidden_cause head stage event t (rows.Unanswered_safe h content how unknown safe) some = absurd (omega (arith, silent_not (is_own 403) refl refl how))
forbidden_cause head stage event t (rows.Passed_changed h content p dangerous says) some = absurd (omega (arith, passes_not (is_own 403) p refl refl))
forbidden_cause head stage event t (rows.Passed_open h content p dangerous unclear) some = absurd (omega (arith, passes_not (is_own 403) p refl refl))
forbidden_cause head stage event t (rows.Passed_safe h content p safe) some = absurd (omega (arith, passes_not (is_own 403) p refl refl))
forbidden_cause head stage event t (rows.Passed_unchanged h content p says unclear) some = absurd (omega (arith, passes_not (is_own 403) p refl refl))
forbidden_cause head stage event t row some = absurd (omega arith)

pub long_cause : (head : RequestHead) (stage : Stage) (event : Event) (t : Turn) → Row head stage event t → 0 < count_by (answers_so (is_own 414)) t.commands → (tells_so (λ status. status == 414) event || is_long_one event) ≡ true
long_cause head stage event t (rows.Found_too_long h lookup round long) some = or_right _ (is_long_target lookup.target) (ap is_long_target long)
long_cause head stage event t (rows.Routed_too_long h p long) some = ap is_long_target long
long_cause head stage event t (rows.Found_refused h lookup round status is fresh) some =
    or_left _ _ (ap (refuses_so (λ status. status == 414)) is ∙ by_test _ some)
long_cause head stage event t (rows.Failed_own h w f known) some = or_left _ _ (by_test _ some)
long_cause head stage event t (rows.Tunnel_refused h status) some = or_left _ _ (by_test _ some)
long_cause head stage event t (rows.Unanswered_unsafe h content how unknown dangerous) some = absurd (omega (arith, silent_not (is_own 414) refl refl how))
long_cause head stage event t (rows.Unanswered_safe h content how unknown safe) some = absurd (omega (arith, silent_not (is_own 414) refl refl how))
long_cause head stage event t (rows.Passed_changed h content p dangerous says) some = absurd (omega (arith, passes_not (is_own 414) p refl refl))
long_cause head stage event t (rows.Passed_open h content p dangerous unclear) some = absurd (omega (arith, passes_not (is_own 414) p refl refl))
long_cause head stage event t (rows.Passed_safe h content p safe) some = absurd (omega (arith, passes_not (is_own 414) p refl refl))
long_cause head stage event t (rows.Passed_unchanged h content p says unclear) some = absurd (omega (arith, passes_not (is_own 414) p refl refl))
long_cause head stage event t row some = absurd (omega arith)

pub large_cause : (head : RequestHead) (stage : Stage) (event : Event) (t : Turn) → Row head stage event t → 0 < count_by (answers_so (is_own 413)) t.commands → (tells_so (λ status. status == 413) event || is_large event) ≡ true
large_cause head stage event t (rows.Too_long old new node long) some = long
large_cause head stage event t (rows.Too_long_for_tunnel old new tunnel long) some = long
large_cause head stage event t (rows.Content_too_long h) some = refl
large_cause head stage event t (rows.Found_refused h lookup round status is fresh) some =
    or_left _ _ (ap (refuses_so (λ status. status == 413)) is ∙ by_test _ some)
large_cause head stage event t (rows.Failed_own h w f known) some = or_left _ _ (by_test _ some)
large_cause head stage event t (rows.Tunnel_refused h status) some = or_left _ _ (by_test _ some)
large_cause head stage event t (rows.Unanswered_unsafe h content how unknown dangerous) some = absurd (omega (arith, silent_not (is_own 413) refl refl how))
large_cause head stage event t (rows.Unanswered_safe h content how unknown safe) some = absurd (omega (arith, silent_not (is_own 413) refl refl how))
large_cause head stage event t (rows.Passed_changed h content p dangerous says) some = absurd (omega (arith, passes_not (is_own 413) p refl refl))
large_cause head stage event t (rows.Passed_open h content p dangerous unclear) some = absurd (omega (arith, passes_not (is_own 413) p refl refl))
large_cause head stage event t (rows.Passed_safe h content p safe) some = absurd (omega (arith, passes_not (is_own 413) p refl refl))
large_cause head stage event t (rows.Passed_unchanged h content p says unclear) some = absurd (omega (arith, passes_not (is_own 413) p refl refl))
large_cause head stage event t row some = absurd (omega arith)

pub error_cause : (head : RequestHead) (stage : Stage) (event : Event) (t : Turn) → Row head stage event t → 0 < count_by (answers_so (is_own_success)) t.commands → tells_so (λ status. nat_lt status 400) event ≡ true
error_cause head stage event t (rows.Found_refused h lookup round status is fresh) some =
    ap (refuses_so (λ status. nat_lt status 400)) is ∙ by_test _ some
error_cause head stage event t (rows.Failed_own h w f known) some = by_test _ some
error_cause head stage event t (rows.Tunnel_refused h status) some = by_test _ some
error_cause head stage event t (rows.Unanswered_unsafe h content how unknown dangerous) some = absurd (omega (arith, silent_not (is_own_success) refl refl how))
error_cause head stage event t (rows.Unanswered_safe h content how unknown safe) some = absurd (omega (arith, silent_not (is_own_success) refl refl how))
error_cause head stage event t (rows.Passed_changed h content p dangerous says) some = absurd (omega (arith, passes_not (is_own_success) p refl refl))
error_cause head stage event t (rows.Passed_open h content p dangerous unclear) some = absurd (omega (arith, passes_not (is_own_success) p refl refl))
error_cause head stage event t (rows.Passed_safe h content p safe) some = absurd (omega (arith, passes_not (is_own_success) p refl refl))
error_cause head stage event t (rows.Passed_unchanged h content p says unclear) some = absurd (omega (arith, passes_not (is_own_success) p refl refl))
error_cause head stage event t row some = absurd (omega arith)

late_so : (how : PassedEnd) → 0 < cond {A = ℕ} (silence how == 504) 1 0 → is_late (events.Passed how) ≡ true
late_so passages.TimedOut some = refl
late_so passages.Failed some = absurd (omega arith)
late_so passages.Refused some = absurd (omega arith)
late_so (passages.Head p) some = absurd (omega arith)

pub late_cause : (head : RequestHead) (stage : Stage) (event : Event) (t : Turn) → Row head stage event t → 0 < count_by (answers_so (is_own 504)) t.commands → (tells_so (λ status. status == 504) event || is_late event) ≡ true
late_cause head stage event t (rows.Again_uncached h w outcome unmet early first cached) some = or_right _ true refl
late_cause head stage event t (rows.Failed_own h w f known) some = or_right _ true refl
late_cause head stage event t (rows.Found_refused h lookup round status is fresh) some =
    or_left _ _ (ap (refuses_so (λ status. status == 504)) is ∙ by_test _ some)
late_cause head stage event t (rows.Tunnel_refused h status) some = or_left _ _ (by_test _ some)
late_cause head stage event t (rows.Unanswered_unsafe h content how unknown dangerous) some = late_so how (omega arith)
late_cause head stage event t (rows.Unanswered_safe h content how unknown safe) some = late_so how (omega arith)
late_cause head stage event t (rows.Passed_changed h content p dangerous says) some = absurd (omega (arith, passes_not (is_own 504) p refl refl))
late_cause head stage event t (rows.Passed_open h content p dangerous unclear) some = absurd (omega (arith, passes_not (is_own 504) p refl refl))
late_cause head stage event t (rows.Passed_safe h content p safe) some = absurd (omega (arith, passes_not (is_own 504) p refl refl))
late_cause head stage event t (rows.Passed_unchanged h content p says unclear) some = absurd (omega (arith, passes_not (is_own 504) p refl refl))
late_cause head stage event t row some = absurd (omega arith)

pub unserved_cause : (head : RequestHead) (stage : Stage) (event : Event) (t : Turn) → Row head stage event t → 0 < count_by (answers_so (is_own 501)) t.commands → (tells_so (λ status. status == 501) event || is_unserved event) ≡ true
unserved_cause head stage event t (rows.Foreign_coding old new node tunnel foreign) some = refl
unserved_cause head stage event t (rows.Unknown_method old new node tunnel unknown) some = refl
unserved_cause head stage event t (rows.Routed_last h p last) some = last
unserved_cause head stage event t (rows.Found_refused h lookup round status is fresh) some =
    or_left _ _ (ap (refuses_so (λ status. status == 501)) is ∙ by_test _ some)
unserved_cause head stage event t (rows.Failed_own h w f known) some = or_left _ _ (by_test _ some)
unserved_cause head stage event t (rows.Tunnel_refused h status) some = or_left _ _ (by_test _ some)
unserved_cause head stage event t (rows.Unanswered_unsafe h content how unknown dangerous) some = absurd (omega (arith, silent_not (is_own 501) refl refl how))
unserved_cause head stage event t (rows.Unanswered_safe h content how unknown safe) some = absurd (omega (arith, silent_not (is_own 501) refl refl how))
unserved_cause head stage event t (rows.Passed_changed h content p dangerous says) some = absurd (omega (arith, passes_not (is_own 501) p refl refl))
unserved_cause head stage event t (rows.Passed_open h content p dangerous unclear) some = absurd (omega (arith, passes_not (is_own 501) p refl refl))
unserved_cause head stage event t (rows.Passed_safe h content p safe) some = absurd (omega (arith, passes_not (is_own 501) p refl refl))
unserved_cause head stage event t (rows.Passed_unchanged h content p says unclear) some = absurd (omega (arith, passes_not (is_own 501) p refl refl))
unserved_cause head stage event t row some = absurd (omega arith)
