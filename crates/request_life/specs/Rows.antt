-- The table, row by row: how far a request has come, what happens, and under which conditions; what comes then, and what is done.
use Rattle.std.specs.Prelude.{◌≡◌, ℕ, [], ◌∷◌, ◌||◌, ◌&&◌, ◌==◌, not, Bool, true, false, Some, None}
use Rattle.node_terms.specs.declared.mode.Mode.{Mode}
use Rattle.node_terms.specs.declared.mode.Mode.TheVariants.{Private}
use Rattle.fair_use.specs.declared.unanswered.Upload.{Upload}
use Rattle.fair_use.specs.declared.unanswered.Upload.TheVariants as uploads
use Rattle.fair_use.specs.Unanswered.{is_carried_out, may_have_changed}
use Rattle.request_life.specs.declared.facts.Choice.TheVariants.{Ask, Refuse}
use Rattle.request_life.specs.declared.facts.RequestHead.{RequestHead}
use Rattle.request_life.specs.declared.facts.Lookup.{Lookup}
use Rattle.request_life.specs.declared.facts.Target.TheVariants as targets
use Rattle.request_life.specs.declared.facts.Passage.{Passage}
use Rattle.request_life.specs.declared.facts.TunnelTarget.{TunnelTarget}
use Rattle.request_life.specs.declared.events.ContentEnd.TheVariants as ends
use Rattle.request_life.specs.declared.events.Acceptance.{Acceptance}
use Rattle.request_life.specs.declared.events.Hit.{Hit}
use Rattle.request_life.specs.declared.events.Fetched.{Fetched}
use Rattle.request_life.specs.declared.events.Failure.{Failure}
use Rattle.request_life.specs.declared.events.Outcome.{Outcome}
use Rattle.request_life.specs.declared.events.Outcome.TheVariants as outcomes
use Rattle.request_life.specs.declared.events.PassedHead.{PassedHead}
use Rattle.request_life.specs.declared.events.PassedEnd.{PassedEnd}
use Rattle.request_life.specs.declared.events.PassedEnd.TheVariants as passages
use Rattle.request_life.specs.declared.events.TunnelEnd.TheVariants as tunnels
use Rattle.request_life.specs.declared.events.Event.{Event}
use Rattle.request_life.specs.declared.events.Event.TheVariants as events
use Rattle.request_life.specs.declared.commands.Answer.TheVariants as answers
use Rattle.request_life.specs.declared.commands.Changed.TheVariants as takes
use Rattle.request_life.specs.declared.commands.Command.TheVariants as does
use Rattle.request_life.specs.declared.stages.Round.{Round}
use Rattle.request_life.specs.declared.stages.Round.TheVariants.{First, Anew}
use Rattle.request_life.specs.declared.stages.Submission.{Submission}
use Rattle.request_life.specs.declared.stages.Wait.{Wait}
use Rattle.request_life.specs.declared.stages.Content.{Content}
use Rattle.request_life.specs.declared.stages.Content.TheVariants as contents
use Rattle.request_life.specs.declared.stages.Stage.{Stage}
use Rattle.request_life.specs.declared.stages.Stage.TheVariants as stages
use Rattle.request_life.specs.Table.{Turn, stay, goes, give, is_for_node, opens_tunnel, is_get, is_head, bar_of, beside, is_shared, is_private, submits, submits_part, submits_alone, is_first, waits, takes_stale, has_begun, is_cached, is_for_another, shape_for, passage_fault, is_unclear, answer_of, ends_connection, content_of, upload_of, tunnel_fault}

-- whether an outcome leaves the node with the client waiting
abbrev pub is_early : Outcome → Bool
is_early outcomes.Early = true
is_early outcome = false

-- whether an outcome is no answer to this request: what is stored does not meet it, or what was fetched is for another
abbrev pub is_no_answer : Wait → Outcome → Bool
is_no_answer w (outcomes.Hit hit) = not hit.is_accepted
is_no_answer w (outcomes.Fetched f) = is_for_another w.share f
is_no_answer w outcome = false

-- whether a server may have carried out what it has not answered
abbrev pub is_unknown : PassedEnd → Bool
is_unknown passages.TimedOut = true
is_unknown passages.Failed = true
is_unknown how = false

-- whether an end of what was passed on has changed nothing, of which so much was sent and whose client has gone
abbrev pub changes_nothing : Upload → PassedEnd → Bool
changes_nothing upload (passages.Head p) = not (may_have_changed upload (Some p.status))
changes_nothing upload passages.Refused = true
changes_nothing upload how = not (may_have_changed upload None)

abbrev pub is_unsent : Upload → Bool
is_unsent uploads.Whole = false
is_unsent uploads.Broken = true

abbrev pub is_coming : Content → Bool
is_coming contents.Coming = true
is_coming content = false

-- the status that is answered in place of an answer that does not come
abbrev pub silence : PassedEnd → ℕ
silence passages.TimedOut = 504
silence how = 502

-- whether an event changes anything at a stage
abbrev pub awaits : Stage → Event → Bool
awaits stages.Receiving (events.Received new) = true
awaits stages.Receiving events.Left = true
awaits stages.Receiving event = false
awaits stages.Collecting (events.Collected how) = true
awaits stages.Collecting events.Left = true
awaits stages.Collecting event = false
awaits (stages.LookingUp round) (events.Found lookup) = true
awaits (stages.LookingUp round) events.Left = true
awaits (stages.LookingUp round) event = false
awaits (stages.Submitting s) (events.Accepted a) = true
awaits (stages.Submitting s) (events.Declined has_stale) = true
awaits (stages.Submitting s) events.Left = true
awaits (stages.Submitting s) event = false
awaits stages.Leaving (events.Accepted a) = true
awaits stages.Leaving (events.Declined has_stale) = true
awaits stages.Leaving event = false
awaits (stages.Waiting w) (events.Answered outcome) = true
awaits (stages.Waiting w) events.Left = true
awaits (stages.Waiting w) event = false
awaits stages.Routing (events.Routed p) = true
awaits stages.Routing events.Left = true
awaits stages.Routing event = false
awaits (stages.Passing content) (events.Passed how) = true
awaits (stages.Passing content) events.Read = is_coming content
awaits (stages.Passing content) events.Sent = is_unsent (upload_of content)
awaits (stages.Passing content) events.UploadBroken = is_coming content
awaits (stages.Passing content) events.Left = true
awaits (stages.Passing content) event = false
awaits (stages.Parting upload) (events.Passed how) = true
awaits (stages.Parting upload) events.Sent = is_unsent upload
awaits (stages.Parting upload) events.Expired = true
awaits (stages.Parting upload) event = false
awaits stages.Breaking (events.Passed how) = true
awaits stages.Breaking events.Expired = true
awaits stages.Breaking events.Left = true
awaits stages.Breaking events.Finished = true
awaits stages.Breaking event = false
awaits stages.BrokenOff (events.Passed how) = true
awaits stages.BrokenOff events.Expired = true
awaits stages.BrokenOff event = false
awaits stages.Aiming (events.Aimed t) = true
awaits stages.Aiming events.Left = true
awaits stages.Aiming event = false
awaits stages.Opening (events.Tunnelled how) = true
awaits stages.Opening events.Left = true
awaits stages.Opening event = false
awaits stages.Giving events.Left = true
awaits stages.Giving events.Finished = true
awaits stages.Giving event = false
awaits stages.Ended event = false
awaits stages.Left event = false

pub data Row : RequestHead → Stage → Event → Turn → Type 0 where
  -- what is not awaited changes nothing
  Unawaited : (head : RequestHead) (stage : Stage) (event : Event) → awaits stage event ≡ false → Row head stage event (stay head stage)
  -- its head
  Too_long : (old new : RequestHead) → is_for_node new ≡ true → new.is_too_long ≡ true → Row old stages.Receiving (events.Received new) (goes new stages.Giving (give true (answers.Own 413) ∷ []))
  Too_long_for_tunnel : (old new : RequestHead) → opens_tunnel new ≡ true → new.is_too_long ≡ true → Row old stages.Receiving (events.Received new) (goes new stages.Giving (give true (answers.Own 413) ∷ []))
  Foreign_coding : (old new : RequestHead) → is_for_node new ≡ false → opens_tunnel new ≡ false → new.has_foreign_coding ≡ true → Row old stages.Receiving (events.Received new) (goes new stages.Giving (give true (answers.Own 501) ∷ []))
  Unknown_method : (old new : RequestHead) → is_for_node new ≡ false → opens_tunnel new ≡ false → new.has_passage ≡ false → Row old stages.Receiving (events.Received new) (goes new stages.Giving (give true (answers.Own 501) ∷ []))
  Collects : (old new : RequestHead) → is_for_node new ≡ true → new.has_content ≡ true → Row old stages.Receiving (events.Received new) (goes new stages.Collecting (does.Collect ∷ []))
  Looks_up : (old new : RequestHead) → is_for_node new ≡ true → new.has_content ≡ false → Row old stages.Receiving (events.Received new) (goes new (stages.LookingUp First) (does.LookUp ∷ []))
  Aims : (old new : RequestHead) → opens_tunnel new ≡ true → Row old stages.Receiving (events.Received new) (goes new stages.Aiming (does.Aim ∷ []))
  Routes : (old new : RequestHead) → is_for_node new ≡ false → new.has_passage ≡ true → new.has_foreign_coding ≡ false → Row old stages.Receiving (events.Received new) (goes new stages.Routing (does.Route ∷ []))
  -- its content
  Content_whole : (head : RequestHead) → Row head stages.Collecting (events.Collected ends.Whole) (goes head (stages.LookingUp First) (does.LookUp ∷ []))
  Content_too_long : (head : RequestHead) → Row head stages.Collecting (events.Collected ends.TooLong) (goes head stages.Giving (give true (answers.Own 413) ∷ []))
  Content_broken : (head : RequestHead) → Row head stages.Collecting (events.Collected ends.Broken) (goes head stages.Giving (give true (answers.Own 400) ∷ []))
  -- what the node is asked
  Found_not_http : (head : RequestHead) (lookup : Lookup) (round : Round) → lookup.target ≡ targets.NotHttp → Row head (stages.LookingUp round) (events.Found lookup) (goes head stages.Giving (give head.is_last (answers.Own 400) ∷ []))
  Found_too_long : (head : RequestHead) (lookup : Lookup) (round : Round) → lookup.target ≡ targets.TooLong → Row head (stages.LookingUp round) (events.Found lookup) (goes head stages.Giving (give head.is_last (answers.Own 414) ∷ []))
  Found_no_memory : (head : RequestHead) (lookup : Lookup) (round : Round) → lookup.target ≡ targets.NoMemory → Row head (stages.LookingUp round) (events.Found lookup) (goes head stages.Giving (give head.is_last (answers.Own 503) ∷ []))
  Found_came_back : (head : RequestHead) (lookup : Lookup) (round : Round) → lookup.has_come_back ≡ true → Row head (stages.LookingUp round) (events.Found lookup) (goes head stages.Giving (give head.is_last (answers.Own 508) ∷ []))
  Found_barred : (head : RequestHead) (lookup : Lookup) (round : Round) → lookup.is_barred ≡ true → Row head (stages.LookingUp round) (events.Found lookup) (goes head stages.Giving (give head.is_last (answers.Own 403) ∷ []))
  Found_refused : (head : RequestHead) (lookup : Lookup) (round : Round) (status : ℕ) → lookup.choice ≡ Refuse status → lookup.has_accepted_stale ≡ false → Row head (stages.LookingUp round) (events.Found lookup) (goes head stages.Giving (give head.is_last (answers.Own status) ∷ []))
  Found_long : (head : RequestHead) (lookup : Lookup) (round : Round) (mode : Mode) → is_first round ≡ true → lookup.choice ≡ Ask mode → is_get head.method ≡ true → lookup.is_long ≡ true → is_cached mode ≡ false → Row head (stages.LookingUp round) (events.Found lookup) (goes head stages.Routing (does.Route ∷ []))
  Found_head : (head : RequestHead) (lookup : Lookup) (round : Round) (status : ℕ) → is_first round ≡ true → lookup.choice ≡ Refuse status → (status == 501) ≡ true → is_head head.method ≡ true → head.has_passage ≡ true → Row head (stages.LookingUp round) (events.Found lookup) (goes head stages.Routing (does.Route ∷ []))
  Found_stale : (head : RequestHead) (lookup : Lookup) (round : Round) (status : ℕ) → lookup.choice ≡ Refuse status → lookup.has_accepted_stale ≡ true → bar_of lookup.has_come_back lookup.is_barred ≡ None → Row head (stages.LookingUp round) (events.Found lookup) (goes head stages.Giving (give head.is_last answers.Stale ∷ []))
  Found_asks : (head : RequestHead) (lookup : Lookup) (round : Round) (mode : Mode) → lookup.choice ≡ Ask mode → bar_of lookup.has_come_back lookup.is_barred ≡ None → (is_private (beside lookup.is_overtaken mode) && head.has_many_options) ≡ false → Row head (stages.LookingUp round) (events.Found lookup) (submits head round false (beside lookup.is_overtaken mode))
  Found_many_options : (head : RequestHead) (lookup : Lookup) (round : Round) (mode : Mode) → lookup.choice ≡ Ask mode → is_private (beside lookup.is_overtaken mode) ≡ true → head.has_many_options ≡ true → Row head (stages.LookingUp round) (events.Found lookup) (goes head stages.Giving (give head.is_last (answers.Own 400) ∷ []))
  Found_part : (head : RequestHead) (lookup : Lookup) (round : Round) → lookup.choice ≡ Ask Private → lookup.is_stored ≡ false → lookup.is_third_part ≡ true → bar_of lookup.has_come_back lookup.is_barred ≡ None → head.has_many_options ≡ false → Row head (stages.LookingUp round) (events.Found lookup) (submits_part head round)
  -- whether the node takes it
  Taken_stale : (head : RequestHead) (a : Acceptance) (s : Submission) → takes_stale head s.mode ≡ true → a.has_stale ≡ true → Row head (stages.Submitting s) (events.Accepted a) (goes head stages.Giving (does.Withdraw ∷ give head.is_last answers.Stale ∷ []))
  Taken_apart : (head : RequestHead) (a : Acceptance) (s : Submission) → is_shared s.mode ≡ true → s.is_second ≡ false → a.has_joined ≡ true → a.is_kept_out ≡ true → head.has_many_options ≡ false → Row head (stages.Submitting s) (events.Accepted a) (submits_alone head s.round)
  Taken_many_options : (head : RequestHead) (a : Acceptance) (s : Submission) → is_shared s.mode ≡ true → s.is_second ≡ false → a.has_joined ≡ true → a.is_kept_out ≡ true → head.has_many_options ≡ true → Row head (stages.Submitting s) (events.Accepted a) (goes head stages.Giving (does.Withdraw ∷ give head.is_last (answers.Own 400) ∷ []))
  Taken_streamed : (head : RequestHead) (a : Acceptance) (s : Submission) → takes_stale head s.mode ≡ true → a.has_joined ≡ false → head.is_streamed ≡ true → Row head (stages.Submitting s) (events.Accepted a) (goes head (waits s a.has_joined) (does.Stream ∷ []))
  Taken_waits : (head : RequestHead) (a : Acceptance) (s : Submission) → Row head (stages.Submitting s) (events.Accepted a) (goes head (waits s a.has_joined) [])
  Taken_left : (head : RequestHead) (a : Acceptance) → Row head stages.Leaving (events.Accepted a) (goes head stages.Left (does.Withdraw ∷ []))
  Declined_stale : (head : RequestHead) (has_stale : Bool) (s : Submission) → takes_stale head s.mode ≡ true → has_stale ≡ true → Row head (stages.Submitting s) (events.Declined has_stale) (goes head stages.Giving (give head.is_last answers.Stale ∷ []))
  Declined_own : (head : RequestHead) (has_stale : Bool) (s : Submission) → (takes_stale head s.mode && has_stale) ≡ false → Row head (stages.Submitting s) (events.Declined has_stale) (goes head stages.Giving (give head.is_last (answers.Own 503) ∷ []))
  Declined_left : (head : RequestHead) (has_stale : Bool) → Row head stages.Leaving (events.Declined has_stale) (goes head stages.Left [])
  -- the node's answer
  Hit_given : (head : RequestHead) (w : Wait) (hit : Hit) → hit.is_accepted ≡ true → Row head (stages.Waiting w) (events.Answered (outcomes.Hit hit)) (goes head stages.Giving (give head.is_last (answers.Hit hit.shape) ∷ []))
  Fetched_given : (head : RequestHead) (w : Wait) (f : Fetched) → is_for_another w.share f ≡ false → Row head (stages.Waiting w) (events.Answered (outcomes.Fetched f)) (goes head stages.Giving (give head.is_last (answers.Fetched (shape_for w.share f.shape)) ∷ []))
  Asked_again : (head : RequestHead) (w : Wait) (outcome : Outcome) → is_no_answer w outcome ≡ true → is_early outcome ≡ false → w.is_second ≡ false → is_cached w.mode ≡ false → head.has_many_options ≡ false → Row head (stages.Waiting w) (events.Answered outcome) (submits head w.round true Private)
  Again_many_options : (head : RequestHead) (w : Wait) (outcome : Outcome) → is_no_answer w outcome ≡ true → is_early outcome ≡ false → w.is_second ≡ false → is_cached w.mode ≡ false → head.has_many_options ≡ true → Row head (stages.Waiting w) (events.Answered outcome) (goes head stages.Giving (give head.is_last (answers.Own 400) ∷ []))
  Handed_in_anew : (head : RequestHead) (w : Wait) → is_first w.round ≡ true → w.is_second ≡ false → Row head (stages.Waiting w) (events.Answered outcomes.Again) (goes head (stages.LookingUp Anew) (does.LookUp ∷ []))
  Again_refused : (head : RequestHead) (w : Wait) (outcome : Outcome) → is_no_answer w outcome ≡ true → is_early outcome ≡ false → w.is_second ≡ true → Row head (stages.Waiting w) (events.Answered outcome) (goes head stages.Giving (give head.is_last (answers.Own 503) ∷ []))
  Again_uncached : (head : RequestHead) (w : Wait) (outcome : Outcome) → is_no_answer w outcome ≡ true → is_early outcome ≡ false → w.is_second ≡ false → is_cached w.mode ≡ true → Row head (stages.Waiting w) (events.Answered outcome) (goes head stages.Giving (give head.is_last (answers.Own 504) ∷ []))
  Failed_own : (head : RequestHead) (w : Wait) (f : Failure) → ((f.status == 502) && (f.is_long && not (is_cached w.mode))) ≡ false → Row head (stages.Waiting w) (events.Answered (outcomes.Failed f)) (goes head stages.Giving (give head.is_last (answers.Own f.status) ∷ []))
  Unwanted_again : (head : RequestHead) (w : Wait) → (is_first w.round && not w.is_second) ≡ false → Row head (stages.Waiting w) (events.Answered outcomes.Again) (goes head stages.Giving (give head.is_last (answers.Own 502) ∷ []))
  Lost : (head : RequestHead) (w : Wait) → is_first w.round ≡ true → Row head (stages.Waiting w) (events.Answered outcomes.Lost) (goes head stages.Giving (give head.is_last (answers.Own 503) ∷ []))
  Lost_anew : (head : RequestHead) (w : Wait) → is_first w.round ≡ false → Row head (stages.Waiting w) (events.Answered outcomes.Lost) (goes head stages.Giving (give head.is_last (answers.Own 502) ∷ []))
  Early_given : (head : RequestHead) (w : Wait) → has_begun w.share ≡ true → Row head (stages.Waiting w) (events.Answered outcomes.Early) (goes head stages.Giving (does.Withdraw ∷ give head.is_last answers.Early ∷ []))
  Early_refused : (head : RequestHead) (w : Wait) → has_begun w.share ≡ false → Row head (stages.Waiting w) (events.Answered outcomes.Early) (goes head stages.Giving (does.Withdraw ∷ give head.is_last (answers.Own 503) ∷ []))
  Failed_long : (head : RequestHead) (w : Wait) (f : Failure) → is_cached w.mode ≡ false → (f.status == 502) ≡ true → f.is_long ≡ true → Row head (stages.Waiting w) (events.Answered (outcomes.Failed f)) (goes head stages.Routing (does.Route ∷ []))
  -- where it is passed on to
  -- its content is not read, and is no request
  Routed_not_http : (head : RequestHead) (p : Passage) → p.target ≡ targets.NotHttp → Row head stages.Routing (events.Routed p) (goes head stages.Giving (give (head.is_last || head.has_upload) (answers.Own 400) ∷ []))
  Routed_too_long : (head : RequestHead) (p : Passage) → p.target ≡ targets.TooLong → Row head stages.Routing (events.Routed p) (goes head stages.Giving (give (head.is_last || head.has_upload) (answers.Own 414) ∷ []))
  Routed_no_memory : (head : RequestHead) (p : Passage) → p.target ≡ targets.NoMemory → Row head stages.Routing (events.Routed p) (goes head stages.Giving (give (head.is_last || head.has_upload) (answers.Own 503) ∷ []))
  Routed_came_back : (head : RequestHead) (p : Passage) → p.has_come_back ≡ true → Row head stages.Routing (events.Routed p) (goes head stages.Giving (give (head.is_last || head.has_upload) (answers.Own 508) ∷ []))
  Routed_barred : (head : RequestHead) (p : Passage) → p.is_barred ≡ true → Row head stages.Routing (events.Routed p) (goes head stages.Giving (give (head.is_last || head.has_upload) (answers.Own 403) ∷ []))
  Routed_last : (head : RequestHead) (p : Passage) → p.is_last_recipient ≡ true → Row head stages.Routing (events.Routed p) (goes head stages.Giving (give (head.is_last || head.has_upload) (answers.Own 501) ∷ []))
  Routed_many_options : (head : RequestHead) (p : Passage) → p.has_many_options ≡ true → Row head stages.Routing (events.Routed p) (goes head stages.Giving (give (head.is_last || head.has_upload) (answers.Own 400) ∷ []))
  Routed_no_room : (head : RequestHead) (p : Passage) → p.has_room ≡ false → Row head stages.Routing (events.Routed p) (goes head stages.Giving (give (head.is_last || head.has_upload) (answers.Own 503) ∷ []))
  Routed_on : (head : RequestHead) (p : Passage) → passage_fault p ≡ None → Row head stages.Routing (events.Routed p) (goes head (stages.Passing (content_of head)) (does.PassOn ∷ []))
  -- its server's answer
  Passed_changed : (head : RequestHead) (content : Content) (p : PassedHead) → head.is_unsafe ≡ true → is_carried_out p.status ≡ true → Row head (stages.Passing content) (events.Passed (passages.Head p)) (goes head stages.Giving (does.TakeOut takes.ByAnswer ∷ give (ends_connection head content) (answer_of p) ∷ []))
  Passed_open : (head : RequestHead) (content : Content) (p : PassedHead) → head.is_unsafe ≡ true → is_unclear p ≡ true → Row head (stages.Passing content) (events.Passed (passages.Head p)) (goes head stages.Giving (does.TakeOut takes.Target ∷ give (ends_connection head content) (answer_of p) ∷ []))
  Passed_safe : (head : RequestHead) (content : Content) (p : PassedHead) → head.is_unsafe ≡ false → Row head (stages.Passing content) (events.Passed (passages.Head p)) (goes head stages.Giving (give (ends_connection head content) (answer_of p) ∷ []))
  Passed_unchanged : (head : RequestHead) (content : Content) (p : PassedHead) → is_carried_out p.status ≡ false → is_unclear p ≡ false → Row head (stages.Passing content) (events.Passed (passages.Head p)) (goes head stages.Giving (give (ends_connection head content) (answer_of p) ∷ []))
  Passed_refused : (head : RequestHead) (content : Content) → Row head (stages.Passing content) (events.Passed passages.Refused) (goes head stages.Giving (give (ends_connection head content) (answers.Own 403) ∷ []))
  Unanswered_unsafe : (head : RequestHead) (content : Content) (how : PassedEnd) → is_unknown how ≡ true → head.is_unsafe ≡ true → Row head (stages.Passing content) (events.Passed how) (goes head stages.Giving (does.TakeOut takes.Target ∷ give (ends_connection head content) (answers.Own (silence how)) ∷ []))
  Unanswered_safe : (head : RequestHead) (content : Content) (how : PassedEnd) → is_unknown how ≡ true → head.is_unsafe ≡ false → Row head (stages.Passing content) (events.Passed how) (goes head stages.Giving (give (ends_connection head content) (answers.Own (silence how)) ∷ []))
  Read_whole : (head : RequestHead) → Row head (stages.Passing contents.Coming) events.Read (stay head (stages.Passing contents.Read))
  Sent_whole : (head : RequestHead) (content : Content) → is_unsent (upload_of content) ≡ true → Row head (stages.Passing content) events.Sent (stay head (stages.Passing contents.Sent))
  Broken_unsafe : (head : RequestHead) → head.is_unsafe ≡ true → Row head (stages.Passing contents.Coming) events.UploadBroken (goes head stages.Breaking (give true (answers.Own 400) ∷ []))
  Broken_safe : (head : RequestHead) → head.is_unsafe ≡ false → Row head (stages.Passing contents.Coming) events.UploadBroken (goes head stages.Giving (does.Cancel ∷ give true (answers.Own 400) ∷ []))
  -- its server's answer once its client has gone
  Parted_sent : (head : RequestHead) → Row head (stages.Parting uploads.Broken) events.Sent (stay head (stages.Parting uploads.Whole))
  Parted_changed : (head : RequestHead) (upload : Upload) (p : PassedHead) → may_have_changed upload (Some p.status) ≡ true → Row head (stages.Parting upload) (events.Passed (passages.Head p)) (goes head stages.Left (does.Cancel ∷ does.TakeOut takes.ByAnswer ∷ []))
  Parted_lost : (head : RequestHead) (upload : Upload) (how : PassedEnd) → is_unknown how ≡ true → may_have_changed upload None ≡ true → Row head (stages.Parting upload) (events.Passed how) (goes head stages.Left (does.Cancel ∷ does.TakeOut takes.Target ∷ []))
  Parted_unchanged : (head : RequestHead) (upload : Upload) (how : PassedEnd) → changes_nothing upload how ≡ true → Row head (stages.Parting upload) (events.Passed how) (goes head stages.Left (does.Cancel ∷ []))
  Parted_late : (head : RequestHead) (upload : Upload) → may_have_changed upload None ≡ true → Row head (stages.Parting upload) events.Expired (goes head stages.Left (does.Cancel ∷ does.TakeOut takes.Target ∷ []))
  Parted_in_vain : (head : RequestHead) (upload : Upload) → may_have_changed upload None ≡ false → Row head (stages.Parting upload) events.Expired (goes head stages.Left (does.Cancel ∷ []))
  -- its server's answer once its client has broken its content
  Breaking_changed : (head : RequestHead) (p : PassedHead) → may_have_changed uploads.Broken (Some p.status) ≡ true → Row head stages.Breaking (events.Passed (passages.Head p)) (goes head stages.Giving (does.Cancel ∷ does.TakeOut takes.ByAnswer ∷ []))
  Breaking_unchanged : (head : RequestHead) (how : PassedEnd) → changes_nothing uploads.Broken how ≡ true → Row head stages.Breaking (events.Passed how) (goes head stages.Giving (does.Cancel ∷ []))
  Breaking_in_vain : (head : RequestHead) → Row head stages.Breaking events.Expired (goes head stages.Giving (does.Cancel ∷ []))
  Broken_off_changed : (head : RequestHead) (p : PassedHead) → may_have_changed uploads.Broken (Some p.status) ≡ true → Row head stages.BrokenOff (events.Passed (passages.Head p)) (goes head stages.Ended (does.Cancel ∷ does.TakeOut takes.ByAnswer ∷ []))
  Broken_off_unchanged : (head : RequestHead) (how : PassedEnd) → changes_nothing uploads.Broken how ≡ true → Row head stages.BrokenOff (events.Passed how) (goes head stages.Ended (does.Cancel ∷ []))
  Broken_off_in_vain : (head : RequestHead) → Row head stages.BrokenOff events.Expired (goes head stages.Ended (does.Cancel ∷ []))
  -- its tunnel
  Aimed_nowhere : (head : RequestHead) (t : TunnelTarget) → t.is_authority ≡ false → Row head stages.Aiming (events.Aimed t) (goes head stages.Giving (give true (answers.Own 400) ∷ []))
  Aimed_at_port : (head : RequestHead) (t : TunnelTarget) → t.is_port_allowed ≡ false → Row head stages.Aiming (events.Aimed t) (goes head stages.Giving (give true (answers.Own 403) ∷ []))
  Aimed_came_back : (head : RequestHead) (t : TunnelTarget) → t.has_come_back ≡ true → Row head stages.Aiming (events.Aimed t) (goes head stages.Giving (give true (answers.Own 508) ∷ []))
  Aimed_barred : (head : RequestHead) (t : TunnelTarget) → t.is_barred ≡ true → Row head stages.Aiming (events.Aimed t) (goes head stages.Giving (give true (answers.Own 403) ∷ []))
  Aimed_no_room : (head : RequestHead) (t : TunnelTarget) → t.has_room ≡ false → Row head stages.Aiming (events.Aimed t) (goes head stages.Giving (give true (answers.Own 503) ∷ []))
  Aimed_opens : (head : RequestHead) (t : TunnelTarget) → tunnel_fault t ≡ None → Row head stages.Aiming (events.Aimed t) (goes head stages.Opening (does.OpenTunnel ∷ []))
  Opened : (head : RequestHead) → Row head stages.Opening (events.Tunnelled tunnels.Opened) (goes head stages.Giving (give head.is_last answers.Tunnel ∷ []))
  Tunnel_refused : (head : RequestHead) (status : ℕ) → Row head stages.Opening (events.Tunnelled (tunnels.Refused status)) (goes head stages.Giving (give true (answers.Own status) ∷ []))
  -- its client has left
  Left_receiving : (head : RequestHead) → Row head stages.Receiving events.Left (goes head stages.Left (does.Record ∷ []))
  Left_collecting : (head : RequestHead) → Row head stages.Collecting events.Left (goes head stages.Left (does.Record ∷ []))
  Left_looking_up : (head : RequestHead) (round : Round) → Row head (stages.LookingUp round) events.Left (goes head stages.Left (does.Record ∷ []))
  Left_submitting : (head : RequestHead) (s : Submission) → Row head (stages.Submitting s) events.Left (goes head stages.Leaving (does.Record ∷ []))
  Left_waiting : (head : RequestHead) (w : Wait) → Row head (stages.Waiting w) events.Left (goes head stages.Left (does.Withdraw ∷ does.Record ∷ []))
  Left_routing : (head : RequestHead) → Row head stages.Routing events.Left (goes head stages.Left (does.Record ∷ []))
  Left_passing_unsafe : (head : RequestHead) (content : Content) → head.is_unsafe ≡ true → Row head (stages.Passing content) events.Left (goes head (stages.Parting (upload_of content)) (does.Record ∷ []))
  Left_passing_safe : (head : RequestHead) (content : Content) → head.is_unsafe ≡ false → Row head (stages.Passing content) events.Left (goes head stages.Left (does.Cancel ∷ does.Record ∷ []))
  Left_aiming : (head : RequestHead) → Row head stages.Aiming events.Left (goes head stages.Left (does.Record ∷ []))
  Left_opening : (head : RequestHead) → Row head stages.Opening events.Left (goes head stages.Left (does.Cancel ∷ does.Record ∷ []))
  Left_breaking : (head : RequestHead) → Row head stages.Breaking events.Left (goes head stages.BrokenOff (does.Record ∷ []))
  Left_giving : (head : RequestHead) → Row head stages.Giving events.Left (goes head stages.Ended (does.Record ∷ []))
  -- its answer is over
  Finished : (head : RequestHead) → Row head stages.Giving events.Finished (goes head stages.Ended (does.Record ∷ []))
  Finished_breaking : (head : RequestHead) → Row head stages.Breaking events.Finished (goes head stages.BrokenOff (does.Record ∷ []))
