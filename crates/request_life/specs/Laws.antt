-- The words of the laws: what commands, events and stages are.
use Rattle.std.specs.Prelude.{ℕ, List, [], ◌∷◌, count_by, nat_le, nat_lt, ◌==◌, ◌&&◌, ◌||◌, not, if◌then◌else◌, Bool, true, false, Option, Some}
use Rattle.fair_use.specs.declared.unanswered.Upload.{Upload}
use Rattle.fair_use.specs.declared.unanswered.Upload.TheVariants as uploads
use Rattle.node_terms.specs.declared.mode.Mode.{Mode}
use Rattle.node_terms.specs.declared.mode.Mode.TheVariants.{Shared, Cached, Private}
use Rattle.request_life.specs.declared.facts.Target.{Target}
use Rattle.request_life.specs.declared.facts.Target.TheVariants as targets
use Rattle.request_life.specs.declared.facts.Lookup.{Lookup}
use Rattle.request_life.specs.declared.facts.Passage.{Passage}
use Rattle.request_life.specs.declared.facts.TunnelTarget.{TunnelTarget}
use Rattle.request_life.specs.declared.facts.Choice.{Choice}
use Rattle.request_life.specs.declared.facts.Choice.TheVariants.{Ask, Refuse}
use Rattle.request_life.specs.declared.commands.Answer.{Answer}
use Rattle.request_life.specs.declared.commands.Answer.TheVariants as answers
use Rattle.request_life.specs.declared.commands.Shape.{Shape}
use Rattle.request_life.specs.declared.commands.Shape.TheVariants as shapes
use Rattle.request_life.specs.declared.commands.Changed.{Changed}
use Rattle.request_life.specs.declared.commands.Changed.TheVariants as takes
use Rattle.request_life.specs.declared.commands.Command.{Command}
use Rattle.request_life.specs.declared.commands.Command.TheVariants as does
use Rattle.request_life.specs.declared.events.ContentEnd.TheVariants as ends
use Rattle.request_life.specs.declared.events.Fetched.{Fetched}
use Rattle.request_life.specs.declared.events.Outcome.{Outcome}
use Rattle.request_life.specs.declared.events.Outcome.TheVariants as outcomes
use Rattle.request_life.specs.declared.events.PassedHead.{PassedHead}
use Rattle.request_life.specs.declared.events.PassedEnd.{PassedEnd}
use Rattle.request_life.specs.declared.events.PassedEnd.TheVariants as passages
use Rattle.request_life.specs.declared.events.TunnelEnd.TheVariants as tunnels
use Rattle.request_life.specs.declared.events.Event.{Event}
use Rattle.request_life.specs.declared.events.Event.TheVariants as events
use Rattle.request_life.specs.declared.facts.Method.{Method}
use Rattle.request_life.specs.declared.facts.Method.TheVariants as methods
use Rattle.request_life.specs.declared.stages.Content.{Content}
use Rattle.request_life.specs.declared.stages.Content.TheVariants as contents
use Rattle.request_life.specs.declared.stages.Share.{Share}
use Rattle.request_life.specs.declared.stages.Share.TheVariants as shares
use Rattle.request_life.specs.declared.stages.Stage.{Stage}
use Rattle.request_life.specs.declared.stages.Stage.TheVariants as stages
use Rattle.request_life.specs.declared.stages.Life.{Life}
use Rattle.request_life.specs.Runs.{turn_of}
use Rattle.request_life.specs.declared.facts.RequestHead.{RequestHead}

-- WHAT A SERVER SAYS

-- it has carried the request out (RFC 9111, section 4.4)
abbrev pub says_done : ℕ → Bool
says_done status = nat_le 200 status && nat_lt status 400

-- nobody knows: it has lost the server behind it, or what it says can't be given on
abbrev pub says_unclear : PassedHead → Bool
says_unclear p = p.has_many_options || ((p.status == 502) || (p.status == 504))

-- no answer comes
abbrev pub is_silence : PassedEnd → Bool
is_silence passages.TimedOut = true
is_silence passages.Failed = true
is_silence passages.Refused = false
is_silence (passages.Head p) = false

abbrev pub is_all_sent : Upload → Bool
is_all_sent uploads.Whole = true
is_all_sent uploads.Broken = false

-- to a client that is there: it has not carried the request out, or was not connected to
abbrev pub leaves_all : PassedEnd → Bool
leaves_all (passages.Head p) = not (says_done p.status) && not (says_unclear p)
leaves_all passages.Refused = true
leaves_all passages.TimedOut = false
leaves_all passages.Failed = false

-- of a client that has gone: it has not carried the request out, or was not connected to; or it says nothing, and has not got all of it
abbrev pub leaves_unchanged : Upload → PassedEnd → Bool
leaves_unchanged upload (passages.Head p) = not (says_done p.status)
leaves_unchanged upload passages.Refused = true
leaves_unchanged upload passages.TimedOut = not (is_all_sent upload)
leaves_unchanged upload passages.Failed = not (is_all_sent upload)

-- COMMANDS

-- gives an answer
abbrev pub is_give : Command → Bool
is_give (does.Give given) = true
is_give command = false

abbrev pub answers_so : (Answer → Bool) → Command → Bool
answers_so is (does.Give given) = is given.answer
answers_so is command = false

abbrev pub is_hit : Answer → Bool
is_hit (answers.Hit shape) = true
is_hit answer = false

abbrev pub is_fetched : Answer → Bool
is_fetched (answers.Fetched shape) = true
is_fetched answer = false

abbrev pub is_stale : Answer → Bool
is_stale answers.Stale = true
is_stale answer = false

abbrev pub is_early_one : Answer → Bool
is_early_one answers.Early = true
is_early_one answer = false

abbrev pub is_tunnel : Answer → Bool
is_tunnel answers.Tunnel = true
is_tunnel answer = false

-- gives an answer other than an open tunnel, after which the connection goes on
abbrev pub goes_on : Command → Bool
goes_on (does.Give given) = not given.is_last && not (is_tunnel given.answer)
goes_on command = false

abbrev pub is_passed_one : Answer → Bool
is_passed_one answers.Passed = true
is_passed_one answer = false

-- a status of the proxy's own
abbrev pub is_own : ℕ → Answer → Bool
is_own status (answers.Own given) = given == status
is_own status answer = false

-- a status of the proxy's own that is no error
abbrev pub is_own_success : Answer → Bool
is_own_success (answers.Own status) = nat_lt status 400
is_own_success answer = false

-- all that is done: an answer is given, which ends its connection only where the client has asked for that
abbrev pub gives_one : RequestHead → Answer → List Command
gives_one head answer = does.Give (record { answer = answer; is_last = head.is_last }) ∷ []

-- all that is done: a status of the proxy's own is given, which ends its connection
abbrev pub turns_down : ℕ → List Command
turns_down status = does.Give (record { answer = answers.Own status; is_last = true }) ∷ []

abbrev pub is_submit : Command → Bool
is_submit (does.Submit mode) = true
is_submit command = false

-- wants what is stored alone (RFC 9111, section 5.2.1.7)
abbrev pub wants_stored : Mode → Bool
wants_stored Cached = true
wants_stored mode = false

-- wants what is fetched for this request alone
abbrev pub wants_own : Mode → Bool
wants_own Private = true
wants_own mode = false

abbrev pub is_submit_alone : Command → Bool
is_submit_alone (does.Submit mode) = wants_own mode
is_submit_alone command = false

-- wants what is fetched for all
abbrev pub wants_shared : Mode → Bool
wants_shared Shared = true
wants_shared mode = false

abbrev pub is_submit_so : (Mode → Bool) → Command → Bool
is_submit_so is (does.Submit mode) = is mode
is_submit_so is command = false

abbrev pub is_fetch_for_all : Command → Bool
is_fetch_for_all does.FetchForAll = true
is_fetch_for_all command = false

abbrev pub is_stream : Command → Bool
is_stream does.Stream = true
is_stream command = false

-- asks something whose answer is awaited then
abbrev pub is_question : Command → Bool
is_question does.Collect = true
is_question does.LookUp = true
is_question (does.Submit mode) = true
is_question does.Route = true
is_question does.Aim = true
is_question command = false

-- has a server do something: a request is passed on to it, or a tunnel leads there
abbrev pub goes_out : Command → Bool
goes_out does.PassOn = true
goes_out does.OpenTunnel = true
goes_out command = false

abbrev pub is_cancel : Command → Bool
is_cancel does.Cancel = true
is_cancel command = false

abbrev pub is_look_up : Command → Bool
is_look_up does.LookUp = true
is_look_up command = false

abbrev pub is_route : Command → Bool
is_route does.Route = true
is_route command = false

-- the content is collected, or what the node is asked is found out
abbrev pub is_begin : Command → Bool
is_begin does.Collect = true
is_begin does.LookUp = true
is_begin command = false

-- gives an answer that ends its connection
abbrev pub ends_connection_by : Command → Bool
ends_connection_by (does.Give given) = given.is_last
ends_connection_by command = false

-- has something fetched
abbrev pub is_fetch : Command → Bool
is_fetch (does.Submit mode) = not (wants_stored mode)
is_fetch does.FetchForAll = true
is_fetch command = false

abbrev pub is_withdraw : Command → Bool
is_withdraw does.Withdraw = true
is_withdraw command = false

abbrev pub is_pass_on : Command → Bool
is_pass_on does.PassOn = true
is_pass_on command = false

abbrev pub is_open_tunnel : Command → Bool
is_open_tunnel does.OpenTunnel = true
is_open_tunnel command = false

-- has the request go anywhere: to the node, to a server, through a tunnel
abbrev pub is_sent : Command → Bool
is_sent (does.Submit mode) = true
is_sent does.FetchForAll = true
is_sent does.PassOn = true
is_sent does.OpenTunnel = true
is_sent command = false

abbrev pub is_take_out : Command → Bool
is_take_out (does.TakeOut what) = true
is_take_out command = false

abbrev pub is_by_answer : Changed → Bool
is_by_answer takes.ByAnswer = true
is_by_answer takes.Target = false

-- takes out what the head of an answer says
abbrev pub takes_by_answer : Command → Bool
takes_by_answer (does.TakeOut what) = is_by_answer what
takes_by_answer command = false

abbrev pub is_record : Command → Bool
is_record does.Record = true
is_record command = false

abbrev pub is_more_than_record : Command → Bool
is_more_than_record command = not (is_record command)

-- does anything for its answer: more than to write its line, to end what was passed on, and to take out what that has changed
abbrev pub goes_further : Command → Bool
goes_further does.Record = false
goes_further does.Cancel = false
goes_further (does.TakeOut what) = false
goes_further command = true

-- STAGES

abbrev pub one : Bool → ℕ
one true = 1
one false = 0

-- its client has broken its content, which was passed on, and what its server says is awaited
abbrev pub has_broken : Stage → Bool
has_broken stages.Breaking = true
has_broken stages.BrokenOff = true
has_broken stage = false

-- all is over
abbrev pub is_over : Stage → Bool
is_over stages.Ended = true
is_over stages.Left = true
is_over stage = false

-- its line is written
abbrev pub is_recorded : Stage → Bool
is_recorded stages.Ended = true
is_recorded stages.Left = true
is_recorded stages.Leaving = true
is_recorded (stages.Parting upload) = true
is_recorded stages.BrokenOff = true
is_recorded stage = false

abbrev pub is_waiting : Stage → Bool
is_waiting (stages.Waiting w) = true
is_waiting stage = false

-- EVENTS

abbrev pub is_left : Event → Bool
is_left events.Left = true
is_left event = false

abbrev pub is_met_hit : Event → Bool
is_met_hit (events.Answered (outcomes.Hit hit)) = hit.is_accepted
is_met_hit event = false

abbrev pub has_stale : Event → Bool
has_stale (events.Found lookup) = lookup.has_accepted_stale
has_stale (events.Accepted a) = a.has_stale
has_stale (events.Declined has_one) = has_one
has_stale event = false

abbrev pub is_opened : Event → Bool
is_opened (events.Tunnelled tunnels.Opened) = true
is_opened event = false

-- wants what is fetched for all, and nothing has changed what is being fetched
abbrev pub asks_shared : Choice → Bool
asks_shared (Ask mode) = wants_shared mode
asks_shared (Refuse status) = false

abbrev pub lets_join : Event → Bool
lets_join (events.Found lookup) = asks_shared lookup.choice && not lookup.is_overtaken
lets_join event = false

abbrev pub asks_stored : Choice → Bool
asks_stored (Ask mode) = wants_stored mode
asks_stored (Refuse status) = false

abbrev pub lets_use_stored : Event → Bool
lets_use_stored (events.Found lookup) = asks_stored lookup.choice
lets_use_stored event = false

abbrev pub asks_own : Choice → Bool
asks_own (Ask mode) = wants_own mode
asks_own (Refuse status) = false

-- it is the third for a part of what is not stored
abbrev pub is_for_part : Event → Bool
is_for_part (events.Found lookup) = asks_own lookup.choice && (not lookup.is_stored && lookup.is_third_part)
is_for_part event = false

-- its client may have the answer while that is collected: it has begun its fetch, and counts on no answer that has come by its origin
abbrev pub may_stream : RequestHead → Event → Bool
may_stream head (events.Accepted a) = not a.has_joined && (head.is_streamed && not head.has_loop_marks)
may_stream head event = false

-- a status that an event has with it
abbrev pub refuses_so : (ℕ → Bool) → Choice → Bool
refuses_so is (Refuse status) = is status
refuses_so is (Ask mode) = false

abbrev pub tells_so : (ℕ → Bool) → Event → Bool
tells_so is (events.Found lookup) = refuses_so is lookup.choice
tells_so is (events.Answered (outcomes.Failed f)) = is f.status
tells_so is (events.Tunnelled (tunnels.Refused status)) = is status
tells_so is event = false

-- it has come back
abbrev pub came_back : Event → Bool
came_back (events.Found lookup) = lookup.has_come_back
came_back (events.Routed p) = p.has_come_back
came_back (events.Aimed t) = t.has_come_back
came_back event = false

-- its server or its port is not allowed
abbrev pub is_forbidden : Event → Bool
is_forbidden (events.Found lookup) = lookup.is_barred
is_forbidden (events.Routed p) = p.is_barred
is_forbidden (events.Aimed t) = t.is_barred || not t.is_port_allowed
is_forbidden (events.Passed passages.Refused) = true
is_forbidden event = false

abbrev pub is_long_target : Target → Bool
is_long_target targets.TooLong = true
is_long_target target = false

-- its target is too long
abbrev pub is_long_one : Event → Bool
is_long_one (events.Found lookup) = is_long_target lookup.target
is_long_one (events.Routed p) = is_long_target p.target
is_long_one event = false

-- its content is too long
abbrev pub is_large : Event → Bool
is_large (events.Received head) = head.is_too_long
is_large (events.Collected ends.TooLong) = true
is_large event = false

-- no answer has come in time, or what the node answers is none for a request that wants nothing fetched
abbrev pub is_late : Event → Bool
is_late (events.Passed passages.TimedOut) = true
is_late (events.Answered outcome) = true
is_late event = false

-- what it asks for is not done here
abbrev pub is_unserved : Event → Bool
is_unserved (events.Received head) = true
is_unserved (events.Routed p) = p.is_last_recipient
is_unserved event = false

-- its server says that it has carried the request out
abbrev pub has_answered : Event → Bool
has_answered (events.Passed (passages.Head p)) = says_done p.status
has_answered event = false

-- who shares a fetch, and counts on no answer that has come by its origin, may have what is stale
abbrev pub may_have_stale : RequestHead → Mode → Bool
may_have_stale head mode = wants_shared mode && not head.has_loop_marks

-- who began a fetch, or had one of its own, has what came of it; who joined one only what may be stored or was there before
abbrev pub may_have : Share → Fetched → Bool
may_have shares.Joined f = f.is_kept || f.is_stale
may_have share f = true

-- what was fetched for a request alone is given as it is
abbrev pub shape_due : Share → Shape → Shape
shape_due shares.Alone shape = shapes.Whole
shape_due shares.Began shape = shape
shape_due shares.Joined shape = shape

-- where a tunnel may lead (RFC 9110, section 9.3.6)
abbrev pub may_be_tunnelled : TunnelTarget → Bool
may_be_tunnelled t = t.is_authority && (t.is_port_allowed && (not t.has_come_back && (not t.is_barred && t.has_room)))

abbrev pub is_url : Target → Bool
is_url targets.Url = true
is_url target = false

-- what may be passed on
abbrev pub may_be_passed : Passage → Bool
may_be_passed p =
    is_url p.target && (not p.has_come_back && (not p.is_barred && (not p.is_last_recipient && (not p.has_many_options && p.has_room))))

-- what the node may be asked
abbrev pub may_be_asked : RequestHead → Lookup → Bool
may_be_asked head l =
    is_url l.target && (not l.has_come_back && (not l.is_barred && (not l.is_long && not head.has_many_options)))

abbrev pub aims_well : Event → Bool
aims_well (events.Aimed t) = may_be_tunnelled t
aims_well event = false

abbrev pub routes_well : Event → Bool
routes_well (events.Routed p) = may_be_passed p
routes_well event = false

-- an event that lets no request go anywhere: where it looks, the request has come back or its host may not be fetched from
abbrev pub bars : Event → Bool
bars (events.Found lookup) = lookup.has_come_back || lookup.is_barred
bars (events.Routed p) = p.has_come_back || p.is_barred
bars (events.Aimed t) = t.has_come_back || t.is_barred
bars event = true

abbrev pub asks_store : Choice → Bool
asks_store (Ask mode) = wants_stored mode
asks_store (Refuse status) = true

-- the node says that its fetch was ended for want of clients
abbrev pub is_again : Event → Bool
is_again (events.Answered outcomes.Again) = true
is_again event = false

-- the server that it was passed on to has said something, or has not in time
abbrev pub ends_passage : Event → Bool
ends_passage (events.Passed (passages.Head p)) = true
ends_passage (events.Passed how) = is_silence how
ends_passage events.Expired = true
ends_passage event = false

-- an event that doesn't say that it was carried out: no answer 2xx or 3xx
abbrev pub says_nothing : Event → Bool
says_nothing (events.Passed (passages.Head p)) = not (says_done p.status)
says_nothing event = true

-- an event that isn't the end of the time for an answer, or of the connection that it would come over
abbrev pub leaves_time : Event → Bool
leaves_time (events.Passed how) = not (is_silence how)
leaves_time events.Expired = false
leaves_time event = true

abbrev pub is_not_sent : Event → Bool
is_not_sent events.Sent = false
is_not_sent event = true

abbrev pub says_nothing_unsent : Event → Bool
says_nothing_unsent event = says_nothing event && is_not_sent event

abbrev pub says_nothing_in_time : Event → Bool
says_nothing_in_time event = says_nothing event && leaves_time event

-- an event that wants nothing but what is stored (RFC 9111, section 5.2.1.7)
abbrev pub is_for_store : Event → Bool
is_for_store (events.Found lookup) = asks_store lookup.choice
is_for_store event = true

-- a request that the node may answer
abbrev pub may_be_answered : RequestHead → Method → Bool
may_be_answered head methods.Get = true
may_be_answered head methods.Head = head.answers_heads
may_be_answered head methods.Connect = false
may_be_answered head methods.Other = false

-- as `asks_store`, but for a HEAD that nothing stored answers
abbrev pub stays_with_store : Choice → Bool
stays_with_store (Ask mode) = wants_stored mode
stays_with_store (Refuse status) = not (status == 501)

-- an event of a request that the node may answer, and which wants nothing but what is stored
abbrev pub is_for_store_alone : Event → Bool
is_for_store_alone (events.Received head) = may_be_answered head head.method
is_for_store_alone (events.Found lookup) = stays_with_store lookup.choice
is_for_store_alone event = true

-- an event of a request with content that is collected, not all of which has come
abbrev pub is_uncollected : Event → Bool
is_uncollected (events.Received head) = head.has_content
is_uncollected (events.Collected ends.Whole) = false
is_uncollected event = true

-- a request for a tunnel, where these are opened
abbrev pub may_tunnel : RequestHead → Method → Bool
may_tunnel head methods.Connect = head.has_tunnels
may_tunnel head methods.Get = false
may_tunnel head methods.Head = false
may_tunnel head methods.Other = false

-- a request for which nothing is done here: the node may not answer it, no tunnel is opened for it, and it is not passed on, since its method is
-- not, or since its content is coded as this cache doesn't know (RFC 9112, section 6.1)
abbrev pub is_for_nobody : RequestHead → Bool
is_for_nobody head =
    not (may_be_answered head head.method) && (not (may_tunnel head head.method) && (not head.has_passage || head.has_foreign_coding))

-- a request that is for its server alone
abbrev pub is_for_server : RequestHead → Bool
is_for_server head =
    not (may_be_answered head head.method) && (not (may_tunnel head head.method) && (head.has_passage && not head.has_foreign_coding))

abbrev pub comes_for_nobody : Event → Bool
comes_for_nobody (events.Received head) = is_for_nobody head
comes_for_nobody event = true

abbrev pub is_get_one : Method → Bool
is_get_one methods.Get = true
is_get_one method = false

abbrev pub is_head_one : Method → Bool
is_head_one methods.Head = true
is_head_one method = false

-- a request that the node could answer is passed on: a GET whose answer is known to be too long, or a HEAD that nothing stored answers, where a HEAD
-- is passed on
abbrev pub goes_past : RequestHead → Event → Bool
goes_past head (events.Found lookup) =
    (is_get_one head.method && lookup.is_long) || (is_head_one head.method && head.has_passage)
goes_past head event = false

-- the node says that the request has joined a fetch whose answer can't be stored, as the last one could not
abbrev pub is_kept_apart : Event → Bool
is_kept_apart (events.Accepted a) = a.has_joined && a.is_kept_out
is_kept_apart event = false

-- the way that a request is to be submitted: as it was found, but alone where what it would join was changed
abbrev pub is_due_as : Lookup → Mode → Mode → Bool
is_due_as lookup Shared mode = if lookup.is_overtaken then wants_own mode else wants_shared mode
is_due_as lookup Cached mode = wants_stored mode
is_due_as lookup Private mode = wants_own mode

-- its server has answered with what can be given on (RFC 9110, section 7.6.1)
abbrev pub is_sendable : Event → Bool
is_sendable (events.Passed (passages.Head p)) = not p.has_many_options
is_sendable event = false

-- its client doesn't break its content
abbrev pub breaks_nothing : Event → Bool
breaks_nothing events.UploadBroken = false
breaks_nothing event = true

-- an event of a request with content that is passed on, which tells that all of that has come, or was sent
abbrev pub is_unread : Event → Bool
is_unread events.Read = false
is_unread events.Sent = false
is_unread event = true

-- an event of a request whose fields can't be sent on
abbrev pub has_unsendable : Event → Bool
has_unsendable (events.Received head) = head.has_many_options
has_unsendable event = true

-- AT A STAGE

-- the node takes the request
abbrev pub is_taken : Stage → Event → Bool
is_taken (stages.Submitting s) (events.Accepted a) = true
is_taken stages.Leaving (events.Accepted a) = true
is_taken stage event = false

-- the node has the client waiting still
abbrev pub leaves_waiting : Outcome → Bool
leaves_waiting outcomes.Early = true
leaves_waiting outcome = false

-- the node is done with the request
abbrev pub is_settled : Stage → Event → Bool
is_settled (stages.Waiting w) (events.Answered outcome) = not (leaves_waiting outcome)
is_settled stage event = false

-- what stands behind the request on its connection is no request: its content was not read, or was meant for the tunnel
abbrev pub must_close : RequestHead → Stage → Event → Bool
must_close head stages.Receiving event = true
must_close head stages.Collecting event = true
must_close head stages.Aiming event = true
must_close head stages.Opening event = true
must_close head stages.Routing event = head.has_upload
must_close head (stages.Passing contents.Coming) event = true
must_close head stage event = false

-- whether the node has said that the request has joined a fetch that another began, the last time that it took it
abbrev pub heard : Option Bool → Stage → Event → Option Bool
heard said (stages.Submitting s) (events.Accepted a) = Some a.has_joined
heard said stage event = said

abbrev pub said : Option Bool → Life → List Event → Option Bool
said so_far life [] = so_far
said so_far life (event ∷ rest) = said (heard so_far life.stage event) (turn_of life event).life rest

-- IN WHICH ORDER

-- how many of these are done behind the first of those
abbrev pub behind : (Command → Bool) → (Command → Bool) → List Command → ℕ
behind first is [] = 0
behind first is (command ∷ rest) = if first command then count_by is rest else behind first is rest

-- what the node has of a request: nothing; a submission that it has not said whether it takes; or one that it has taken, and not answered
pub data AtNode : Type 0 where
  Absent : AtNode
  Submitted : AtNode
  Queued : AtNode

-- what the node says
abbrev pub by_acceptance : Event → AtNode
by_acceptance (events.Accepted a) = Queued
by_acceptance (events.Declined has_one) = Absent
by_acceptance event = Submitted

abbrev pub by_answer : Event → AtNode
by_answer (events.Answered outcome) = if leaves_waiting outcome then Queued else Absent
by_answer event = Queued

abbrev pub node_says : AtNode → Event → AtNode
node_says Absent event = Absent
node_says Submitted event = by_acceptance event
node_says Queued event = by_answer event

-- what it is told
abbrev pub node_hears : AtNode → Command → AtNode
node_hears so_far (does.Submit mode) = Submitted
node_hears so_far does.Withdraw = Absent
node_hears so_far command = so_far

-- whether something is done in its turn: what was submitted is left alone until the node has said whether it takes it, but for the line in the log;
-- what it has taken is withdrawn, or has its answer given while it is collected; and all else is done where it has nothing
abbrev pub suits : AtNode → Command → Bool
suits Absent command = not (is_withdraw command) && not (is_stream command)
suits Submitted command = is_record command
suits Queued command = is_withdraw command || is_stream command

abbrev pub suit_all : AtNode → List Command → Bool
suit_all so_far [] = true
suit_all so_far (command ∷ rest) = suits so_far command && suit_all (node_hears so_far command) rest

abbrev pub node_after : AtNode → List Command → AtNode
node_after so_far [] = so_far
node_after so_far (command ∷ rest) = node_after (node_hears so_far command) rest

-- whether all that is done in a run is done in its turn
abbrev pub is_in_turn : AtNode → Life → List Event → Bool
is_in_turn so_far life [] = true
is_in_turn so_far life (event ∷ rest) =
    suit_all (node_says so_far event) (turn_of life event).commands && is_in_turn (node_after (node_says so_far event) (turn_of life event).commands) (turn_of life event).life rest

-- WHAT IS AWAITED

abbrev pub is_receiving : Stage → Bool
is_receiving stages.Receiving = true
is_receiving stage = false

abbrev pub is_collecting : Stage → Bool
is_collecting stages.Collecting = true
is_collecting stage = false

abbrev pub is_looking_up : Stage → Bool
is_looking_up (stages.LookingUp round) = true
is_looking_up stage = false

-- the node has not said whether it takes the request
abbrev pub is_submitted : Stage → Bool
is_submitted (stages.Submitting s) = true
is_submitted stages.Leaving = true
is_submitted stage = false

abbrev pub is_routing : Stage → Bool
is_routing stages.Routing = true
is_routing stage = false

-- a server has it that has not answered
abbrev pub is_at_server : Stage → Bool
is_at_server (stages.Passing content) = true
is_at_server (stages.Parting upload) = true
is_at_server stages.Breaking = true
is_at_server stages.BrokenOff = true
is_at_server stage = false

-- its content is coming of its client
abbrev pub is_to_come : Content → Bool
is_to_come contents.Coming = true
is_to_come contents.Read = false
is_to_come contents.Sent = false

abbrev pub is_uploading : Stage → Bool
is_uploading (stages.Passing content) = is_to_come content
is_uploading stage = false

-- not all of it was sent to its server
abbrev pub is_to_send : Content → Bool
is_to_send contents.Coming = true
is_to_send contents.Read = true
is_to_send contents.Sent = false

abbrev pub is_being_sent : Stage → Bool
is_being_sent (stages.Passing content) = is_to_send content
is_being_sent (stages.Parting upload) = not (is_all_sent upload)
is_being_sent stage = false

-- a server has it whose client has gone, or has broken its content
abbrev pub is_left_to_server : Stage → Bool
is_left_to_server (stages.Parting upload) = true
is_left_to_server stages.Breaking = true
is_left_to_server stages.BrokenOff = true
is_left_to_server stage = false

abbrev pub is_aiming : Stage → Bool
is_aiming stages.Aiming = true
is_aiming stage = false

abbrev pub is_opening : Stage → Bool
is_opening stages.Opening = true
is_opening stage = false

abbrev pub is_being_answered : Stage → Bool
is_being_answered stages.Giving = true
is_being_answered stages.Breaking = true
is_being_answered stage = false

-- an event that a request waits for at a stage, so that it is a step of its life
abbrev pub is_awaited : Stage → Event → Bool
is_awaited stage (events.Received head) = is_receiving stage
is_awaited stage (events.Collected how) = is_collecting stage
is_awaited stage (events.Found lookup) = is_looking_up stage
is_awaited stage (events.Accepted a) = is_submitted stage
is_awaited stage (events.Declined has_one) = is_submitted stage
is_awaited stage (events.Answered outcome) = is_waiting stage
is_awaited stage (events.Routed p) = is_routing stage
is_awaited stage (events.Passed how) = is_at_server stage
is_awaited stage events.Read = is_uploading stage
is_awaited stage events.Sent = is_being_sent stage
is_awaited stage events.UploadBroken = is_uploading stage
is_awaited stage events.Expired = is_left_to_server stage
is_awaited stage (events.Aimed t) = is_aiming stage
is_awaited stage (events.Tunnelled how) = is_opening stage
is_awaited stage events.Left = not (is_recorded stage)
is_awaited stage events.Finished = is_being_answered stage

-- what was asked is awaited
abbrev pub is_asked : Stage → Bool
is_asked stages.Collecting = true
is_asked (stages.LookingUp round) = true
is_asked (stages.Submitting s) = true
is_asked stages.Routing = true
is_asked stages.Aiming = true
is_asked stage = false

abbrev pub asked_in : Life → Event → ℕ
asked_in life event = count_by is_question (turn_of life event).commands

-- it has come, or the client has left
abbrev pub told_in : Life → Event → ℕ
told_in life event = one (is_asked life.stage && is_awaited life.stage event)

-- a server does something for the request that has not ended
abbrev pub is_open : Stage → Bool
is_open (stages.Passing content) = true
is_open (stages.Parting upload) = true
is_open stages.Breaking = true
is_open stages.BrokenOff = true
is_open stages.Opening = true
is_open stage = false

abbrev pub opened_in : Life → Event → ℕ
opened_in life event = count_by goes_out (turn_of life event).commands

-- it ends by itself, while its client is there
abbrev pub ends_itself : Stage → Event → Bool
ends_itself (stages.Passing content) (events.Passed how) = true
ends_itself stages.Opening (events.Tunnelled how) = true
ends_itself stage event = false

abbrev pub ended_in : Life → Event → ℕ
ended_in life event = one (ends_itself life.stage event)

-- WHAT WAS CHANGED

-- an unsafe request is passed on
abbrev pub passes_unsafe : RequestHead → Command → Bool
passes_unsafe head command = is_pass_on command && head.is_unsafe

abbrev pub sent_unsafe : Life → Event → ℕ
sent_unsafe life event = count_by (passes_unsafe life.head) (turn_of life event).commands

-- an unsafe request is at a server that has not answered it
abbrev pub pending_at : RequestHead → Stage → ℕ
pending_at head (stages.Passing content) = one head.is_unsafe
pending_at head (stages.Parting upload) = 1
pending_at head stages.Breaking = 1
pending_at head stages.BrokenOff = 1
pending_at head stage = 0

abbrev pub pending_unsafe : Life → ℕ
pending_unsafe life = pending_at life.head life.stage

-- it has changed nothing: so its server says, or, once its client has gone or has broken its content, says nothing within five seconds where it
-- has not got all of it
abbrev pub unchanged_at : RequestHead → Stage → Event → ℕ
unchanged_at head (stages.Passing content) (events.Passed how) = one (leaves_all how && head.is_unsafe)
unchanged_at head (stages.Parting upload) (events.Passed how) = one (leaves_unchanged upload how)
unchanged_at head (stages.Parting upload) events.Expired = one (not (is_all_sent upload))
unchanged_at head stages.Breaking (events.Passed how) = one (leaves_unchanged uploads.Broken how)
unchanged_at head stages.Breaking events.Expired = 1
unchanged_at head stages.BrokenOff (events.Passed how) = one (leaves_unchanged uploads.Broken how)
unchanged_at head stages.BrokenOff events.Expired = 1
unchanged_at head stage event = 0

abbrev pub unchanged_unsafe : Life → Event → ℕ
unchanged_unsafe life event = unchanged_at life.head life.stage event

abbrev pub taken_in : Life → Event → ℕ
taken_in life event = one (is_taken life.stage event)

abbrev pub settled_in : Life → Event → ℕ
settled_in life event = one (is_settled life.stage event)

abbrev pub awaited_in : Life → Event → ℕ
awaited_in life event = one (is_awaited life.stage event)
