-- The life of a request as a table: what comes and what is done, by what happens and how far the request has come.
use Rattle.std.specs.Prelude.{ℕ, List, [], ◌∷◌, ◌==◌, ◌&&◌, ◌||◌, not, Bool, true, false, Option, Some, None, if◌then◌else◌}
use Rattle.request_life.specs.declared.facts.Method.{Method}
use Rattle.request_life.specs.declared.facts.Method.TheVariants as methods
use Rattle.node_terms.specs.declared.mode.Mode.{Mode}
use Rattle.node_terms.specs.declared.mode.Mode.TheVariants.{Shared, Cached, Private}
use Rattle.fair_use.specs.declared.unanswered.Upload.{Upload}
use Rattle.fair_use.specs.declared.unanswered.Upload.TheVariants as uploads
use Rattle.fair_use.specs.Unanswered.{is_carried_out, may_have_changed}
use Rattle.request_life.specs.declared.facts.Target.{Target}
use Rattle.request_life.specs.declared.facts.Target.TheVariants as targets
use Rattle.request_life.specs.declared.facts.Choice.{Choice}
use Rattle.request_life.specs.declared.facts.Choice.TheVariants.{Ask, Refuse}
use Rattle.request_life.specs.declared.facts.RequestHead.{RequestHead}
use Rattle.request_life.specs.declared.facts.Lookup.{Lookup}
use Rattle.request_life.specs.declared.facts.Passage.{Passage}
use Rattle.request_life.specs.declared.facts.TunnelTarget.{TunnelTarget}
use Rattle.request_life.specs.declared.events.ContentEnd.{ContentEnd}
use Rattle.request_life.specs.declared.events.ContentEnd.TheVariants as ends
use Rattle.request_life.specs.declared.events.Acceptance.{Acceptance}
use Rattle.request_life.specs.declared.events.Fetched.{Fetched}
use Rattle.request_life.specs.declared.events.Failure.{Failure}
use Rattle.request_life.specs.declared.events.Outcome.{Outcome}
use Rattle.request_life.specs.declared.events.Outcome.TheVariants as outcomes
use Rattle.request_life.specs.declared.events.PassedHead.{PassedHead}
use Rattle.request_life.specs.declared.events.PassedEnd.{PassedEnd}
use Rattle.request_life.specs.declared.events.PassedEnd.TheVariants as passages
use Rattle.request_life.specs.declared.events.TunnelEnd.{TunnelEnd}
use Rattle.request_life.specs.declared.events.TunnelEnd.TheVariants as tunnels
use Rattle.request_life.specs.declared.events.Event.{Event}
use Rattle.request_life.specs.declared.events.Event.TheVariants as events
use Rattle.request_life.specs.declared.commands.Shape.{Shape}
use Rattle.request_life.specs.declared.commands.Shape.TheVariants.{Whole}
use Rattle.request_life.specs.declared.commands.Answer.{Answer}
use Rattle.request_life.specs.declared.commands.Answer.TheVariants as answers
use Rattle.request_life.specs.declared.commands.Changed.{Changed}
use Rattle.request_life.specs.declared.commands.Changed.TheVariants as takes
use Rattle.request_life.specs.declared.commands.Command.{Command}
use Rattle.request_life.specs.declared.commands.Command.TheVariants as does
use Rattle.request_life.specs.declared.commands.Commands.{Commands}
use Rattle.request_life.specs.declared.commands.Step.{Step}
use Rattle.request_life.specs.declared.stages.Round.{Round}
use Rattle.request_life.specs.declared.stages.Round.TheVariants.{First, Anew}
use Rattle.request_life.specs.declared.stages.Share.{Share}
use Rattle.request_life.specs.declared.stages.Share.TheVariants.{Began, Joined, Alone}
use Rattle.request_life.specs.declared.stages.Submission.{Submission}
use Rattle.request_life.specs.declared.stages.Wait.{Wait}
use Rattle.request_life.specs.declared.stages.Content.{Content}
use Rattle.request_life.specs.declared.stages.Content.TheVariants as contents
use Rattle.request_life.specs.declared.stages.Stage.{Stage}
use Rattle.request_life.specs.declared.stages.Stage.TheVariants as stages
use Rattle.request_life.specs.declared.stages.Life.{Life}

-- what comes then, and what is done, in this order
pub record Turn : Type 0 where
  pub life : Life
  pub commands : List Command

abbrev pub stay : RequestHead → Stage → Turn
stay head stage = record { life = record { head = head; stage = stage }; commands = [] }

abbrev pub goes : RequestHead → Stage → List Command → Turn
goes head stage commands = record { life = record { head = head; stage = stage }; commands = commands }

-- the commands of a step in their order
abbrev pub listed : Option Command → List Command → List Command
listed None rest = rest
listed (Some command) rest = command ∷ rest

abbrev pub list_of : Commands → List Command
list_of c = listed c.first (listed c.second [])

-- a step as the table has it
abbrev pub shown : Step → Turn
shown step = record { life = step.life; commands = list_of step.commands }

-- THE ANSWERS

abbrev pub give : Bool → Answer → Command
give is_last answer = does.Give (record { answer = answer; is_last = is_last })

abbrev pub gives : RequestHead → Answer → Turn
gives head answer = goes head stages.Giving (give head.is_last answer ∷ [])

-- a status of the proxy's own
abbrev pub own : RequestHead → ℕ → Turn
own head status = gives head (answers.Own status)

-- the same, and the connection ends, since what stands behind the request on it is no request
abbrev pub turn_down : RequestHead → ℕ → Turn
turn_down head status = goes head stages.Giving (give true (answers.Own status) ∷ [])

-- THE HEAD HAS COME

abbrev pub is_get : Method → Bool
is_get methods.Get = true
is_get method = false

abbrev pub is_head : Method → Bool
is_head methods.Head = true
is_head method = false

abbrev pub is_connect : Method → Bool
is_connect methods.Connect = true
is_connect method = false

-- whether the node may answer it
abbrev pub is_for_node : RequestHead → Bool
is_for_node head = is_get head.method || (is_head head.method && head.answers_heads)

abbrev pub opens_tunnel : RequestHead → Bool
opens_tunnel head = is_connect head.method && head.has_tunnels

abbrev pub begins : RequestHead → Turn
begins head =
    if is_for_node head then (
    if head.is_too_long then turn_down head 413
    else if head.has_content then goes head stages.Collecting (does.Collect ∷ [])
    else goes head (stages.LookingUp First) (does.LookUp ∷ []))
    else if opens_tunnel head then (
    if head.is_too_long then turn_down head 413 else goes head stages.Aiming (does.Aim ∷ []))
    else if head.has_passage then (
    if head.has_foreign_coding then turn_down head 501 else goes head stages.Routing (does.Route ∷ []))
    else turn_down head 501

abbrev pub received : RequestHead → RequestHead → Stage → Turn
received new head stages.Receiving = begins new
received new head stage = stay head stage

-- ITS CONTENT HAS ENDED THAT IS COLLECTED

abbrev pub collected_so : RequestHead → ContentEnd → Turn
collected_so head ends.Whole = goes head (stages.LookingUp First) (does.LookUp ∷ [])
collected_so head ends.TooLong = turn_down head 413
collected_so head ends.Broken = turn_down head 400

abbrev pub collected : RequestHead → ContentEnd → Stage → Turn
collected head how stages.Collecting = collected_so head how
collected head how stage = stay head stage

-- WHAT THE NODE IS ASKED IS FOUND

abbrev pub fault_of : Target → Option ℕ
fault_of targets.Url = None
fault_of targets.NotHttp = Some 400
fault_of targets.TooLong = Some 414
fault_of targets.NoMemory = Some 503

-- nothing is sent on for a request that has come back, or whose host may not be fetched from
abbrev pub bar_of : Bool → Bool → Option ℕ
bar_of has_come_back is_barred = if has_come_back then Some 508 else if is_barred then Some 403 else None

abbrev pub is_shared : Mode → Bool
is_shared Shared = true
is_shared mode = false

abbrev pub is_cached : Mode → Bool
is_cached Cached = true
is_cached mode = false

abbrev pub is_private : Mode → Bool
is_private Private = true
is_private mode = false

-- whether it is passed on though its method is for the node: a GET whose answer is known to be too long, and which nothing stored answers;
-- a HEAD that nothing stored answers
abbrev pub goes_beside : RequestHead → Lookup → Choice → Bool
goes_beside head found (Ask mode) =
    is_get head.method && found.is_long && (is_private mode || (is_shared mode && not found.is_stored))
goes_beside head found (Refuse status) = is_head head.method && head.has_passage && (status == 501)

-- the way a request is submitted: alone where what it would join was changed
abbrev pub beside : Bool → Mode → Mode
beside is_overtaken Shared = if is_overtaken then Private else Shared
beside is_overtaken mode = mode

abbrev pub submits : RequestHead → Round → Bool → Mode → Turn
submits head round is_second mode =
    goes head (stages.Submitting (record { mode = mode; round = round; is_second = is_second })) (does.Submit mode ∷ [])

-- the third for a part has the whole fetched for all
abbrev pub submits_part : RequestHead → Round → Turn
submits_part head round =
    goes head (stages.Submitting (record { mode = Private; round = round; is_second = false })) (does.FetchForAll ∷ does.Submit Private ∷ [])

abbrev pub asks : RequestHead → Lookup → Round → Mode → Turn
asks head found round mode =
    if is_private mode && (not found.is_stored && found.is_third_part) then submits_part head round
    else submits head round false (beside found.is_overtaken mode)

abbrev pub unless_barred : RequestHead → Option ℕ → Turn → Turn
unless_barred head None turn = turn
unless_barred head (Some status) turn = own head status

-- what is fetched for it alone has its fields, if they can be sent on. Where they can't, nothing is fetched for all either: the program has the whole
-- fetched for the third for a part before it looks
abbrev pub chosen : RequestHead → Lookup → Round → Choice → Turn
chosen head found round (Ask mode) =
    if is_private (beside found.is_overtaken mode) && head.has_many_options then own head 400
    else unless_barred head (bar_of found.has_come_back found.is_barred) (asks head found round mode)
chosen head found round (Refuse status) =
    if found.has_accepted_stale then unless_barred head (bar_of found.has_come_back found.is_barred) (gives head answers.Stale)
    else own head status

abbrev pub is_first : Round → Bool
is_first First = true
is_first Anew = false

-- once it is handed in anew, it goes to the node
abbrev pub found_under : RequestHead → Lookup → Round → Option ℕ → Turn
found_under head found round (Some status) = own head status
found_under head found round None =
    if is_first round && goes_beside head found found.choice then goes head stages.Routing (does.Route ∷ [])
    else chosen head found round found.choice

abbrev pub found : RequestHead → Lookup → Stage → Turn
found head lookup (stages.LookingUp round) = found_under head lookup round (fault_of lookup.target)
found head lookup stage = stay head stage

-- THE NODE HAS TAKEN IT, OR NOT

-- a private fetch is joined by nobody; one of which the node says so counts as another's for all that
abbrev pub share_of : Bool → Mode → Share
share_of has_joined mode = if has_joined then Joined else if is_private mode then Alone else Began

-- whether it may be given what is stale, by its mode and its marks: others count on an answer that has come by its origin
abbrev pub takes_stale : RequestHead → Mode → Bool
takes_stale head mode = is_shared mode && not head.has_loop_marks

abbrev pub waits : Submission → Bool → Stage
waits s has_joined =
    stages.Waiting (record { mode = s.mode; share = share_of has_joined s.mode; round = s.round; is_second = s.is_second })

-- whether it is better fetched for alone than by the fetch that it has joined, whose answer can't be stored as the last one of that URL was not
abbrev pub stands_apart : Acceptance → Submission → Bool
stands_apart a s = (is_shared s.mode && not s.is_second) && (a.has_joined && a.is_kept_out)

abbrev pub submits_alone : RequestHead → Round → Turn
submits_alone head round =
    goes head (stages.Submitting (record { mode = Private; round = round; is_second = true })) (does.Withdraw ∷ does.Submit Private ∷ [])

abbrev pub taken : RequestHead → Acceptance → Submission → Turn
taken head a s =
    if takes_stale head s.mode && a.has_stale
    then goes head stages.Giving (does.Withdraw ∷ give head.is_last answers.Stale ∷ [])
    else if stands_apart a s then (
    if head.has_many_options then goes head stages.Giving (does.Withdraw ∷ give head.is_last (answers.Own 400) ∷ [])
    else submits_alone head s.round)
    else if takes_stale head s.mode && (not a.has_joined && head.is_streamed)
    then goes head (waits s a.has_joined) (does.Stream ∷ [])
    else goes head (waits s a.has_joined) []

abbrev pub accepted : RequestHead → Acceptance → Stage → Turn
accepted head a (stages.Submitting s) = taken head a s
accepted head a stages.Leaving = goes head stages.Left (does.Withdraw ∷ [])
accepted head a stage = stay head stage

-- refused for want of room, it may be given what is stale
abbrev pub declined_so : RequestHead → Bool → Submission → Turn
declined_so head has_stale s = if takes_stale head s.mode && has_stale then gives head answers.Stale else own head 503

abbrev pub declined : RequestHead → Bool → Stage → Turn
declined head has_stale (stages.Submitting s) = declined_so head has_stale s
declined head has_stale stages.Leaving = goes head stages.Left []
declined head has_stale stage = stay head stage

-- THE NODE ANSWERS

-- it is asked once again in this round, for this request alone; never for one that is to be answered from the store alone
abbrev pub again : RequestHead → Wait → Turn
again head w =
    if w.is_second then own head 503 else if is_cached w.mode then own head 504
    else if head.has_many_options then own head 400 else submits head w.round true Private

-- handed in anew, once: its fetch was ended for want of clients, and this one is there
abbrev pub anew : RequestHead → Wait → Turn
anew head w =
    if is_first w.round && not w.is_second then goes head (stages.LookingUp Anew) (does.LookUp ∷ []) else own head 502

abbrev pub has_joined : Share → Bool
has_joined Joined = true
has_joined share = false

abbrev pub is_alone : Share → Bool
is_alone Alone = true
is_alone share = false

abbrev pub has_begun : Share → Bool
has_begun Began = true
has_begun share = false

-- whether the answer is for the one alone that began its fetch (RFC 9111, section 3)
abbrev pub is_for_another : Share → Fetched → Bool
is_for_another share f = has_joined share && (not f.is_kept && not f.is_stale)

-- an answer to a request that its server has answered itself is whole
abbrev pub shape_for : Share → Shape → Shape
shape_for share shape = if is_alone share then Whole else shape

abbrev pub failed : RequestHead → Wait → Failure → Turn
failed head w f =
    if (f.status == 502) && (f.is_long && not (is_cached w.mode)) then goes head stages.Routing (does.Route ∷ [])
    else own head f.status

abbrev pub answered_so : RequestHead → Wait → Outcome → Turn
answered_so head w (outcomes.Hit hit) = if hit.is_accepted then gives head (answers.Hit hit.shape) else again head w
answered_so head w (outcomes.Fetched f) =
    if is_for_another w.share f then again head w else gives head (answers.Fetched (shape_for w.share f.shape))
answered_so head w outcomes.Early =
    if has_begun w.share then goes head stages.Giving (does.Withdraw ∷ give head.is_last answers.Early ∷ [])
    else goes head stages.Giving (does.Withdraw ∷ give head.is_last (answers.Own 503) ∷ [])
answered_so head w (outcomes.Failed f) = failed head w f
answered_so head w outcomes.Again = anew head w
answered_so head w outcomes.Lost = if is_first w.round then own head 503 else own head 502

abbrev pub answered : RequestHead → Outcome → Stage → Turn
answered head outcome (stages.Waiting w) = answered_so head w outcome
answered head outcome stage = stay head stage

-- WHERE IT IS PASSED ON TO IS FOUND

abbrev pub first_of : Option ℕ → Option ℕ → Option ℕ
first_of (Some status) rest = Some status
first_of None rest = rest

abbrev pub passage_fault : Passage → Option ℕ
passage_fault p =
    first_of (fault_of p.target) (first_of (bar_of p.has_come_back p.is_barred) (
    if p.is_last_recipient then Some 501 else if p.has_many_options then Some 400 else if p.has_room then None else Some 503))

abbrev pub content_of : RequestHead → Content
content_of head = if head.has_upload then contents.Coming else contents.Read

-- where it is not passed on, its content is not read, and is no request
abbrev pub routed_by : RequestHead → Option ℕ → Turn
routed_by head (Some status) = goes head stages.Giving (give (head.is_last || head.has_upload) (answers.Own status) ∷ [])
routed_by head None = goes head (stages.Passing (content_of head)) (does.PassOn ∷ [])

abbrev pub routed : RequestHead → Passage → Stage → Turn
routed head p stages.Routing = routed_by head (passage_fault p)
routed head p stage = stay head stage

-- ITS SERVER ANSWERS

-- whether nobody knows after a status: the server that was asked has lost the one behind it
abbrev pub leaves_open : ℕ → Bool
leaves_open status = (status == 502) || (status == 504)

-- whether nobody knows after a head what its request has changed, also since its answer can't be given on, and is 502
abbrev pub is_unclear : PassedHead → Bool
is_unclear p = p.has_many_options || leaves_open p.status

abbrev pub answer_of : PassedHead → Answer
answer_of p = if p.has_many_options then answers.Own 502 else answers.Passed

-- whether the connection ends with an answer: always where not all of its content has come, since the rest of that is no request
abbrev pub ends_connection : RequestHead → Content → Bool
ends_connection head contents.Coming = true
ends_connection head content = head.is_last

abbrev pub gives_passed : RequestHead → Content → Answer → Turn
gives_passed head content answer = goes head stages.Giving (give (ends_connection head content) answer ∷ [])

-- a request whose client is there: it has changed what it may where its answer is 2xx or 3xx (RFC 9111, section 4.4)
abbrev pub passed_head : RequestHead → Content → PassedHead → Turn
passed_head head content p =
    if head.is_unsafe && is_carried_out p.status
    then goes head stages.Giving (does.TakeOut takes.ByAnswer ∷ give (ends_connection head content) (answer_of p) ∷ [])
    else if head.is_unsafe && is_unclear p
    then goes head stages.Giving (does.TakeOut takes.Target ∷ give (ends_connection head content) (answer_of p) ∷ [])
    else gives_passed head content (answer_of p)

-- the server may have carried the request out
abbrev pub unanswered : RequestHead → Content → ℕ → Turn
unanswered head content status =
    if head.is_unsafe
    then goes head stages.Giving (does.TakeOut takes.Target ∷ give (ends_connection head content) (answers.Own status) ∷ [])
    else gives_passed head content (answers.Own status)

abbrev pub passed_so : RequestHead → Content → PassedEnd → Turn
passed_so head content (passages.Head p) = passed_head head content p
passed_so head content passages.Refused = gives_passed head content (answers.Own 403)
passed_so head content passages.TimedOut = unanswered head content 504
passed_so head content passages.Failed = unanswered head content 502

-- ITS CLIENT HAS GONE, OR HAS BROKEN ITS CONTENT, BEFORE ITS SERVER HAS ANSWERED

-- what was passed on ends, and what it may have changed is taken out
abbrev pub settles : RequestHead → Stage → Bool → Changed → Turn
settles head stage has_changed changed =
    if has_changed then goes head stage (does.Cancel ∷ does.TakeOut changed ∷ []) else goes head stage (does.Cancel ∷ [])

-- by what its server says, or without a word of it; a server that was not connected to has changed nothing
abbrev pub parted : RequestHead → Stage → Upload → PassedEnd → Turn
parted head stage upload (passages.Head p) = settles head stage (may_have_changed upload (Some p.status)) takes.ByAnswer
parted head stage upload passages.Refused = settles head stage false takes.Target
parted head stage upload passages.TimedOut = settles head stage (may_have_changed upload None) takes.Target
parted head stage upload passages.Failed = settles head stage (may_have_changed upload None) takes.Target

abbrev pub passed : RequestHead → PassedEnd → Stage → Turn
passed head how (stages.Passing content) = passed_so head content how
passed head how (stages.Parting upload) = parted head stages.Left upload how
passed head how stages.Breaking = parted head stages.Giving uploads.Broken how
passed head how stages.BrokenOff = parted head stages.Ended uploads.Broken how
passed head how stage = stay head stage

-- five seconds after its client has gone
abbrev pub expired : RequestHead → Stage → Turn
expired head (stages.Parting upload) = settles head stages.Left (may_have_changed upload None) takes.Target
expired head stages.Breaking = settles head stages.Giving (may_have_changed uploads.Broken None) takes.Target
expired head stages.BrokenOff = settles head stages.Ended (may_have_changed uploads.Broken None) takes.Target
expired head stage = stay head stage

-- how much of it was sent to its server
abbrev pub upload_of : Content → Upload
upload_of contents.Sent = uploads.Whole
upload_of content = uploads.Broken

abbrev pub read : RequestHead → Stage → Turn
read head (stages.Passing contents.Coming) = stay head (stages.Passing contents.Read)
read head stage = stay head stage

abbrev pub sent : RequestHead → Stage → Turn
sent head (stages.Passing content) = stay head (stages.Passing contents.Sent)
sent head (stages.Parting upload) = stay head (stages.Parting uploads.Whole)
sent head stage = stay head stage

abbrev pub breaks_off : RequestHead → Turn
breaks_off head =
    if head.is_unsafe then goes head stages.Breaking (give true (answers.Own 400) ∷ [])
    else goes head stages.Giving (does.Cancel ∷ give true (answers.Own 400) ∷ [])

abbrev pub upload_broken : RequestHead → Stage → Turn
upload_broken head (stages.Passing contents.Coming) = breaks_off head
upload_broken head stage = stay head stage

-- TUNNELS

abbrev pub tunnel_fault : TunnelTarget → Option ℕ
tunnel_fault t =
    if not t.is_authority then Some 400 else if not t.is_port_allowed then Some 403
    else first_of (bar_of t.has_come_back t.is_barred) (if t.has_room then None else Some 503)

abbrev pub aimed_by : RequestHead → Option ℕ → Turn
aimed_by head (Some status) = turn_down head status
aimed_by head None = goes head stages.Opening (does.OpenTunnel ∷ [])

abbrev pub aimed : RequestHead → TunnelTarget → Stage → Turn
aimed head t stages.Aiming = aimed_by head (tunnel_fault t)
aimed head t stage = stay head stage

abbrev pub tunnelled_so : RequestHead → TunnelEnd → Turn
tunnelled_so head tunnels.Opened = gives head answers.Tunnel
tunnelled_so head (tunnels.Refused status) = turn_down head status

abbrev pub tunnelled : RequestHead → TunnelEnd → Stage → Turn
tunnelled head how stages.Opening = tunnelled_so head how
tunnelled head how stage = stay head stage

-- ITS CLIENT HAS LEFT, OR ITS ANSWER IS OVER

abbrev pub departs : RequestHead → List Command → Turn
departs head commands = goes head stages.Left commands

abbrev pub leaves_passing : RequestHead → Content → Turn
leaves_passing head content =
    if head.is_unsafe then goes head (stages.Parting (upload_of content)) (does.Record ∷ []) else departs head (does.Cancel ∷ does.Record ∷ [])

abbrev pub left : RequestHead → Stage → Turn
left head (stages.Submitting s) = goes head stages.Leaving (does.Record ∷ [])
left head (stages.Waiting w) = departs head (does.Withdraw ∷ does.Record ∷ [])
left head (stages.Passing content) = leaves_passing head content
left head stages.Breaking = goes head stages.BrokenOff (does.Record ∷ [])
left head stages.Opening = departs head (does.Cancel ∷ does.Record ∷ [])
left head stages.Giving = goes head stages.Ended (does.Record ∷ [])
left head stages.Leaving = stay head stages.Leaving
left head (stages.Parting upload) = stay head (stages.Parting upload)
left head stages.BrokenOff = stay head stages.BrokenOff
left head stages.Ended = stay head stages.Ended
left head stages.Left = stay head stages.Left
left head stages.Receiving = departs head (does.Record ∷ [])
left head stages.Collecting = departs head (does.Record ∷ [])
left head (stages.LookingUp round) = departs head (does.Record ∷ [])
left head stages.Routing = departs head (does.Record ∷ [])
left head stages.Aiming = departs head (does.Record ∷ [])

abbrev pub finished : RequestHead → Stage → Turn
finished head stages.Giving = goes head stages.Ended (does.Record ∷ [])
finished head stages.Breaking = goes head stages.BrokenOff (does.Record ∷ [])
finished head stage = stay head stage

-- THE TABLE

abbrev pub turn : RequestHead → Stage → Event → Turn
turn head stage (events.Received new) = received new head stage
turn head stage (events.Collected how) = collected head how stage
turn head stage (events.Found lookup) = found head lookup stage
turn head stage (events.Accepted a) = accepted head a stage
turn head stage (events.Declined has_stale) = declined head has_stale stage
turn head stage (events.Answered outcome) = answered head outcome stage
turn head stage (events.Routed p) = routed head p stage
turn head stage (events.Passed how) = passed head how stage
turn head stage events.Read = read head stage
turn head stage events.Sent = sent head stage
turn head stage events.UploadBroken = upload_broken head stage
turn head stage events.Expired = expired head stage
turn head stage (events.Aimed t) = aimed head t stage
turn head stage (events.Tunnelled how) = tunnelled head how stage
turn head stage events.Left = left head stage
turn head stage events.Finished = finished head stage
