-- The words of the laws: what commands, events and stages are.
use Rattle.std.specs.Prelude.{◌≡◌, ℕ, ◌+◌, List, [], ◌∷◌, ◌&&◌, ◌||◌, ◌==◌, nat_le, nat_lt, not, Bool, true, false, Option, Some}
use Rattle.fetch_life.specs.declared.facts.Order.{Order}
use Rattle.fetch_life.specs.declared.facts.Addresses.{Addresses}
use Rattle.fetch_life.specs.declared.facts.Fault.{Fault}
use Rattle.fetch_life.specs.declared.facts.Fault.TheVariants as faults
use Rattle.fetch_life.specs.declared.facts.Page.{Page}
use Rattle.fetch_life.specs.declared.facts.Source.{Source}
use Rattle.fetch_life.specs.declared.facts.Source.TheVariants.{Origin, Parent, Sibling}
use Rattle.fetch_life.specs.declared.commands.Count.{Count}
use Rattle.fetch_life.specs.declared.commands.Count.TheVariants as counts
use Rattle.fetch_life.specs.declared.commands.Which.{Which}
use Rattle.fetch_life.specs.declared.commands.Which.TheVariants.{First, Other}
use Rattle.fetch_life.specs.declared.commands.Supplier.{Supplier}
use Rattle.fetch_life.specs.declared.commands.Supplier.TheVariants as suppliers
use Rattle.fetch_life.specs.declared.commands.Brought.{Brought}
use Rattle.fetch_life.specs.declared.commands.Brought.TheVariants.{Object, Nothing, Unwanted}
use Rattle.fetch_life.specs.declared.commands.Command.{Command}
use Rattle.fetch_life.specs.declared.commands.Command.TheVariants as does
use Rattle.fetch_life.specs.declared.events.Event.{Event}
use Rattle.fetch_life.specs.declared.events.Event.TheVariants as events
use Rattle.fetch_life.specs.declared.stages.Fetch.{Fetch}
use Rattle.fetch_life.specs.declared.stages.Flight.{Flight}
use Rattle.fetch_life.specs.declared.stages.Stage.{Stage}
use Rattle.fetch_life.specs.declared.stages.Stage.TheVariants as stages
use Rattle.fetch_life.specs.Runs.{turn_of}

abbrev pub one : Bool → ℕ
one true = 1
one false = 0

-- WHAT COMES

abbrev pub is_from_origin : Source → Bool
is_from_origin Origin = true
is_from_origin Parent = false
is_from_origin Sibling = false

-- in whose place something stale may be given (RFC 5861, section 4)
abbrev pub is_server_error : ℕ → Bool
is_server_error status = (status == 500) || ((status == 502) || ((status == 503) || (status == 504)))

-- the origin could not be reached, or what it says not be read
abbrev pub is_outage : Fault → Bool
is_outage faults.Lookup = true
is_outage faults.Connect = true
is_outage faults.Request = false
is_outage faults.Cut = true
is_outage faults.NotHttp = true
is_outage faults.LargeHead = true
is_outage faults.TooLarge = false
is_outage faults.Time = true
is_outage faults.Room = true
is_outage faults.Slow = true
is_outage faults.Cancelled = false
is_outage faults.NoMemory = false
is_outage faults.NoFile = true

-- the origin was reached, and has not answered as it should
abbrev pub is_bad_answer : Fault → Bool
is_bad_answer faults.Lookup = false
is_bad_answer faults.Connect = false
is_bad_answer faults.Request = false
is_bad_answer faults.Cut = true
is_bad_answer faults.NotHttp = true
is_bad_answer faults.LargeHead = true
is_bad_answer faults.TooLarge = false
is_bad_answer faults.Time = true
is_bad_answer faults.Room = true
is_bad_answer faults.Slow = true
is_bad_answer faults.Cancelled = false
is_bad_answer faults.NoMemory = false
is_bad_answer faults.NoFile = false

-- a status that says that what was there is there no longer as it was: 2xx, or 3xx but for 304, or 404 or 410
abbrev pub says_new : ℕ → Bool
says_new status = (nat_le 200 status && (nat_lt status 400 && not (status == 304))) || ((status == 404) || (status == 410))

-- whether it may be stored for all (RFC 9111, section 3): it is an answer of status 200, or confirms one, and its rules are seen and allow it
abbrev pub may_be_stored : Page → Bool
may_be_stored p = p.may_keep && (not p.hides_rules && ((p.status == 200) || ((p.status == 304) && p.is_about)))

-- a client's reload of what is there has found something else: another answer that could be stored, or other rules for it
abbrev pub finds_other : Page → Bool
finds_other p = ((p.status == 200) && p.could_be_kept) || ((p.status == 304) && p.has_other_rules)

-- COMMANDS

abbrev pub is_kept_object : Brought → Bool
is_kept_object (Object o) = o.is_kept
is_kept_object Nothing = false
is_kept_object Unwanted = false

abbrev pub is_confirmed_one : Supplier → Bool
is_confirmed_one suppliers.Confirmed = true
is_confirmed_one supplier = false

abbrev pub is_stale_one : Supplier → Bool
is_stale_one suppliers.Stale = true
is_stale_one supplier = false

abbrev pub comes_from : (Supplier → Bool) → Brought → Bool
comes_from is (Object o) = is o.supplier
comes_from is Nothing = false
comes_from is Unwanted = false

-- nothing, for want of clients
abbrev pub is_unwanted_one : Brought → Bool
is_unwanted_one Unwanted = true
is_unwanted_one b = false

-- hands in something such
abbrev pub hands : (Brought → Bool) → Command → Bool
hands is (does.HandIn b) = is b
hands is command = false

abbrev pub is_hand_in : Command → Bool
is_hand_in (does.HandIn b) = true
is_hand_in command = false

abbrev pub is_count : Command → Bool
is_count (does.Count how) = true
is_count command = false

-- counts an end so
abbrev pub counts_as : (Count → Bool) → Command → Bool
counts_as is (does.Count how) = is how
counts_as is command = false

abbrev pub is_success : Count → Bool
is_success counts.Whole = true
is_success how = false

abbrev pub is_refusal : Count → Bool
is_refusal counts.Refused = true
is_refusal how = false

abbrev pub is_failure : Count → Bool
is_failure counts.Failed = true
is_failure how = false

abbrev pub is_want : Count → Bool
is_want counts.Unwanted = true
is_want how = false

-- what was made last
abbrev pub made_by : Option Brought → Command → Option Brought
made_by so_far (does.Make b) = Some b
made_by so_far command = so_far

abbrev pub made : Option Brought → List Command → Option Brought
made so_far [] = so_far
made so_far (command ∷ rest) = made (made_by so_far command) rest

-- hands in nothing but that
abbrev pub FitsMade : Option Brought → Command → Type 0
FitsMade last (does.HandIn b) = last ≡ Some b
FitsMade last command = Unit {0}

abbrev pub is_object_one : Brought → Bool
is_object_one (Object o) = true
is_object_one b = false

-- a supplier that is not the source that was asked
abbrev pub is_misnamed : Source → Supplier → Bool
is_misnamed Origin suppliers.Neighbour = true
is_misnamed Parent suppliers.Origin = true
is_misnamed Sibling suppliers.Origin = true
is_misnamed source supplier = false

-- asks something whose answer is awaited then
abbrev pub is_question : Command → Bool
is_question does.Renew = true
is_question does.Seek = true
is_question (does.Connect which) = true
is_question (does.Send request) = true
is_question does.Lock = true
is_question command = false

abbrev pub is_any : Command → Bool
is_any command = true

abbrev pub is_shelve : Command → Bool
is_shelve does.Shelve = true
is_shelve command = false

-- has something stored or shelved
abbrev pub keeps : Command → Bool
keeps (does.HandIn b) = is_kept_object b
keeps does.Shelve = true
keeps command = false

abbrev pub is_unshelve : Command → Bool
is_unshelve does.Unshelve = true
is_unshelve command = false

abbrev pub is_ask_no_more : Command → Bool
is_ask_no_more does.AskNoMore = true
is_ask_no_more command = false

abbrev pub is_note_changed : Command → Bool
is_note_changed does.NoteChanged = true
is_note_changed command = false

-- changes what is on the shelf
abbrev pub is_on_shelf : Command → Bool
is_on_shelf does.Shelve = true
is_on_shelf does.Unshelve = true
is_on_shelf command = false

abbrev pub is_send : Command → Bool
is_send (does.Send request) = true
is_send command = false

abbrev pub is_lock : Command → Bool
is_lock does.Lock = true
is_lock command = false

abbrev pub is_make : Command → Bool
is_make (does.Make b) = true
is_make command = false

abbrev pub is_first : Which → Bool
is_first First = true
is_first Other = false

abbrev pub is_other : Which → Bool
is_other First = false
is_other Other = true

-- has something kept, or given as confirmed
abbrev pub keeps_or_confirms : Command → Bool
keeps_or_confirms command = keeps command || hands (comes_from is_confirmed_one) command

-- has to do with an address of the server
abbrev pub goes_to : (Which → Bool) → Command → Bool
goes_to is (does.Connect which) = is which
goes_to is (does.Reuse which) = is which
goes_to is command = false

abbrev pub is_either : Which → Bool
is_either which = true

-- the other one
abbrev pub is_beside : Which → Which → Bool
is_beside First which = is_other which
is_beside Other which = is_first which

-- connects to a server, or sends it the request
abbrev pub tries : Command → Bool
tries (does.Connect which) = true
tries (does.Reuse which) = true
tries (does.Send request) = true
tries command = false

abbrev pub is_offer : Command → Bool
is_offer does.Offer = true
is_offer command = false

-- sends fields of a client, other than the marks of loops
abbrev pub sends_clients : Command → Bool
sends_clients (does.Send request) = request.has_clients || request.has_codings
sends_clients command = false

abbrev pub sends_conditions : Command → Bool
sends_conditions (does.Send request) = request.has_conditions
sends_conditions command = false

abbrev pub same : Bool → Bool → Bool
same true b = b
same false b = not b

-- whether only what is stored is asked for
abbrev pub is_asked_for_stored : Source → Bool
is_asked_for_stored Sibling = true
is_asked_for_stored Origin = false
is_asked_for_stored Parent = false

-- sends another than a sibling `only-if-cached`, or a sibling none; or a fetch for all without the marks of its clients' loops
abbrev pub sends_unlike : Flight → Command → Bool
sends_unlike f (does.Send request) =
    not (same request.has_only_if_cached (is_asked_for_stored f.source) && same request.has_loop_marks f.is_shared)
sends_unlike f command = false

-- sends a client's fields in a fetch for all, or leaves them out in one for that client alone; or the fields of all fetches for all likewise
abbrev pub sends_others : Flight → Command → Bool
sends_others f (does.Send request) = not (same request.has_clients (not f.is_shared) && same request.has_shared f.is_shared)
sends_others f command = false

-- sends a client's Accept-Encoding beside the conditions of this cache
abbrev pub sends_both : Command → Bool
sends_both (does.Send request) = request.has_codings && request.has_conditions
sends_both command = false

-- leaves out what the client that owns the fetch says of codings, without conditions of this cache
abbrev pub leaves_out_codings : Flight → Command → Bool
leaves_out_codings f (does.Send request) = not f.is_shared && (not request.has_codings && not request.has_conditions)
leaves_out_codings f command = false

-- sends the conditions of what is there, or leaves them out, otherwise than was ordered
abbrev pub sends_unasked : Flight → Command → Bool
sends_unasked f (does.Send request) = not (same request.has_conditions f.is_asking)
sends_unasked f command = false

-- THE ORDER OF COMMANDS

-- how far a result is: it is not made, or is made, or is under the lock of changes, or was handed in
pub data Making : Type 0 where
  Unmade : Making
  Ready : Making
  Guarded : Making
  Delivered : Making

-- what a command makes of that
abbrev pub made_of : Making → Command → Making
made_of so_far (does.Make b) = Ready
made_of so_far does.Lock = Guarded
made_of so_far (does.HandIn b) = Delivered
made_of so_far command = so_far

-- is done under the lock of changes alone, once the result is made: the shelf is changed, notes are taken, or an object is handed in
abbrev pub needs_lock : Command → Bool
needs_lock does.Shelve = true
needs_lock does.Unshelve = true
needs_lock does.AskNoMore = true
needs_lock does.NoteChanged = true
needs_lock (does.HandIn b) = is_object_one b
needs_lock command = false

-- whether a command may be done while a result is so far. Once it is made nothing but the lock is taken; under the lock it is made anew, or handed in,
-- before which alone the shelf is changed; and once it was handed in nothing more is done
abbrev pub is_its_turn : Making → Command → Bool
is_its_turn Unmade command = not (needs_lock command) && not (is_lock command)
is_its_turn Ready command = is_lock command
is_its_turn Guarded command = is_hand_in command || (is_make command || needs_lock command)
is_its_turn Delivered command = false

abbrev pub is_in_order : Making → List Command → Bool
is_in_order so_far [] = true
is_in_order so_far (command ∷ rest) = is_its_turn so_far command && is_in_order (made_of so_far command) rest

-- how far it is with its server: apart from it, connecting, connected, or asking
pub data Touch : Type 0 where
  Apart : Touch
  Reaching : Touch
  Linked : Touch
  Asking : Touch

-- what an event tells of that
abbrev pub by_connection : Event → Touch
by_connection events.Connected = Linked
by_connection (events.Failed x) = Apart
by_connection event = Reaching

abbrev pub by_exchange : Event → Touch
by_exchange (events.Failed x) = Apart
by_exchange event = Asking

abbrev pub is_told_of : Touch → Event → Touch
is_told_of Apart event = Apart
is_told_of Reaching event = by_connection event
is_told_of Linked event = Linked
is_told_of Asking event = by_exchange event

-- what a command makes of it: once a result is made or handed in, or it is begun anew, it is apart
abbrev pub is_left_at : Touch → Command → Touch
is_left_at so_far (does.Connect which) = Reaching
is_left_at so_far (does.Reuse which) = Linked
is_left_at so_far (does.Send request) = Asking
is_left_at so_far (does.Make b) = Apart
is_left_at so_far (does.HandIn b) = Apart
is_left_at so_far does.Renew = Apart
is_left_at so_far command = so_far

-- whether a command may be done there: it is connected to a server, or takes a connection that was kept, where it is apart from any; it sends its
-- request over a connection, once; and its answer is offered where it has sent it
abbrev pub is_in_touch : Touch → Command → Bool
is_in_touch Apart command = not (is_send command) && not (is_offer command)
is_in_touch Reaching command = not (tries command) && not (is_offer command)
is_in_touch Linked command = is_send command
is_in_touch Asking command = not (tries command)

abbrev pub are_in_touch : Touch → List Command → Bool
are_in_touch so_far [] = true
are_in_touch so_far (command ∷ rest) = is_in_touch so_far command && are_in_touch (is_left_at so_far command) rest

abbrev pub touch_after : Touch → List Command → Touch
touch_after so_far [] = so_far
touch_after so_far (command ∷ rest) = touch_after (is_left_at so_far command) rest

-- whether all that is done in a run is done there
abbrev pub keeps_in_touch : Touch → Fetch → List Event → Bool
keeps_in_touch so_far fetch [] = true
keeps_in_touch so_far fetch (event ∷ rest) =
    are_in_touch (is_told_of so_far event) (turn_of fetch event).commands && keeps_in_touch (touch_after (is_told_of so_far event) (turn_of fetch event).commands) (turn_of fetch event).fetch rest

-- EVENTS

-- a complete answer has come
abbrev pub is_answer : Event → Bool
is_answer (events.Whole p) = true
is_answer event = false

abbrev pub is_fault : Event → Bool
is_fault (events.Failed x) = true
is_fault event = false

-- no address of an origin is admitted
abbrev pub is_denial : Event → Bool
is_denial (events.Addressed a) = not a.is_first_admitted && not (a.has_other && a.is_other_admitted)
is_denial event = false

-- nobody waits for it
abbrev pub is_desertion : Event → Bool
is_desertion (events.Unwanted is_awaited) = not is_awaited
is_desertion (events.Ordered o) = o.is_shared && o.is_unwanted
is_desertion event = false

abbrev pub is_cut_off : Fault → Bool
is_cut_off faults.Cut = true
is_cut_off fault = false

abbrev pub is_unreached : Fault → Bool
is_unreached faults.Connect = true
is_unreached fault = false

-- its connection has ended before an octet of an answer came
abbrev pub is_cut_short : Event → Bool
is_cut_short (events.Failed x) = is_cut_off x.fault && not x.has_answer
is_cut_short event = false

-- its server was not connected to
abbrev pub is_unconnected : Event → Bool
is_unconnected (events.Failed x) = is_unreached x.fault
is_unconnected event = false

-- whether an address may be connected to: a neighbour's may
abbrev pub has_way : Flight → Addresses → Bool
has_way f a = not (is_from_origin f.source) || (a.is_first_admitted || (a.has_other && a.is_other_admitted))

abbrev pub is_too_long : Fault → Bool
is_too_long faults.TooLarge = true
is_too_long fault = false

-- an event that does not tell that the origin has something else: no answer, and none that is too long
abbrev pub is_not_telling : Event → Bool
is_not_telling (events.Whole p) = false
is_not_telling (events.Failed x) = not (is_too_long x.fault)
is_not_telling event = true

-- an event by which nothing may be stored: no complete answer that may
abbrev pub lets_keep_nothing : Event → Bool
lets_keep_nothing (events.Whole p) = not (may_be_stored p)
lets_keep_nothing event = true

-- an event that is no order of a fetch for all
abbrev pub is_not_for_all : Event → Bool
is_not_for_all (events.Ordered o) = not o.is_shared
is_not_for_all event = true

abbrev pub is_not_private : Event → Bool
is_not_private (events.Ordered o) = o.is_shared
is_not_private event = true

abbrev pub is_not_of_origin : Event → Bool
is_not_of_origin (events.Ordered o) = not (is_from_origin o.source)
is_not_of_origin event = true

-- an order by which an origin may be asked about what is there: for all, or as the client lets it
abbrev pub may_ask : Order → Bool
may_ask o = is_from_origin o.source && (o.has_shelf && (o.has_shelved && (o.is_shared || o.lets_validate)))

abbrev pub is_not_asking : Event → Bool
is_not_asking (events.Ordered o) = not (may_ask o)
is_not_asking event = true

-- an event that is no 304 about what was asked about
abbrev pub confirms_nothing : Event → Bool
confirms_nothing (events.Whole p) = not ((p.status == 304) && p.is_about)
confirms_nothing event = true

-- an event in whose place nothing stale may be given: the origin answers, or there is nothing
abbrev pub is_not_down : Event → Bool
is_not_down (events.Whole p) = not (is_server_error p.status && p.has_stale)
is_not_down (events.Failed x) = not (is_outage x.fault && x.has_stale)
is_not_down event = true

-- an event that doesn't find what is fetched unchanged
abbrev pub is_not_unchanged : Event → Bool
is_not_unchanged (events.Locked is_overtaken) = is_overtaken
is_not_unchanged event = true

-- an event that lets an origin's first address not be connected to
abbrev pub bars_first : Event → Bool
bars_first (events.Ordered o) = is_from_origin o.source
bars_first (events.Addressed a) = not a.is_first_admitted
bars_first event = true

abbrev pub bars_other : Event → Bool
bars_other (events.Ordered o) = is_from_origin o.source
bars_other (events.Addressed a) = not (a.has_other && a.is_other_admitted)
bars_other event = true

-- an event by which it is begun anew
abbrev pub renews : Event → Bool
renews (events.Unwanted is_awaited) = is_awaited
renews event = false

-- an event by which a request may be sent once more: its connection has ended before an octet of an answer came (RFC 9112, section 9.3.1), or it is
-- begun anew
abbrev pub lets_send_again : Event → Bool
lets_send_again event = is_cut_short event || renews event

-- STAGES

abbrev pub is_over : Stage → Bool
is_over stages.Over = true
is_over stage = false

abbrev pub is_in_flight : Stage → Bool
is_in_flight stages.Seeking = true
is_in_flight (stages.Connecting r) = true
is_in_flight (stages.Exchanging e) = true
is_in_flight stage = false

-- it has not ended
abbrev pub is_under_way : Stage → Bool
is_under_way stages.Renewing = true
is_under_way stage = is_in_flight stage

-- whether it ends for want of clients
abbrev pub may_be_left : Fetch → Bool
may_be_left fetch = fetch.flight.is_shared && is_in_flight fetch.stage

abbrev pub is_unordered : Stage → Bool
is_unordered stages.Ordering = true
is_unordered stages.Renewing = true
is_unordered stage = false

abbrev pub is_renewing : Stage → Bool
is_renewing stages.Renewing = true
is_renewing stage = false

abbrev pub is_seeking : Stage → Bool
is_seeking stages.Seeking = true
is_seeking stage = false

abbrev pub is_connecting : Stage → Bool
is_connecting (stages.Connecting r) = true
is_connecting stage = false

abbrev pub is_exchanging : Stage → Bool
is_exchanging (stages.Exchanging e) = true
is_exchanging stage = false

-- its result is made, and waits for the lock of changes
abbrev pub is_landing : Stage → Bool
is_landing (stages.Landing l) = true
is_landing stage = false

-- its answer was not offered
abbrev pub is_unoffered : Stage → Bool
is_unoffered (stages.Exchanging e) = not e.is_offered
is_unoffered stage = false

-- an event that a fetch waits for, so that it is a step of it
abbrev pub is_awaited : Fetch → Event → Bool
is_awaited fetch (events.Ordered o) = is_unordered fetch.stage
is_awaited fetch (events.Addressed a) = is_seeking fetch.stage
is_awaited fetch events.Connected = is_connecting fetch.stage
is_awaited fetch (events.Began h) =
    (fetch.flight.is_shared && fetch.flight.is_streamed) && (is_unoffered fetch.stage && ((h.status == 200) && h.is_long))
is_awaited fetch (events.Whole p) = is_exchanging fetch.stage
is_awaited fetch (events.Failed x) = is_in_flight fetch.stage
is_awaited fetch (events.Unwanted is_wanted_again) = may_be_left fetch
is_awaited fetch (events.Locked is_overtaken) = is_landing fetch.stage

-- what was asked is awaited
abbrev pub is_asked : Stage → Bool
is_asked stages.Ordering = false
is_asked stages.Over = false
is_asked stage = true

-- what was asked has come, or it has ended without
abbrev pub is_told : Fetch → Event → Bool
is_told fetch (events.Began h) = false
is_told fetch event = is_asked fetch.stage && is_awaited fetch event

-- how many of these events tell what was asked
abbrev pub told : Fetch → List Event → ℕ
told fetch [] = 0
told fetch (event ∷ rest) = one (is_told fetch event) + told (turn_of fetch event).fetch rest

-- how many of these events it waits for
abbrev pub steps : Fetch → List Event → ℕ
steps fetch [] = 0
steps fetch (event ∷ rest) = one (is_awaited fetch event) + steps (turn_of fetch event).fetch rest
