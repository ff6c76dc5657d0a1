-- One attempt of a fetch as a table: what comes and what is done, by what happens and how far the fetch has come.
use Rattle.std.specs.Prelude.{ℕ, List, [], ◌∷◌, ◌==◌, ◌&&◌, ◌||◌, not, nat_lt, nat_le, Bool, true, false, Option, Some, None, if◌then◌else◌}
use Rattle.fetch_life.specs.declared.facts.Source.{Source}
use Rattle.fetch_life.specs.declared.facts.Source.TheVariants.{Origin, Sibling}
use Rattle.fetch_life.specs.declared.facts.Order.{Order}
use Rattle.fetch_life.specs.declared.facts.Addresses.{Addresses}
use Rattle.fetch_life.specs.declared.facts.Fault.{Fault}
use Rattle.fetch_life.specs.declared.facts.Fault.TheVariants as faults
use Rattle.fetch_life.specs.declared.facts.Failure.{Failure}
use Rattle.fetch_life.specs.declared.facts.Page.{Page}
use Rattle.fetch_life.specs.declared.facts.End.{End}
use Rattle.fetch_life.specs.declared.facts.End.TheVariants as ends
use Rattle.fetch_life.specs.declared.events.Head.{Head}
use Rattle.fetch_life.specs.declared.events.Event.{Event}
use Rattle.fetch_life.specs.declared.events.Event.TheVariants as events
use Rattle.fetch_life.specs.declared.commands.Which.{Which}
use Rattle.fetch_life.specs.declared.commands.Which.TheVariants.{First, Other}
use Rattle.fetch_life.specs.declared.commands.Request.{Request}
use Rattle.fetch_life.specs.declared.commands.Supplier.{Supplier}
use Rattle.fetch_life.specs.declared.commands.Supplier.TheVariants as suppliers
use Rattle.fetch_life.specs.declared.commands.BroughtObject.{BroughtObject}
use Rattle.fetch_life.specs.declared.commands.Brought.{Brought}
use Rattle.fetch_life.specs.declared.commands.Brought.TheVariants.{Object, Nothing, Unwanted}
use Rattle.fetch_life.specs.declared.commands.Count.{Count}
use Rattle.fetch_life.specs.declared.commands.Count.TheVariants as counts
use Rattle.fetch_life.specs.declared.commands.Command.{Command}
use Rattle.fetch_life.specs.declared.commands.Command.TheVariants as does
use Rattle.fetch_life.specs.declared.commands.Commands.{Commands}
use Rattle.fetch_life.specs.declared.commands.Step.{Step}
use Rattle.fetch_life.specs.declared.stages.Flight.{Flight}
use Rattle.fetch_life.specs.declared.stages.Reach.{Reach}
use Rattle.fetch_life.specs.declared.stages.Exchange.{Exchange}
use Rattle.fetch_life.specs.declared.stages.Landing.{Landing}
use Rattle.fetch_life.specs.declared.stages.Stage.{Stage}
use Rattle.fetch_life.specs.declared.stages.Stage.TheVariants as stages
use Rattle.fetch_life.specs.declared.stages.Fetch.{Fetch}

-- what comes then, and what is done, in this order
pub record Turn : Type 0 where
  pub fetch : Fetch
  pub commands : List Command

abbrev pub stay : Flight → Stage → Turn
stay flight stage = record { fetch = record { flight = flight; stage = stage }; commands = [] }

abbrev pub goes : Flight → Stage → List Command → Turn
goes flight stage commands = record { fetch = record { flight = flight; stage = stage }; commands = commands }

abbrev pub listed : Option Command → List Command → List Command
listed None rest = rest
listed (Some command) rest = command ∷ rest

abbrev pub list_of : Commands → List Command
list_of c = listed c.first (listed c.second (listed c.third (listed c.last [])))

-- a step as the table has it
abbrev pub shown : Step → Turn
shown step = record { fetch = step.fetch; commands = list_of step.commands }

-- THE ORDER

abbrev pub is_origin : Source → Bool
is_origin Origin = true
is_origin source = false

abbrev pub is_sibling : Source → Bool
is_sibling Sibling = true
is_sibling source = false

-- an origin is asked about what is there, if the client that owns the fetch lets it; a neighbour never is, since its 304 would confirm what it has
-- made of it
abbrev pub asks : Order → Bool
asks o = is_origin o.source && (o.has_shelf && (o.has_shelved && (o.is_shared || o.lets_validate)))

abbrev pub flight_of : Order → Flight
flight_of o = record { source = o.source; is_shared = o.is_shared; is_asking = asks o; has_shelf = o.has_shelf; is_streamed = o.is_streamed }

-- what nobody waits for any more is not begun, which is counted once
abbrev pub unbegun : Flight → Bool → Turn
unbegun f is_counted =
    if is_counted then goes f stages.Over (does.HandIn Unwanted ∷ [])
    else goes f stages.Over (does.Count counts.Unwanted ∷ does.HandIn Unwanted ∷ [])

abbrev pub ordered_so : Order → Turn
ordered_so o =
    if o.is_shared && o.is_unwanted then unbegun (flight_of o) o.was_unwanted
    else if o.is_possible then goes (flight_of o) stages.Seeking (does.Seek ∷ [])
    else goes (flight_of o) stages.Over (does.HandIn Nothing ∷ [])

-- one that was begun anew, since somebody waited for it again: that nobody does any more is counted now, and where it can't be begun, who waits for it
-- is told that it was ended for want of clients
abbrev pub renewed_so : Order → Turn
renewed_so o =
    if o.is_shared && o.is_unwanted then unbegun (flight_of o) false
    else if o.is_possible then goes (flight_of o) stages.Seeking (does.Seek ∷ [])
    else if o.is_shared then goes (flight_of o) stages.Over (does.HandIn Unwanted ∷ [])
    else goes (flight_of o) stages.Over (does.HandIn Nothing ∷ [])

abbrev pub ordered : Order → Flight → Stage → Turn
ordered o flight stages.Ordering = ordered_so o
ordered o flight stages.Renewing = renewed_so o
ordered o flight stage = stay flight stage

-- the fields of its request. Of a client it has none if it is for all, but for the marks of loops; where something is asked about, it has no codings
-- of a client's either, since a tag for another coding would not be its own (RFC 9110, section 8.8.3.3)
abbrev pub request_of : Flight → Request
request_of f =
    record {
      has_clients = not f.is_shared;
      has_codings = not f.is_shared && not f.is_asking;
      has_loop_marks = f.is_shared;
      has_shared = f.is_shared;
      has_conditions = f.is_asking;
      has_only_if_cached = is_sibling f.source;
    }

-- WHAT IT BRINGS

-- an error of the server's, in whose place something stale may be given (RFC 5861, section 4)
abbrev pub is_error : ℕ → Bool
is_error status = (status == 500) || ((status == 502) || ((status == 503) || (status == 504)))

-- a status that says that what was there is so no longer
abbrev pub supersedes : ℕ → Bool
supersedes status = (nat_le 200 status && (nat_lt status 400 && not (status == 304))) || ((status == 404) || (status == 410))

-- the server could not be reached, or not be understood
abbrev pub is_loss : Fault → Bool
is_loss faults.Lookup = true
is_loss faults.Connect = true
is_loss faults.Cut = true
is_loss faults.NotHttp = true
is_loss faults.LargeHead = true
is_loss faults.Time = true
is_loss faults.Room = true
is_loss faults.Slow = true
is_loss faults.NoFile = true
is_loss fault = false

-- it was reached, and has not answered as it should
abbrev pub is_misanswer : Fault → Bool
is_misanswer faults.Cut = true
is_misanswer faults.NotHttp = true
is_misanswer faults.LargeHead = true
is_misanswer faults.Time = true
is_misanswer faults.Room = true
is_misanswer faults.Slow = true
is_misanswer fault = false

abbrev pub is_too_large : Fault → Bool
is_too_large faults.TooLarge = true
is_too_large fault = false

-- for all clients, from the origin itself
abbrev pub is_for_all : Flight → Bool
is_for_all f = is_origin f.source && f.is_shared

-- something stale is given in its place: the origin is down for all, and no change has come between
abbrev pub is_replaced : Flight → Bool → End → Bool
is_replaced f is_overtaken (ends.Whole p) = not is_overtaken && (is_for_all f && (is_error p.status && p.has_stale))
is_replaced f is_overtaken ends.Refused = false
is_replaced f is_overtaken (ends.Failed x) = not is_overtaken && (is_for_all f && (is_loss x.fault && x.has_stale))

abbrev pub supplier_of : Source → Supplier
supplier_of Origin = suppliers.Origin
supplier_of source = suppliers.Neighbour

-- a private answer is never kept, nor one that a change has overtaken
abbrev pub is_kept : Flight → Bool → Page → Bool
is_kept f is_overtaken p = f.is_shared && (p.may_keep && (not is_overtaken && not p.hides_rules))

abbrev pub object : Bool → Supplier → Brought
object is_kept supplier = Object (record { is_kept = is_kept; supplier = supplier })

abbrev pub object_of : Flight → Bool → Page → Supplier → Brought
object_of f is_overtaken p supplier = if p.is_object then object (is_kept f is_overtaken p) supplier else Nothing

-- an answer by itself, of which only one of status 200 is kept
abbrev pub itself : Flight → Bool → Page → Brought
itself f is_overtaken p =
    if p.is_object then object (is_kept f is_overtaken p && (p.status == 200)) (supplier_of f.source) else Nothing

-- a 304 stands for what was asked about, if it is about that; without conditions of this cache it is an answer to a client's own, and nothing for all.
-- A 412 to conditions that are not the client's is nothing. A neighbour's 508 says that it would have asked this cache again
abbrev pub stands_for : Flight → Bool → Page → Brought
stands_for f is_overtaken p =
    if not (is_origin f.source) && (p.status == 508) then Nothing
    else if f.is_asking && (p.status == 412) then Nothing
    else if f.is_asking && (p.status == 304)
    then (if p.is_about then object_of f is_overtaken p suppliers.Confirmed else Nothing)
    else if (p.status == 304) && (f.is_shared && f.has_shelf) then Nothing
    else itself f is_overtaken p

abbrev pub brings : Flight → Bool → End → Brought
brings f is_overtaken (ends.Whole p) = stands_for f is_overtaken p
brings f is_overtaken ends.Refused = object false suppliers.Nobody
brings f is_overtaken (ends.Failed x) = Nothing

unfoldable pub brought : Flight → Bool → End → Brought
brought f is_overtaken end = if is_replaced f is_overtaken end then object false suppliers.Stale else brings f is_overtaken end

-- THE SHELF

-- the origin has something else now than what is there
abbrev pub is_superseded : Flight → End → Bool
is_superseded f (ends.Whole p) = f.is_shared && ((f.is_asking && (p.status == 304)) || supersedes p.status)
is_superseded f end = false

-- a 304 is about something else than was asked about, or the origin's answer is too long now. One about it that no object can be made of changes nothing
abbrev pub is_gone : Flight → End → Bool
is_gone f (ends.Whole p) = f.is_asking && ((p.status == 304) && not p.is_about)
is_gone f ends.Refused = false
is_gone f (ends.Failed x) = is_for_all f && is_too_large x.fault

abbrev pub is_own_supplier : Supplier → Bool
is_own_supplier suppliers.Stale = true
is_own_supplier suppliers.Nobody = true
is_own_supplier supplier = false

-- what is kept of the origin's is put there; what it has something else for, or what a neighbour has, takes what is there away
abbrev pub follows : Flight → End → BroughtObject → Option Command
follows f end o =
    if is_own_supplier o.supplier then None
    else if o.is_kept && is_origin f.source then Some does.Shelve
    else if o.is_kept || is_superseded f end then Some does.Unshelve
    else None

abbrev pub shelf_step : Flight → End → Brought → Option Command
shelf_step f end (Object o) = follows f end o
shelf_step f end Nothing = if is_gone f end then Some does.Unshelve else None
shelf_step f end Unwanted = if is_gone f end then Some does.Unshelve else None

abbrev pub is_unanswered : Flight → End → Bool
is_unanswered f (ends.Whole p) = f.is_asking && (p.status == 412)
is_unanswered f ends.Refused = false
is_unanswered f (ends.Failed x) = f.is_asking && is_misanswer x.fault

-- a reload of one client's has found something else
abbrev pub is_changed : Flight → End → Bool
is_changed f (ends.Whole p) =
    (f.is_asking && not f.is_shared) && (((p.status == 200) && p.could_be_kept) || ((p.status == 304) && p.has_other_rules))
is_changed f end = false

abbrev pub where_so : Bool → Command → Option Command
where_so b command = if b then Some command else None

-- IT LANDS

abbrev pub count_of : End → Count
count_of (ends.Whole p) = counts.Whole
count_of ends.Refused = counts.Refused
count_of (ends.Failed x) = counts.Failed

abbrev pub lands : Flight → End → Turn
lands f end =
    goes f (stages.Landing (record { end = end; is_remade = false }))
    (does.Count (count_of end) ∷ does.Make (brought f false end) ∷ does.Lock ∷ [])

abbrev pub remakes : Flight → End → Turn
remakes f end =
    goes f (stages.Landing (record { end = end; is_remade = true })) (does.Make (brought f true end) ∷ does.Lock ∷ [])

abbrev pub is_stale : Supplier → Bool
is_stale suppliers.Stale = true
is_stale supplier = false

-- what is handed in only if nothing was changed: what is kept, or was there before
abbrev pub is_fragile : Brought → Bool
is_fragile (Object o) = o.is_kept || is_stale o.supplier
is_fragile Nothing = false
is_fragile Unwanted = false

unfoldable pub hands_in : Flight → End → Brought → Turn
hands_in f end b =
    goes f stages.Over (listed (shelf_step f end b) (listed (where_so (is_unanswered f end) does.AskNoMore)
    (listed (where_so (is_changed f end) does.NoteChanged) (does.HandIn b ∷ []))))

-- made anew, once
unfoldable pub is_lost : Flight → Bool → Landing → Bool
is_lost f is_overtaken l = is_overtaken && (not l.is_remade && is_fragile (brought f false l.end))

abbrev pub locked_at : Flight → Bool → Landing → Turn
locked_at f is_overtaken l =
    if is_lost f is_overtaken l then remakes f l.end else hands_in f l.end (brought f (is_overtaken || l.is_remade) l.end)

abbrev pub locked : Flight → Bool → Stage → Turn
locked f is_overtaken (stages.Landing l) = locked_at f is_overtaken l
locked f is_overtaken stage = stay f stage

-- ITS SERVER

-- a neighbour is configured; an origin has to be admitted
abbrev pub is_admitted : Flight → Bool → Bool
is_admitted f by_rules = not (is_origin f.source) || by_rules

abbrev pub may_first : Flight → Addresses → Bool
may_first f a = is_admitted f a.is_first_admitted

abbrev pub may_other : Flight → Addresses → Bool
may_other f a = a.has_other && is_admitted f a.is_other_admitted

abbrev pub reach : Which → Bool → Reach
reach at has_other = record { at = at; has_other = has_other }

abbrev pub reuses : Flight → Which → Bool → Turn
reuses f at has_other =
    goes f (stages.Exchanging (record { reach = reach at has_other; is_reused = true; is_offered = false }))
    (does.Reuse at ∷ does.Send (request_of f) ∷ [])

abbrev pub connects : Flight → Which → Bool → Turn
connects f at has_other = goes f (stages.Connecting (reach at has_other)) (does.Connect at ∷ [])

abbrev pub addressed_so : Flight → Addresses → Turn
addressed_so f a =
    if may_first f a && a.is_first_kept then reuses f First (may_other f a)
    else if may_other f a && a.is_other_kept then reuses f Other (may_first f a)
    else if may_first f a then connects f First (may_other f a)
    else if may_other f a then connects f Other false
    else lands f ends.Refused

abbrev pub addressed : Flight → Addresses → Stage → Turn
addressed f a stages.Seeking = addressed_so f a
addressed f a stage = stay f stage

abbrev pub connected : Flight → Stage → Turn
connected f (stages.Connecting r) =
    goes f (stages.Exchanging (record { reach = r; is_reused = false; is_offered = false })) (does.Send (request_of f) ∷ [])
connected f stage = stay f stage

abbrev pub opposite : Which → Which
opposite First = Other
opposite Other = First

abbrev pub is_connect : Fault → Bool
is_connect faults.Connect = true
is_connect fault = false

abbrev pub is_cut : Fault → Bool
is_cut faults.Cut = true
is_cut fault = false

-- the other address has its turn where the one is not connected to
abbrev pub not_connected : Flight → Failure → Reach → Turn
not_connected f x r =
    if is_connect x.fault && r.has_other then connects f (opposite r.at) false else lands f (ends.Failed x)

-- a server may have closed a connection that was kept at the same moment: the request, which is safe, is sent once more over a new one (RFC 9112,
-- section 9.3.1). Where the connection was a new one, it is sent once more to the other address
abbrev pub broken_off : Flight → Failure → Exchange → Turn
broken_off f x e =
    if is_cut x.fault && not x.has_answer then (
    if e.is_reused then connects f e.reach.at e.reach.has_other
    else if e.reach.has_other then connects f (opposite e.reach.at) false else lands f (ends.Failed x))
    else lands f (ends.Failed x)

abbrev pub failed : Flight → Failure → Stage → Turn
failed f x stages.Seeking = lands f (ends.Failed x)
failed f x (stages.Connecting r) = not_connected f x r
failed f x (stages.Exchanging e) = broken_off f x e
failed f x stage = stay f stage

-- a long answer of status 200 is offered once to who began the fetch for all
abbrev pub began_so : Flight → Head → Exchange → Turn
began_so f h e =
    if (f.is_shared && f.is_streamed) && (not e.is_offered && ((h.status == 200) && h.is_long))
    then goes f (stages.Exchanging (record { reach = e.reach; is_reused = e.is_reused; is_offered = true })) (does.Offer ∷ [])
    else stay f (stages.Exchanging e)

abbrev pub began : Flight → Head → Stage → Turn
began f h (stages.Exchanging e) = began_so f h e
began f h stage = stay f stage

abbrev pub whole : Flight → Page → Stage → Turn
whole f p (stages.Exchanging e) = lands f (ends.Whole p)
whole f p stage = stay f stage

-- ITS CLIENTS HAVE GONE

-- it ends, unless somebody waits for it again: then it is begun anew
abbrev pub leaves : Flight → Bool → Turn
leaves f is_awaited =
    if is_awaited then goes f stages.Renewing (does.Renew ∷ [])
    else goes f stages.Over (does.Count counts.Unwanted ∷ does.HandIn Unwanted ∷ [])

-- only a fetch for all ends for want of clients: a private one ends with the client that owns it
abbrev pub left_alone : Flight → Bool → Stage → Turn
left_alone f is_awaited stage = if f.is_shared then leaves f is_awaited else stay f stage

abbrev pub unwanted : Flight → Bool → Stage → Turn
unwanted f is_awaited stages.Seeking = left_alone f is_awaited stages.Seeking
unwanted f is_awaited (stages.Connecting r) = left_alone f is_awaited (stages.Connecting r)
unwanted f is_awaited (stages.Exchanging e) = left_alone f is_awaited (stages.Exchanging e)
unwanted f is_awaited stage = stay f stage

-- THE TABLE

abbrev pub turn : Flight → Stage → Event → Turn
turn f stage (events.Ordered o) = ordered o f stage
turn f stage (events.Addressed a) = addressed f a stage
turn f stage events.Connected = connected f stage
turn f stage (events.Began h) = began f h stage
turn f stage (events.Whole p) = whole f p stage
turn f stage (events.Failed x) = failed f x stage
turn f stage (events.Unwanted is_awaited) = unwanted f is_awaited stage
turn f stage (events.Locked is_overtaken) = locked f is_overtaken stage
