-- The table, row by row: how far a fetch has come, what happens, and under which conditions; what comes then, and what is done.
use Rattle.std.specs.Prelude.{◌≡◌, [], ◌∷◌, ◌||◌, ◌&&◌, ◌==◌, not, Bool, true, false}
use Rattle.fetch_life.specs.declared.facts.Order.{Order}
use Rattle.fetch_life.specs.declared.facts.Addresses.{Addresses}
use Rattle.fetch_life.specs.declared.facts.Failure.{Failure}
use Rattle.fetch_life.specs.declared.facts.Page.{Page}
use Rattle.fetch_life.specs.declared.facts.End.TheVariants as ends
use Rattle.fetch_life.specs.declared.events.Head.{Head}
use Rattle.fetch_life.specs.declared.events.Event.{Event}
use Rattle.fetch_life.specs.declared.events.Event.TheVariants as events
use Rattle.fetch_life.specs.declared.commands.Which.TheVariants.{First, Other}
use Rattle.fetch_life.specs.declared.commands.Brought.TheVariants.{Nothing, Unwanted}
use Rattle.fetch_life.specs.declared.commands.Count.TheVariants as counts
use Rattle.fetch_life.specs.declared.commands.Command.TheVariants as does
use Rattle.fetch_life.specs.declared.stages.Flight.{Flight}
use Rattle.fetch_life.specs.declared.stages.Reach.{Reach}
use Rattle.fetch_life.specs.declared.stages.Exchange.{Exchange}
use Rattle.fetch_life.specs.declared.stages.Landing.{Landing}
use Rattle.fetch_life.specs.declared.stages.Stage.{Stage}
use Rattle.fetch_life.specs.declared.stages.Stage.TheVariants as stages
use Rattle.fetch_life.specs.Table.{Turn, stay, goes, flight_of, request_of, reuses, connects, may_first, may_other, opposite, is_connect, is_cut, lands, remakes, hands_in, brought}

-- whether the head of an answer has the fetch offered
abbrev pub is_offered_by : Flight → Head → Exchange → Bool
is_offered_by f h e = (f.is_shared && f.is_streamed) && (not e.is_offered && ((h.status == 200) && h.is_long))

-- whether an event changes anything at a stage
abbrev pub awaits : Flight → Stage → Event → Bool
awaits f stages.Ordering (events.Ordered o) = true
awaits f stages.Ordering event = false
awaits f stages.Renewing (events.Ordered o) = true
awaits f stages.Renewing event = false
awaits f stages.Seeking (events.Addressed a) = true
awaits f stages.Seeking (events.Failed x) = true
awaits f stages.Seeking (events.Unwanted is_awaited) = f.is_shared
awaits f stages.Seeking event = false
awaits f (stages.Connecting r) events.Connected = true
awaits f (stages.Connecting r) (events.Failed x) = true
awaits f (stages.Connecting r) (events.Unwanted is_awaited) = f.is_shared
awaits f (stages.Connecting r) event = false
awaits f (stages.Exchanging e) (events.Began h) = is_offered_by f h e
awaits f (stages.Exchanging e) (events.Whole p) = true
awaits f (stages.Exchanging e) (events.Failed x) = true
awaits f (stages.Exchanging e) (events.Unwanted is_awaited) = f.is_shared
awaits f (stages.Exchanging e) event = false
awaits f (stages.Landing l) (events.Locked is_overtaken) = true
awaits f (stages.Landing l) event = false
awaits f stages.Over event = false

pub data Row : Flight → Stage → Event → Turn → Type 0 where
  -- what is not awaited changes nothing
  Idle : (f : Flight) (stage : Stage) (event : Event) → awaits f stage event ≡ false → Row f stage event (stay f stage)
  -- its order
  Begins : (f : Flight) (o : Order) → (o.is_shared && o.is_unwanted) ≡ false → o.is_possible ≡ true → Row f stages.Ordering (events.Ordered o) (goes (flight_of o) stages.Seeking (does.Seek ∷ []))
  Unbegun : (f : Flight) (o : Order) → o.is_shared ≡ true → o.is_unwanted ≡ true → o.was_unwanted ≡ false → Row f stages.Ordering (events.Ordered o) (goes (flight_of o) stages.Over (does.Count counts.Unwanted ∷ does.HandIn Unwanted ∷ []))
  Unbegun_again : (f : Flight) (o : Order) → o.is_shared ≡ true → o.is_unwanted ≡ true → o.was_unwanted ≡ true → Row f stages.Ordering (events.Ordered o) (goes (flight_of o) stages.Over (does.HandIn Unwanted ∷ []))
  Impossible : (f : Flight) (o : Order) → (o.is_shared && o.is_unwanted) ≡ false → o.is_possible ≡ false → Row f stages.Ordering (events.Ordered o) (goes (flight_of o) stages.Over (does.HandIn Nothing ∷ []))
  -- its order once more, where it was begun anew
  Renewed : (f : Flight) (o : Order) → (o.is_shared && o.is_unwanted) ≡ false → o.is_possible ≡ true → Row f stages.Renewing (events.Ordered o) (goes (flight_of o) stages.Seeking (does.Seek ∷ []))
  Renewed_unbegun : (f : Flight) (o : Order) → o.is_shared ≡ true → o.is_unwanted ≡ true → Row f stages.Renewing (events.Ordered o) (goes (flight_of o) stages.Over (does.Count counts.Unwanted ∷ does.HandIn Unwanted ∷ []))
  Renewed_impossible : (f : Flight) (o : Order) → o.is_possible ≡ false → o.is_shared ≡ true → Row f stages.Renewing (events.Ordered o) (goes (flight_of o) stages.Over (does.HandIn Unwanted ∷ []))
  Renewed_private : (f : Flight) (o : Order) → o.is_possible ≡ false → o.is_shared ≡ false → Row f stages.Renewing (events.Ordered o) (goes (flight_of o) stages.Over (does.HandIn Nothing ∷ []))
  -- its server's addresses
  Reuses_first : (f : Flight) (a : Addresses) → may_first f a ≡ true → a.is_first_kept ≡ true → Row f stages.Seeking (events.Addressed a) (reuses f First (may_other f a))
  Reuses_other : (f : Flight) (a : Addresses) → may_other f a ≡ true → a.is_other_kept ≡ true → Row f stages.Seeking (events.Addressed a) (reuses f Other (may_first f a))
  Connects_first : (f : Flight) (a : Addresses) → may_first f a ≡ true → Row f stages.Seeking (events.Addressed a) (connects f First (may_other f a))
  Connects_other : (f : Flight) (a : Addresses) → may_other f a ≡ true → may_first f a ≡ false → Row f stages.Seeking (events.Addressed a) (connects f Other false)
  Refuses : (f : Flight) (a : Addresses) → may_first f a ≡ false → may_other f a ≡ false → Row f stages.Seeking (events.Addressed a) (lands f ends.Refused)
  -- its connection
  Connected : (f : Flight) (r : Reach) → Row f (stages.Connecting r) events.Connected (goes f (stages.Exchanging (record { reach = r; is_reused = false; is_offered = false })) (does.Send (request_of f) ∷ []))
  Turns : (f : Flight) (x : Failure) (r : Reach) → r.has_other ≡ true → is_connect x.fault ≡ true → Row f (stages.Connecting r) (events.Failed x) (connects f (opposite r.at) false)
  Retries : (f : Flight) (x : Failure) (e : Exchange) → e.is_reused ≡ true → x.has_answer ≡ false → is_cut x.fault ≡ true → Row f (stages.Exchanging e) (events.Failed x) (connects f e.reach.at e.reach.has_other)
  Goes_on : (f : Flight) (x : Failure) (e : Exchange) → e.reach.has_other ≡ true → x.has_answer ≡ false → is_cut x.fault ≡ true → Row f (stages.Exchanging e) (events.Failed x) (connects f (opposite e.reach.at) false)
  -- its end
  Fails_seeking : (f : Flight) (x : Failure) → Row f stages.Seeking (events.Failed x) (lands f (ends.Failed x))
  Fails_connecting : (f : Flight) (x : Failure) (r : Reach) → Row f (stages.Connecting r) (events.Failed x) (lands f (ends.Failed x))
  Fails_exchanging : (f : Flight) (x : Failure) (e : Exchange) → Row f (stages.Exchanging e) (events.Failed x) (lands f (ends.Failed x))
  Offers : (f : Flight) (h : Head) (e : Exchange) → f.is_shared ≡ true → e.is_offered ≡ false → (h.status == 200) ≡ true → f.is_streamed ≡ true → h.is_long ≡ true → Row f (stages.Exchanging e) (events.Began h) (goes f (stages.Exchanging (record { reach = e.reach; is_reused = e.is_reused; is_offered = true })) (does.Offer ∷ []))
  Ends : (f : Flight) (p : Page) (e : Exchange) → Row f (stages.Exchanging e) (events.Whole p) (lands f (ends.Whole p))
  -- its result
  Remakes : (f : Flight) (l : Landing) → l.is_remade ≡ false → Row f (stages.Landing l) (events.Locked true) (remakes f l.end)
  Hands_in : (f : Flight) (is_overtaken : Bool) (l : Landing) → Row f (stages.Landing l) (events.Locked is_overtaken) (hands_in f l.end (brought f (is_overtaken || l.is_remade) l.end))
  -- its clients have gone
  Renews_seeking : (f : Flight) → f.is_shared ≡ true → Row f stages.Seeking (events.Unwanted true) (goes f stages.Renewing (does.Renew ∷ []))
  Renews_connecting : (f : Flight) (r : Reach) → f.is_shared ≡ true → Row f (stages.Connecting r) (events.Unwanted true) (goes f stages.Renewing (does.Renew ∷ []))
  Renews_exchanging : (f : Flight) (e : Exchange) → f.is_shared ≡ true → Row f (stages.Exchanging e) (events.Unwanted true) (goes f stages.Renewing (does.Renew ∷ []))
  Leaves_seeking : (f : Flight) → f.is_shared ≡ true → Row f stages.Seeking (events.Unwanted false) (goes f stages.Over (does.Count counts.Unwanted ∷ does.HandIn Unwanted ∷ []))
  Leaves_connecting : (f : Flight) (r : Reach) → f.is_shared ≡ true → Row f (stages.Connecting r) (events.Unwanted false) (goes f stages.Over (does.Count counts.Unwanted ∷ does.HandIn Unwanted ∷ []))
  Leaves_exchanging : (f : Flight) (e : Exchange) → f.is_shared ≡ true → Row f (stages.Exchanging e) (events.Unwanted false) (goes f stages.Over (does.Count counts.Unwanted ∷ does.HandIn Unwanted ∷ []))
