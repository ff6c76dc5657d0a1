-- Pumping: submitting what a wire receives to a clerk, and carrying out the actions of its node.
use Rattle.std.specs.Prelude.{◌≡◌, ◌≤◌, ◌⊎◌, ℕ, ◌+◌, ◌*◌, Bool, true, false, not, length, map, filter, take, List, [], ◌∷◌, ◌++◌, Option, Some, None}
use Rattle.node_words.specs.declared.action.Action.{Action}
use Rattle.node_words.specs.declared.action.Action.TheVariants.{Send, Fetch, Serve}
use Rattle.node_core.specs.Counters.{plus}
use Rattle.node_core.specs.Happening.{Happening, arrives, ticks}
use Rattle.node_core.specs.State.{HasTaken}
use Rattle.plain_node.specs.Memory.{is_no_send}
use Rattle.mio_queries.specs.declared.pumped.Pumped.{Pumped}
use Rattle.mio_queries.specs.declared.traffic.Sending.{Sending}
use Rattle.plain_node.specs.Tally.{tally_of}
use Rattle.node_book.specs.Seats.{Held, claim}
use Rattle.node_book.specs.Told.{Owned, Told, Credits, passing}
use Rattle.mio_queries.specs.Traffic.{Receipt, came, idled, Traffic, grown}
use Rattle.plain_node.specs.Bounds.{most_actions}

-- the event of a receipt: the datagram's arrival, or a timer event if none came
abbrev pub event_of : Receipt → Happening
event_of (came datagram now) = arrives datagram now
event_of (idled now) = ticks now

abbrev pub is_datagram : Receipt → Bool
is_datagram (came datagram now) = true
is_datagram (idled now) = false

-- the datagrams that the actions ask to send, in order
abbrev pub sendings : List Action → List Sending
sendings [] = []
sendings (Send socket to payload ∷ actions) = record { socket = socket; to = to; payload = payload } ∷ sendings actions
sendings (Fetch fetch attempt source only_if_cached owner ∷ actions) = sendings actions
sendings (Serve client answer ∷ actions) = sendings actions

-- all other actions, in order
abbrev pub others : List Action → List Action
others actions = filter is_no_send actions

-- the concatenated lists of actions
abbrev pub joined : List (List Action) → List Action
joined [] = []
joined (actions ∷ outs) = actions ++ joined outs

-- a send that was tried once, and whether the wire took it
pub record Try : Type 0 where
  pub sending : Sending
  pub went : Bool

-- the sends tried
abbrev pub attempted : List Try → List Sending
attempted tries = map (λ (t : Try). t.sending) tries

-- the sends that the wire took
abbrev pub gone : List Try → List Sending
gone tries = attempted (filter (λ (t : Try). t.went) tries)

-- the number of sends that failed
abbrev pub failures : List Try → ℕ
failures tries = length (filter (λ (t : Try). not t.went) tries)

-- a node took the events one after another, with one list of actions for each
pub record Serves (old new : Owned) (events : List Happening) (outs : List (List Action)) : Type 0 where
  pub taken : HasTaken old.state new.state events outs
  pub next : new.next ≡ old.next + length events

-- the same, if the node is told: not if other threads submit to it
abbrev pub NodeServes : Option Owned → Option Owned → List Happening → List (List Action) → Type 0
NodeServes (Some old) (Some new) events outs = Serves old new events outs
NodeServes (Some old) None events outs = ⊥
NodeServes None (Some new) events outs = ⊥
NodeServes None None events outs = Unit {0}

-- the events were taken for a seat one after another, with one list of actions for each, and each left its receipt
abbrev pub AreCredited : Held → Held → List Happening → List (List Action) → Type 0
AreCredited old new [] [] = new ≡ old
AreCredited old new [] (actions ∷ outs) = ⊥
AreCredited old new (event ∷ events) [] = ⊥
AreCredited old new (event ∷ events) (actions ∷ outs) =
    (number : ℕ) × (between : Held) × Credits old between (claim number event (tally_of actions)) × AreCredited between new events outs

-- the same, if the seat is told
abbrev pub SeatServes : Option Held → Option Held → List Happening → List (List Action) → Type 0
SeatServes (Some old) (Some new) events outs = AreCredited old new events outs
SeatServes (Some old) None events outs = ⊥
SeatServes None (Some new) events outs = ⊥
SeatServes None None events outs = Unit {0}

-- a clerk took the events one after another, with one list of actions for each, and was passed these actions, as far as it tells
pub record HasServed (old new : Told) (events : List Happening) (outs : List (List Action)) (actions : List Action) : Type 0 where
  pub node : NodeServes old.node new.node events outs
  pub seat : SeatServes old.seat new.seat events outs
  pub passed : new.passed ≡ grown old.passed actions

-- The wire returned the receipts, and the clerk took the events of those in `taken`, with the lists of actions in `outs`. The
-- actions `done` were carried out, in order: each Send among them was tried once, the wire sent those that it took, and its
-- number of failures grew by those that failed, and by `faults` besides; each other action was passed on.
pub record Runs (old new : Traffic) (before after : Told) (receipts taken : List Receipt) (outs : List (List Action)) (done : List Action) (tries : List Try) (faults : ℕ) : Type 0 where
  pub received : new.received ≡ grown old.received receipts
  pub served : HasServed before after (map event_of taken) outs (others done)
  pub sends : attempted tries ≡ sendings done
  pub sent : new.sent ≡ grown old.sent (gone tries)
  pub counted : new.faults ≡ plus old.faults (failures tries + faults)

-- the counts grew by these receipts and sends, saturating
pub record Counts (old new : Pumped) (receipts : List Receipt) (tries : List Try) : Type 0 where
  pub datagrams : new.received ≡ plus old.received (length (filter is_datagram receipts))
  pub idles : new.idle ≡ plus old.idle (length (filter (λ r. not (is_datagram r)) receipts))
  pub sends : new.sent ≡ plus old.sent (length (gone tries))
  pub fails : new.failed ≡ plus old.failed (failures tries)

-- all counts at 0
abbrev pub nothing : Pumped
nothing = record { received = 0; idle = 0; sent = 0; failed = 0 }

-- these actions were carried out, in order: each Send among them was tried once, the wire sent those that it took, and its number
-- of failures grew by those that failed; each other action was passed on
pub record Carries (old new : Traffic) (before after : Told) (from to : Pumped) (actions : List Action) : Type 0 where
  pub tries : List Try
  pub sends : attempted tries ≡ sendings actions
  pub received : new.received ≡ old.received
  pub sent : new.sent ≡ grown old.sent (gone tries)
  pub counted : new.faults ≡ plus old.faults (failures tries)
  pub passed : after ≡ passing (others actions) before
  pub counts : Counts from to [] tries

-- this many turns were made: all events were taken and all their actions carried out, with at most 1,344 sends tried per turn
pub record Pumps (old new : Traffic) (before after : Told) (from to : Pumped) (turns : ℕ) : Type 0 where
  pub receipts : List Receipt
  pub outs : List (List Action)
  pub tries : List Try
  pub runs : Runs old new before after receipts receipts outs (joined outs) tries 0
  pub made : length receipts ≡ turns
  pub counts : Counts from to receipts tries
  pub few : length tries ≤ turns * most_actions

-- the counts of a run that starts at 0: exact, none has saturated
pub record CountsAll (pumped : Pumped) (receipts : List Receipt) (tries : List Try) : Type 0 where
  pub datagrams : pumped.received ≡ length (filter is_datagram receipts)
  pub idles : pumped.idle ≡ length (filter (λ r. not (is_datagram r)) receipts)
  pub sends : pumped.sent ≡ length (gone tries)
  pub fails : pumped.failed ≡ failures tries

-- this many turns were made, and everything done in them was counted
abbrev pub Makes : (old new : Traffic) (before after : Told) (pumped : Pumped) (turns : ℕ) → Type 0
Makes old new before after pumped turns = (p : Pumps old new before after nothing pumped turns) × CountsAll pumped p.receipts p.tries

-- the wire failed to receive, after fewer turns: all events before were taken and all their actions carried out
pub record LosesWire (old new : Traffic) (before after : Told) (turns : ℕ) : Type 0 where
  pub receipts : List Receipt
  pub outs : List (List Action)
  pub tries : List Try
  pub runs : Runs old new before after receipts receipts outs (joined outs) tries 1
  pub fewer : length receipts + 1 ≤ turns

-- the events taken are those of all receipts, or of all but the last
abbrev pub AllButLast : List Receipt → List Receipt → Type 0
AllButLast receipts taken = (receipts ≡ taken) ⊎ ((last : Receipt) × (receipts ≡ taken ++ last ∷ []))

-- pumping ended early: a prefix of the actions of the events taken was carried out
pub record Breaks (old new : Traffic) (before after : Told) (turns : ℕ) : Type 0 where
  pub receipts : List Receipt
  pub taken : List Receipt
  pub outs : List (List Action)
  pub done : List Action
  pub left : List Action
  pub tries : List Try
  pub runs : Runs old new before after receipts taken outs done tries 0
  pub all_but_last : AllButLast receipts taken
  pub front : joined outs ≡ done ++ left
  pub within : length receipts ≤ turns
