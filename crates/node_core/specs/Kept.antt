-- Which events reach the plain node. It depends on the filters in force alone, not on the node's state.
use Rattle.std.specs.Prelude.{ℕ, ◌==◌, List, [], ◌∷◌, Option, Some, None, if◌then◌else◌}
use Rattle.filter_slots.specs.Datagram.{DatagramFields}
use Rattle.filter_slots.specs.Filters.{Filters, with_slot}
use Rattle.filter_slots.specs.Verdict.{verdict_in_force}
use Rattle.filter_slots.specs.Cut.{cut_of}
use Rattle.node_words.specs.Happening.{Happening, arrives, asks, ticks, ends, leaves, swaps}
use Rattle.plain_node.specs.Plain.{PlainEvent, Arrived, Requested, Ticked, Ended, Left}

-- the filters after one event
abbrev pub swapped : Filters → Happening → Filters
swapped filters (arrives datagram now) = filters
swapped filters (asks client key mode now) = filters
swapped filters (ticks now) = filters
swapped filters (ends number attempt outcome now) = filters
swapped filters (leaves client) = filters
swapped filters (swaps place program) = with_slot filters place program

-- the filters in force after the events
abbrev pub filters_after : Filters → List Happening → Filters
filters_after filters [] = filters
filters_after filters (first ∷ events) = filters_after (swapped filters first) events

-- the datagram with its payload truncated to its verdict
abbrev pub handed_on : Filters → DatagramFields → DatagramFields
handed_on filters datagram = record datagram { payload = cut_of datagram.payload (verdict_in_force filters datagram) }

-- what is kept of a datagram: nothing if its verdict is 0
abbrev pub kept_datagram : Filters → DatagramFields → ℕ → Option PlainEvent
kept_datagram filters datagram now =
    if verdict_in_force filters datagram == 0 then None else Some (Arrived (handed_on filters datagram) now)

-- what is kept of an event under the filters in force
abbrev pub kept_event : Filters → Happening → Option PlainEvent
kept_event filters (arrives datagram now) = kept_datagram filters datagram now
kept_event filters (asks client key mode now) = Some (Requested client key mode now)
kept_event filters (ticks now) = Some (Ticked now)
kept_event filters (ends number attempt outcome now) = Some (Ended number attempt outcome now)
kept_event filters (leaves client) = Some (Left client)
kept_event filters (swaps place program) = None

-- what is kept of each event, under the filters in force when it comes
abbrev pub kept_places : Filters → List Happening → List (Option PlainEvent)
kept_places filters [] = []
kept_places filters (first ∷ events) = kept_event filters first ∷ kept_places (swapped filters first) events

-- the values present, in order
abbrev pub present : {A : Type 0} → List (Option A) → List A
present [] = []
present (None ∷ places) = present places
present (Some x ∷ places) = x ∷ present places

-- what is kept of a list of events
abbrev pub kept : Filters → List Happening → List PlainEvent
kept filters events = present (kept_places filters events)
