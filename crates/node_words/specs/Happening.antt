-- Events as plain values, independent of how they are stored.
use Rattle.std.specs.Prelude.{ℕ, List, Option}
use Rattle.std.specs.Option.{option_map}
use Rattle.std.specs.Arc.{arc_value}
use Rattle.bpf_check.specs.declared.insn.Insn.{Insn}
use Rattle.filter_slots.specs.Datagram.{DatagramFields}
use Rattle.filter_slots.specs.declared.slot.Slot.{Slot}
use Rattle.node_words.specs.declared.event.Event.{Event}
use Rattle.node_words.specs.declared.event.Event.TheVariants as event
use Rattle.node_terms.specs.declared.mode.Mode.{Mode}
use Rattle.node_words.specs.declared.event.Outcome.{Outcome}

-- a datagram arrives; a client requests a key; the clock reaches a time; a fetch attempt ends; a client disconnects; or a slot's
-- program is replaced or removed
pub data Happening : Type 0 where
  arrives : (datagram : DatagramFields) (now : ℕ) → Happening
  asks : (client : ℕ) (key : List ℕ) (mode : Mode) (now : ℕ) → Happening
  ticks : (now : ℕ) → Happening
  ends : (number attempt : ℕ) (outcome : Outcome) (now : ℕ) → Happening
  leaves : (client : ℕ) → Happening
  swaps : (place : Slot) (program : Option (List Insn)) → Happening

-- the value of an event
abbrev pub happening : Event → Happening
happening (event.Datagram datagram now) = arrives (arc_value datagram) now
happening (event.Request client key mode now) = asks client key mode now
happening (event.Timer now) = ticks now
happening (event.Fetched number attempt result now) = ends number attempt result now
happening (event.Gone client) = leaves client
happening (event.Swap place program) = swaps place (option_map (λ arc. arc_value arc) program)
