-- The filter swaps in a list of events: the last one of a slot, and whether all install programs that the checker accepts.
use Rattle.std.specs.Prelude.{◌==◌, Bool, false, List, [], ◌∷◌, Option, Some, None, if◌then◌else◌}
use Rattle.bpf_check.specs.declared.insn.Insn.{Insn}
use Rattle.filter_slots.specs.declared.slot.Slot.{Slot}
use Rattle.filter_slots.specs.declared.slot.Slot.TheVariants as slots
use Rattle.filter_slots.specs.Filters.{same_socket}
use Rattle.node_words.specs.Happening.{Happening, arrives, asks, ticks, ends, leaves, swaps}
pub use Rattle.node_words.specs.Installs.{PutsInAccepted}

-- equality of slots
abbrev pub same_slot : Slot → Slot → Bool
same_slot (slots.Socket a) (slots.Socket b) = same_socket a b
same_slot (slots.Socket a) (slots.Neighbour n) = false
same_slot (slots.Neighbour m) (slots.Socket b) = false
same_slot (slots.Neighbour m) (slots.Neighbour n) = m == n

-- what an event installs in a slot, a program or none, if it swaps that slot
abbrev pub swap_of : Slot → Happening → Option (Option (List Insn))
swap_of place (swaps other program) = if same_slot place other then Some program else None
swap_of place (arrives datagram now) = None
swap_of place (asks client key mode now) = None
swap_of place (ticks now) = None
swap_of place (ends number attempt outcome now) = None
swap_of place (leaves client) = None

-- the second if present, else the first
abbrev pub later_of : {A : Type 0} → Option A → Option A → Option A
later_of first None = first
later_of first (Some x) = Some x

-- what the last swap of a slot installs in it, if there is one
abbrev pub last_swap : Slot → List Happening → Option (Option (List Insn))
last_swap place [] = None
last_swap place (first ∷ events) = later_of (swap_of place first) (last_swap place events)
