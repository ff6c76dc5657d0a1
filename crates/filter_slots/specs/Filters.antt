-- The filter programs in force, one or none per slot.
use Rattle.std.specs.Prelude.{◌≡◌, ℕ, zero, suc, ◌≤◌, ◌==◌, ◌&&◌, Bool, true, false, nat_lt, List, [], ◌∷◌, map, length, slice_get, Option, Some, None, IfSome, if◌then◌else◌}
use Rattle.std.specs.Str.{bytes_eq}
use Rattle.bpf_check.specs.declared.insn.Insn.{Insn}
use Rattle.bpf_check.specs.Accepted.{IsAccepted}
use Rattle.node_terms.specs.declared.ends.End.{End}
use Rattle.node_terms.specs.declared.ends.Socket.{Socket}
use Rattle.node_terms.specs.declared.ends.Socket.TheVariants.{Icp, Htcp}
use Rattle.filter_slots.specs.declared.slot.Slot.{Slot}
use Rattle.filter_slots.specs.declared.slot.Slot.TheVariants as slots

-- the slot of a neighbour: the socket that receives its datagrams, their source, and an optional program
pub record NeighbourSlot : Type 0 where
  pub socket : Socket
  pub end : End
  pub program : Option (List Insn)

-- an optional program for each socket, and a slot for each neighbour in configuration order
pub record Filters : Type 0 where
  pub icp : Option (List Insn)
  pub htcp : Option (List Insn)
  pub neighbours : List NeighbourSlot

-- neighbours that can have slots: at most 64, no two with the same socket and end
pub record AreNeighbours (neighbours : List (Socket × End)) : Type 0 where
  pub few : length neighbours ≤ 64
  pub apart : (m n : ℕ) (neighbour : Socket × End) → slice_get neighbours m ≡ Some neighbour → slice_get neighbours n ≡ Some neighbour → m ≡ n

-- the empty slot of a neighbour
abbrev pub empty_slot : Socket × End → NeighbourSlot
empty_slot neighbour = record { socket = neighbour.0; end = neighbour.1; program = None }

-- empty slots for these neighbours
abbrev pub no_filters : List (Socket × End) → Filters
no_filters neighbours = record { icp = None; htcp = None; neighbours = map empty_slot neighbours }

-- the program of neighbour n, counted from 0; None if its slot is empty or there is no such neighbour
abbrev pub program_at : List NeighbourSlot → ℕ → Option (List Insn)
program_at [] n = None
program_at (first ∷ others) zero = first.program
program_at (first ∷ others) (suc n) = program_at others n

-- replaces the program of neighbour n; unchanged if there is no such neighbour
abbrev pub with_program : List NeighbourSlot → ℕ → Option (List Insn) → List NeighbourSlot
with_program [] n program = []
with_program (first ∷ others) zero program = record first { program = program } ∷ others
with_program (first ∷ others) (suc n) program = first ∷ with_program others n program

-- whether the slot exists
abbrev pub has_slot : Filters → Slot → Bool
has_slot filters (slots.Socket socket) = true
has_slot filters (slots.Neighbour n) = nat_lt n (length filters.neighbours)

-- the program in a slot
abbrev pub slot : Filters → Slot → Option (List Insn)
slot filters (slots.Socket Icp) = filters.icp
slot filters (slots.Socket Htcp) = filters.htcp
slot filters (slots.Neighbour n) = program_at filters.neighbours n

-- replaces the program in a slot; unchanged if there is no such slot
abbrev pub with_slot : Filters → Slot → Option (List Insn) → Filters
with_slot filters (slots.Socket Icp) program = record filters { icp = program }
with_slot filters (slots.Socket Htcp) program = record filters { htcp = program }
with_slot filters (slots.Neighbour n) program = record filters { neighbours = with_program filters.neighbours n program }

-- equality of sockets
abbrev pub same_socket : Socket → Socket → Bool
same_socket Icp Icp = true
same_socket Icp Htcp = false
same_socket Htcp Icp = false
same_socket Htcp Htcp = true

-- whether the slot is that of the neighbour with this socket and end
abbrev pub is_of : NeighbourSlot → Socket → End → Bool
is_of neighbour socket from =
    same_socket neighbour.socket socket && bytes_eq neighbour.end.addr from.addr && (neighbour.end.port == from.port)

-- the program of the neighbour with this socket and end; None if there is no such neighbour
abbrev pub program_for : List NeighbourSlot → Socket → End → Option (List Insn)
program_for [] socket from = None
program_for (first ∷ others) socket from =
    if is_of first socket from then first.program else program_for others socket from

-- the checker accepts each installed program
abbrev pub AreAccepted : Filters → Type 0
AreAccepted filters = (place : Slot) → IfSome (slot filters place) IsAccepted
