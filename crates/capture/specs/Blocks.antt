-- What the blocks of a pcapng file say: packets, and the interfaces of their section. Places are octets from the block's start.
use Rattle.std.specs.Prelude.{◌≡◌, ℕ, ◌+◌, ◌*◌, ◌==◌, ◌&&◌, ◌||◌, ◌≤◌, nat_le, min, Bool, if◌then◌else◌, List, [], ◌∷◌, ◌++◌, length, take, drop, Option, Some, None}
use Rattle.std.specs.List.{slice_get}
use Rattle.capture.specs.declared.order.Order.{Order}
use Rattle.capture.specs.declared.interface.Interface.{Interface}
use Rattle.capture.specs.declared.packet.Fields.{Fields}
use Rattle.capture.specs.declared.head.PacketHead.{PacketHead}
use Rattle.capture.specs.Fields.{half, word}
use Rattle.capture.specs.Block.{begins_section}
use Rattle.capture.specs.Interface.{interface_of}
use Rattle.capture.specs.Moment.{head_by}

-- the moment in a packet block: the upper and the lower word of a number
abbrev pub stamp_of : Order → List ℕ → ℕ
stamp_of order block = word order block 12 * 4294967296 + word order block 16

-- an enhanced packet block or, of before, a packet block, which differ in how they name the interface
abbrev pub stamped : Order → ℕ → List ℕ → Fields
stamped order interface block = record {
  interface = interface;
  stamp = Some (stamp_of order block);
  captured = Some (word order block 20);
  original = word order block 24;
  at = 28;
}

-- a simple packet block: a packet of the first interface
abbrev pub simple : Order → List ℕ → Fields
simple order block = record { interface = 0; stamp = None; captured = None; original = word order block 8; at = 12 }

-- what a packet block's fields say, where it has room for them
abbrev pub fields_of : Order → List ℕ → Option Fields
fields_of order block =
    if (word order block 0 == 6) && nat_le 32 (length block) then Some (stamped order (word order block 8) block)
    else if (word order block 0 == 2) && nat_le 32 (length block) then Some (stamped order (half order block 8) block)
    else if (word order block 0 == 3) && nat_le 16 (length block) then Some (simple order block)
    else None

-- the number of captured octets; a simple packet block has as many as its interface captures of a packet (0: all)
abbrev pub captured_by : Interface → ℕ → Option ℕ → ℕ
captured_by interface original (Some captured) = captured
captured_by interface original None = if interface.snap == 0 then original else min original interface.snap

-- a packet block of an interface that was described, before the length at its end
pub record HoldsPacket (order : Order) (interfaces : List Interface) (block : List ℕ) (head : PacketHead) (captured : List ℕ) : Type 0 where
  pub fields : Fields
  pub fields_are : fields_of order block ≡ Some fields
  pub interface : Interface
  pub described : slice_get interfaces fields.interface ≡ Some interface
  pub within : fields.at + captured_by interface fields.original fields.captured + 4 ≤ length block
  pub captured_is : captured ≡ take (captured_by interface fields.original fields.captured) (drop fields.at block)
  pub head_is : head ≡ head_by interface fields

-- a section header of version 1
abbrev pub is_section : Order → List ℕ → Bool
is_section order block = nat_le 28 (length block) && (half order block 12 == 1)

-- the types of packet blocks
abbrev pub is_packet : ℕ → Bool
is_packet kind = (kind == 2) || (kind == 3) || (kind == 6)

-- The interfaces of the section after a block without a packet, where it has room for its fields; a section header begins anew.
abbrev pub interfaces_after : Order → List Interface → List ℕ → Option (List Interface)
interfaces_after order interfaces block =
    if begins_section block then (if is_section order block then Some [] else None)
    else if word order block 0 == 1 then
    (if nat_le 20 (length block) then Some (interfaces ++ interface_of order block ∷ []) else None)
    else Some interfaces
