-- Programs that read the frame type of an Ethernet frame first, as a compiler of tcpdump's expressions makes them for Ethernet. A
-- datagram has addresses there.
use Rattle.std.specs.Prelude.{ℕ, List, ◌∷◌, Bool, false, ◌==◌, ◌&&◌, ◌||◌}
use Rattle.bpf_check.specs.declared.insn.Insn.{Insn}

-- `ldh [12]`: the half word that is the type of a frame
abbrev pub loads_frame_type : Insn → Bool
loads_frame_type i = (i.code == 0x28) && (i.k == 12)

-- IPv4, ARP, reverse ARP, a VLAN's tag, IPv6
abbrev pub is_frame_type : ℕ → Bool
is_frame_type k = (k == 0x800) || (k == 0x806) || (k == 0x8035) || (k == 0x8100) || (k == 0x86dd)

-- `jeq` with one of these types
abbrev pub asks_for_frame_type : Insn → Bool
asks_for_frame_type i = (i.code == 0x15) && is_frame_type i.k

-- a program that begins with both
abbrev pub is_for_ethernet : List Insn → Bool
is_for_ethernet (i ∷ j ∷ _) = loads_frame_type i && asks_for_frame_type j
is_for_ethernet _ = false
