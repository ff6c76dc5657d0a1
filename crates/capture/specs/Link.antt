-- Which octets of a frame are a packet of the Internet Protocol, by the frame's link type.
-- The link types and their headers are those of the list of tcpdump.org (LINKTYPE_ values).
use Rattle.std.specs.Prelude.{ℕ, ◌==◌, ◌||◌, ◌&&◌, nat_le, Bool, if◌then◌else◌, List, length, drop, Option, Some, None}
use Rattle.byteorder.specs.Endian.{big_number, little_number}
use Rattle.capture.specs.declared.link.Link.{Link}
use Rattle.capture.specs.declared.link.Link.TheVariants.{Raw, Ethernet, Cooked, CookedTwo, Null, Loop}
use Rattle.capture.specs.Fields.{pair}

-- the link type with this number, where it is one that is read
abbrev pub link_of : ℕ → Option Link
link_of number =
    if number == 0 then Some Null
    else if number == 1 then Some Ethernet
    else if (number == 12) || (number == 14) || (number == 101) || (number == 228) then Some Raw
    else if number == 108 then Some Loop
    else if number == 113 then Some Cooked
    else if number == 276 then Some CookedTwo
    else None

-- the type of IPv4 in Ethernet's list of types
abbrev pub untagged : ℕ → List ℕ → Option (List ℕ)
untagged type rest = if type == 0x0800 then Some rest else None

-- a type that says that a VLAN tag of two octets and a further type follow: IEEE 802.1Q, 802.1ad, and 0x9100 of before
abbrev pub is_tag : ℕ → Bool
is_tag type = (type == 0x8100) || (type == 0x88a8) || (type == 0x9100)

-- what follows a type, behind one tag at most
abbrev pub tagged_once : ℕ → List ℕ → Option (List ℕ)
tagged_once type rest =
    if is_tag type && nat_le 4 (length rest) then untagged (pair rest 2) (drop 4 rest) else untagged type rest

-- what follows a type, behind two tags at most
abbrev pub by_type : ℕ → List ℕ → Option (List ℕ)
by_type type rest =
    if is_tag type && nat_le 4 (length rest) then tagged_once (pair rest 2) (drop 4 rest) else tagged_once type rest

-- the frame has a header of so many octets, with a type of Ethernet's list at the place
abbrev pub behind_type : ℕ → ℕ → List ℕ → Option (List ℕ)
behind_type header at frame = if nat_le header (length frame) then by_type (pair frame at) (drop header frame) else None

-- the address family of IPv4, which is 2 on each system; BSD's loopback header has it in the order of the machine, or of the net
abbrev pub is_family : Link → List ℕ → Bool
is_family Null frame = (big_number 4 frame == 2) || (little_number 4 frame == 2)
is_family link frame = big_number 4 frame == 2

-- what follows a family of four octets
abbrev pub behind_family : Link → List ℕ → Option (List ℕ)
behind_family link frame = if nat_le 4 (length frame) && is_family link frame then Some (drop 4 frame) else None

-- the packet in a frame; a header's fields that aren't named here are not looked at
abbrev pub packet_in : Link → List ℕ → Option (List ℕ)
packet_in Raw frame = Some frame
packet_in Ethernet frame = behind_type 14 12 frame
packet_in Cooked frame = behind_type 16 14 frame
packet_in CookedTwo frame = behind_type 20 0 frame
packet_in Null frame = behind_family Null frame
packet_in Loop frame = behind_family Loop frame
