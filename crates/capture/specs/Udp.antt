-- The UDP datagram (RFC 768) in an IPv4 packet (RFC 791), as far as it was captured.
-- A fragment that isn't the first has no UDP header and is no datagram. A datagram isn't whole where its UDP length goes beyond
-- what was captured of its packet: so it is in the first of several fragments, whose UDP length counts all of them, and in a packet
-- that the capture's snap length cut. Nothing else of a first fragment is looked at.
use Rattle.std.specs.Prelude.{ℕ, ◌==◌, ◌&&◌, ◌-◌, ◌*◌, ◌/◌, ◌%◌, nat_le, Bool, if◌then◌else◌, List, [], ◌∷◌, length, take, drop, slice_index, Option, Some, None}
use Rattle.node_terms.specs.declared.ends.End.{End}
use Rattle.capture.specs.declared.link.Link.{Link}
use Rattle.capture.specs.Fields.{pair}
use Rattle.capture.specs.Link.{packet_in}

-- a datagram: source, destination, the captured payload, and whether that is all of it
pub record UdpFields : Type 0 where
  pub from : End
  pub to : End
  pub payload : List ℕ
  pub whole : Bool

-- the fields of an IPv4 header
abbrev pub version : List ℕ → ℕ
version packet = slice_index packet 0 / 16

abbrev pub header_length : List ℕ → ℕ
header_length packet = 4 * (slice_index packet 0 % 16)

abbrev pub total_length : List ℕ → ℕ
total_length packet = pair packet 2

abbrev pub fragment_offset : List ℕ → ℕ
fragment_offset packet = pair packet 6 % 8192

abbrev pub protocol : List ℕ → ℕ
protocol packet = slice_index packet 9

abbrev pub source : List ℕ → List ℕ
source packet =
    slice_index packet 12 ∷ slice_index packet 13 ∷ slice_index packet 14 ∷ slice_index packet 15 ∷ []

abbrev pub destination : List ℕ → List ℕ
destination packet =
    slice_index packet 16 ∷ slice_index packet 17 ∷ slice_index packet 18 ∷ slice_index packet 19 ∷ []

-- a packet of version 4 with a whole header, of UDP, that isn't a later fragment
abbrev pub carries_udp : List ℕ → Bool
carries_udp packet =
    nat_le 20 (length packet)
    && (version packet == 4)
    && nat_le 20 (header_length packet)
    && nat_le (header_length packet) (total_length packet)
    && nat_le (header_length packet) (length packet)
    && (protocol packet == 17)
    && (fragment_offset packet == 0)

-- what follows the header, up to the packet's length: what a link pads it with is left out
abbrev pub carried : List ℕ → List ℕ
carried packet = take (total_length packet - header_length packet) (drop (header_length packet) packet)

-- the length field of a UDP header: header and payload
abbrev pub udp_length : List ℕ → ℕ
udp_length segment = pair segment 4

-- a whole UDP header with a length that can be
abbrev pub is_udp : List ℕ → Bool
is_udp segment = nat_le 8 (length segment) && nat_le 8 (udp_length segment)

-- the datagram of a packet and of what it carries
abbrev pub datagram_of : List ℕ → List ℕ → UdpFields
datagram_of packet segment = record {
  from = record { addr = source packet; port = pair segment 0 };
  to = record { addr = destination packet; port = pair segment 2 };
  payload = take (udp_length segment - 8) (drop 8 segment);
  whole = nat_le (udp_length segment) (length segment);
}

-- the datagram in a packet, if there is one
abbrev pub udp_of : List ℕ → Option UdpFields
udp_of packet =
    if carries_udp packet && is_udp (carried packet) then Some (datagram_of packet (carried packet)) else None

-- the same, if there is a packet
abbrev pub udp_if : Option (List ℕ) → Option UdpFields
udp_if None = None
udp_if (Some packet) = udp_of packet

-- the datagram in a frame, if there is one
abbrev pub udp_in : Link → List ℕ → Option UdpFields
udp_in link frame = udp_if (packet_in link frame)

-- likewise where a frame may be of a link type that isn't read: it holds none
abbrev pub udp_at : Option Link → List ℕ → Option UdpFields
udp_at None frame = None
udp_at (Some link) frame = udp_in link frame
