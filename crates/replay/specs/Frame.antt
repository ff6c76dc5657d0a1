-- The frame of a captured packet.
use Rattle.std.specs.Prelude.{ℕ, List, Option}
use Rattle.capture.specs.declared.link.Link.{Link}
use Rattle.capture.specs.Udp.{UdpFields, udp_at}

-- its link type, if it is one that is read, and the captured octets
pub record Frame : Type 0 where
  pub link : Option Link
  pub octets : List ℕ

-- the datagram in a frame, if there is one
abbrev pub datagram_in : Frame → Option UdpFields
datagram_in frame = udp_at frame.link frame.octets
