-- Which datagrams of a capture are judged: those for the two query sockets that were captured as a whole.
use Rattle.std.specs.Prelude.{ℕ, ◌==◌, ◌&&◌, nat_le, Bool, true, if◌then◌else◌, List, length, Option, Some, None}
use Rattle.std.specs.Str.{bytes_eq}
use Rattle.node_terms.specs.declared.ends.End.{End}
use Rattle.node_terms.specs.declared.ends.Socket.{Socket}
use Rattle.node_terms.specs.declared.ends.Socket.TheVariants.{Icp, Htcp}
use Rattle.bpf_run.specs.Packet.{most_payload}
use Rattle.capture.specs.Udp.{UdpFields}
use Rattle.replay.specs.declared.aim.Aim.{Aim}

-- the address is the cache's own; where none is given, each address is
abbrev pub is_own : Option (List ℕ) → List ℕ → Bool
is_own None address = true
is_own (Some own) address = bytes_eq own address

-- the query socket with this port, if there is one
abbrev pub socket_at : Aim → ℕ → Option Socket
socket_at aim port =
    if port == aim.icp_port then Some Icp else if port == aim.htcp_port then Some Htcp else None

-- the query socket that a datagram is for, if it is for one
abbrev pub socket_of : Aim → End → Option Socket
socket_of aim to = if is_own aim.own to.addr then socket_at aim to.port else None

-- all of its payload was captured
abbrev pub is_complete : UdpFields → Bool
is_complete d = d.whole && nat_le (length d.payload) most_payload
