-- Datagrams, and their source and destination as 12 octets.
use Rattle.std.specs.Prelude.{ℕ, List, ◌++◌}
use Rattle.std.specs.Int.{to_be_bytes, w16}
use Rattle.node_terms.specs.declared.ends.End.{End}
use Rattle.node_terms.specs.declared.ends.Socket.{Socket}

-- a datagram: the socket that received it, source, destination and payload
pub record DatagramFields : Type 0 where
  pub socket : Socket
  pub from : End
  pub to : End
  pub payload : List ℕ

-- source address and port, destination address and port, in network byte order
abbrev pub ends_of : End → End → List ℕ
ends_of from to = from.addr ++ to_be_bytes w16 from.port ++ to.addr ++ to_be_bytes w16 to.port
