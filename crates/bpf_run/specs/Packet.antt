-- The packet that a filter sees: 28 header octets, laid out as an IPv4 header and a UDP header without identification
-- and checksums, followed by the payload.
use Rattle.std.specs.Prelude.{ℕ, ◌+◌, List, [], ◌∷◌, ◌++◌, length}
use Rattle.std.specs.Int.{to_be_bytes, w16}
use Rattle.node_terms.specs.declared.ends.End.{End}

-- the number of header octets
abbrev pub header_octets : ℕ
header_octets = 28

-- the maximum payload of a UDP datagram over IPv4, in octets
abbrev pub most_payload : ℕ
most_payload = 65507

-- the header of a payload of n octets
abbrev pub header_of : End → End → ℕ → List ℕ
header_of from to n =
    -- version 4, header length 5 words, type of service 0
    (0x45 ∷ 0 ∷ [])
    -- the total length
    ++ to_be_bytes w16 (header_octets + n)
    -- identification 0, no fragments
    ++ (0 ∷ 0 ∷ 0 ∷ 0 ∷ [])
    -- time to live 64, protocol 17 (UDP), no checksum
    ++ (64 ∷ 17 ∷ 0 ∷ 0 ∷ [])
    -- source and destination address
    ++ from.addr ++ to.addr
    -- source and destination port
    ++ to_be_bytes w16 from.port ++ to_be_bytes w16 to.port
    -- the length of UDP header and payload, no checksum
    ++ to_be_bytes w16 (8 + n) ++ (0 ∷ 0 ∷ [])

-- the header, followed by the payload
abbrev pub filter_packet : End → End → List ℕ → List ℕ
filter_packet from to payload = header_of from to (length payload) ++ payload
