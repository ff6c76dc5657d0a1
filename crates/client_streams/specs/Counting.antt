-- At which address a client's seat is counted. Only contracts of private functions use this.
use Rattle.std.specs.Prelude.{◌≡◌, ℕ, List, [], ◌∷◌, ◌++◌, take}
use Rattle.std.specs.declared.net.ip_addr.IpAddr.{IpAddr}
use Rattle.std.specs.Net.Addr.{MatchIp, IsV6And, ipv6_segments}

-- the first address of the network of 64 bits that an address of IPv6 is in: its interface identifier, the last four segments, is 0
-- (RFC 4291, section 2.5.4); a host may have each address of such a network (RFC 7934)
abbrev pub network_start : List ℕ → List ℕ
network_start segments = take 4 segments ++ 0 ∷ 0 ∷ 0 ∷ 0 ∷ []

-- one of IPv4 is counted by itself, one of IPv6 by its network
abbrev pub IsCountedAt : IpAddr → IpAddr → Type 0
IsCountedAt address counted =
    MatchIp address (λ _. counted ≡ address)
    (λ six. IsV6And counted (λ start. ipv6_segments start ≡ network_start (ipv6_segments six)))
