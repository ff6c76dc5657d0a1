-- Addresses in brackets, in values of Host.
use Rattle.std.proofs.Common.{◌≡◌, ◌<◌, ◌+◌, ℕ, List, length, take, drop, true}
use Rattle.std.specs.declared.net.ipv6_addr.Ipv6Addr.{Ipv6Addr}
use Rattle.std.specs.Net.Grammar.{IsIpv6Text}
use Rattle.http_rules.specs.HostFields.{IsBracketedHost, is_port_part, place_of}

-- what is before the place of the bracket, and behind it
pub bracketed : (rest : List ℕ) (end : ℕ) (address : Ipv6Addr) → end ≡ place_of 93 rest → IsIpv6Text (take end rest) address → end < length rest
    → is_port_part (drop (end + 1) rest) ≡ true → IsBracketedHost rest
bracketed rest end address e six inside numbered =
    record { address = address; spelled = rw e at six; closed = rw e at inside; numbered = rw e at numbered }

pub spelled_at : (rest : List ℕ) (end : ℕ) → end ≡ place_of 93 rest → (b : IsBracketedHost rest) → IsIpv6Text (take end rest) b.address
spelled_at rest end e b = rw e b.spelled
