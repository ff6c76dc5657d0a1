-- The order in which the addresses of a name are connected to.
use Rattle.std.specs.Prelude.{ℕ, ◌+◌, ◌==◌, ◌&&◌, not, Bool, true, false, List, [], ◌∷◌, ◌++◌, take, drop, slice_get, Option, Some, None, if◌then◌else◌}
use Rattle.std.specs.List.{list_any}
use Rattle.std.specs.Net.Addr.{ipv4_bits, ipv6_bits}
use Rattle.std.specs.declared.net.ip_addr.IpAddr.{IpAddr}
use Rattle.std.specs.declared.net.ip_addr.IpAddr.TheVariants.{V4, V6}

-- whether both are the same address
abbrev pub is_same : IpAddr → IpAddr → Bool
is_same (V4 one) (V4 other) = ipv4_bits one == ipv4_bits other
is_same (V4 one) (V6 other) = false
is_same (V6 one) (V4 other) = false
is_same (V6 one) (V6 other) = ipv6_bits one == ipv6_bits other

-- whether an address is one of IPv4, or where `is_four` is false, one of IPv6
abbrev pub is_of : Bool → IpAddr → Bool
is_of is_four (V4 address) = is_four
is_of is_four (V6 address) = not is_four

-- the addresses of a family, each where it stands first, but for those that were found before
abbrev pub first_ones : Bool → List IpAddr → List IpAddr → List IpAddr
first_ones is_four before [] = []
first_ones is_four before (address ∷ addresses) =
    if is_of is_four address && not (list_any (is_same address) before)
    then address ∷ first_ones is_four (before ++ address ∷ []) addresses
    else first_ones is_four before addresses

-- two lists by turns; what one has more than the other stands at the end
abbrev pub by_turns : List IpAddr → List IpAddr → List IpAddr
by_turns [] second = second
by_turns (one ∷ first) [] = one ∷ first
by_turns (one ∷ first) (other ∷ second) = one ∷ other ∷ by_turns first second

-- the families by turns, IPv4 first, each address once, and at most 8
abbrev pub in_turn : List IpAddr → Bool → List IpAddr
in_turn addresses has_six =
    take 8 (if has_six then by_turns (first_ones true [] addresses) (first_ones false [] addresses) else first_ones true [] addresses)

-- the one at a place before the others
abbrev pub brought : List IpAddr → ℕ → Option IpAddr → List IpAddr
brought addresses place None = addresses
brought addresses place (Some address) = address ∷ take place addresses ++ drop (place + 1) addresses

abbrev pub forward : ℕ → List IpAddr → List IpAddr
forward place addresses = brought addresses place (slice_get addresses place)
