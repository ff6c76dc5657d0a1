-- Which servers with an address of IPv6 may be fetched from as origins. An address is a number of 128 bits here.
use Rattle.std.specs.Prelude.{ℕ, ◌+◌, ◌-◌, ◌*◌, ◌/◌, ◌%◌, ◌^◌, nat_le, not, ◌==◌, ◌&&◌, ◌||◌, Bool, true, false, Vec, List, [], ◌∷◌, Option, Some, None, is_some, if◌then◌else◌}
use Rattle.std.specs.List.{list_any}
use Rattle.std.specs.Int.{to_be_bytes, w32}
use Rattle.std.specs.declared.net.ip_addr.IpAddr.{IpAddr}
use Rattle.std.specs.declared.net.ip_addr.IpAddr.TheVariants.{V4, V6}
use Rattle.std.specs.declared.net.socket_addr.SocketAddr.{SocketAddr}
use Rattle.std.specs.Net.Addr.{is_ipv4, ipv4_octets, ipv6_bits}
use Rattle.std.specs.Net.Socket.{socket_ip, socket_port}
use Rattle.origin_rules.specs.Origins.{admits, is_port}
use Rattle.origin_rules.specs.declared.origins.OriginRules.{OriginRules}
use Rattle.origin_rules.specs.declared.origins_six.SixEnd.{SixEnd}
use Rattle.origin_rules.specs.declared.origins_six.SixNetwork.{SixNetwork}

-- the first `prefix` bits of an address
abbrev pub first_bits : ℕ → ℕ → ℕ
first_bits prefix address = address / 2 ^ (128 - prefix)

-- whether an address is in a network: their first bits are equal
abbrev pub is_inside_six : ℕ → SixNetwork → Bool
is_inside_six address network = first_bits network.prefix address == first_bits network.prefix network.address

-- whether the first 96 bits are those of ::/96, ::ffff:0:0/96, ::ffff:0:0:0/96 or 64:ff9b::/96, which end with an address of IPv4
-- (RFC 4291, section 2.5.5; RFC 2765, section 2.1; RFC 6052, section 2.1)
abbrev pub ends_with_four : ℕ → Bool
ends_with_four front = front == 0 || front == 0xffff || front == 0xffff0000 || front == 0x64ff9b * 2 ^ 64

-- the address of these eight groups of 16 bits, as texts of addresses have them (RFC 4291, section 2.2)
abbrev pub six : ℕ → ℕ → ℕ → ℕ → ℕ → ℕ → ℕ → ℕ → ℕ
six a b c d e f g h =
    a * 2 ^ 112 + b * 2 ^ 96 + c * 2 ^ 80 + d * 2 ^ 64 + e * 2 ^ 48 + f * 2 ^ 32 + g * 2 ^ 16 + h

-- the network of one address alone
abbrev pub alone : ℕ → SixNetwork
alone address = record { address = address; prefix = 128 }

-- the networks that are never fetched from, where the configuration says nothing: the addresses at which clouds tell each of their hosts
-- what that is trusted with, as 169.254.169.254 does. fd00:ec2::254 is that of AWS, fd20:ce::254 that of Google, fd00:c1::a9fe:a9fe that
-- of Oracle
abbrev pub usual_six_denials : List SixNetwork
usual_six_denials =
    alone (six 0xfd00 0xec2 0 0 0 0 0 0x254)
    ∷ alone (six 0xfd20 0xce 0 0 0 0 0 0x254)
    ∷ alone (six 0xfd00 0xc1 0 0 0 0 0xa9fe 0xa9fe)
    ∷ []

-- the address of IPv4 that one of IPv6 stands for: ::1, and ::, by which Linux reaches ::1, for 127.0.0.1; fe80::/10, addresses of a
-- link alone, for 169.254.0.0; 2002::/16 for what follows (RFC 3056, section 2); 2001::/32 for the last 32 bits, each turned
-- (RFC 4380, section 4)
abbrev pub stands_for : ℕ → Option ℕ
stands_for address =
    if nat_le address 1 then Some 0x7f000001
    else if address / 2 ^ 118 == 0x3fa then Some 0xa9fe0000
    else if ends_with_four (address / 2 ^ 32) then Some (address % 2 ^ 32)
    else if address / 2 ^ 112 == 0x2002 then Some (address / 2 ^ 80 % 2 ^ 32)
    else if address / 2 ^ 96 == 0x20010000 then Some (0xffffffff - address % 2 ^ 32)
    else None

-- whether a server at this address of IPv4, as a number, may be fetched from
abbrev pub admits_four : OriginRules → ℕ → ℕ → Bool
admits_four rules address port = admits rules (record { addr = to_be_bytes w32 address; port = port })

-- the same, if there is an address
abbrev pub is_as : OriginRules → Option ℕ → ℕ → Bool
is_as rules None port = true
is_as rules (Some address) port = admits_four rules address port

-- the address that a connection to an address reaches: Linux takes :: for ::1, and ::ffff:0.0.0.0 for ::ffff:127.0.0.1
abbrev pub reached_six : ℕ → ℕ
reached_six address =
    if address == 0 then 1
    else if address == 0xffff * 2 ^ 32 then 0xffff * 2 ^ 32 + 0x7f000001
    else address

-- whether an address, or the one that a connection to it reaches, is in one of these networks; each is, where there are none at all
abbrev pub is_denied_six : {Z : Type 0} → Option (Vec SixNetwork Z) → ℕ → Bool
is_denied_six None address = true
is_denied_six (Some denied) address =
    list_any (λ network. is_inside_six address network || is_inside_six (reached_six address) network) denied.items

-- whether a connection to a server reaches the cache's own socket, if it has one of IPv6
abbrev pub is_own_six : Option SixEnd → ℕ → ℕ → Bool
is_own_six None address port = false
is_own_six (Some own) address port = own.address == reached_six address && own.port == port

-- whether a server of IPv6 may be fetched from
abbrev pub admits_six : OriginRules → ℕ → ℕ → Bool
admits_six rules address port =
    not (is_own_six rules.own_six address port)
    && (not (is_denied_six rules.denied_six address)
    && (is_port rules.ports port && is_as rules (stands_for address) port))

-- whether a server may be fetched from, by the kind of its address
abbrev pub admits_ip : OriginRules → IpAddr → ℕ → Bool
admits_ip rules (V4 address) port = admits rules (record { addr = ipv4_octets address; port = port })
admits_ip rules (V6 address) port = admits_six rules (ipv6_bits address) port

abbrev pub admits_at : OriginRules → SocketAddr → Bool
admits_at rules server = admits_ip rules (socket_ip server) (socket_port server)

-- whether a server that a request names by its address is refused: one of IPv6 is taken for a name, where there are none
abbrev pub refuses : OriginRules → SocketAddr → Bool
refuses rules server = (is_ipv4 (socket_ip server) || is_some rules.denied_six) && not (admits_at rules server)
