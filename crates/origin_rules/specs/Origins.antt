-- Which servers may be fetched from as origins.
use Rattle.std.specs.Prelude.{ℕ, List, [], ◌∷◌, bytes_eq, not, ◌==◌, ◌&&◌, ◌||◌, Bool, true, Vec, Option, Some, None, option_map, if◌then◌else◌}
use Rattle.std.specs.List.{list_any}
use Rattle.node_terms.specs.declared.ends.End.{End}
use Rattle.node_terms.specs.declared.network.Network.{Network}
use Rattle.node_terms.specs.Networks.{is_inside}
use Rattle.origin_rules.specs.declared.origins.OriginRules.{OriginRules}
use Rattle.origin_rules.specs.declared.origins_six.SixNetwork.{SixNetwork}

-- the address that a connection to an address reaches: Linux takes 0.0.0.0 for 127.0.0.1
abbrev pub reached : List ℕ → List ℕ
reached addr = if bytes_eq addr (0 ∷ 0 ∷ 0 ∷ 0 ∷ []) then 127 ∷ 0 ∷ 0 ∷ 1 ∷ [] else addr

-- whether a connection to a server reaches one of these sockets
abbrev pub is_own : List End → End → Bool
is_own own server = list_any (λ e. bytes_eq e.addr (reached server.addr) && (e.port == server.port)) own

-- whether an address, or the one that a connection to it reaches, is in one of these networks
abbrev pub is_denied : List Network → List ℕ → Bool
is_denied denied addr = list_any (λ network. is_inside addr network || is_inside (reached addr) network) denied

-- whether a port is one of the ports, where they are given
abbrev pub is_port : {Z : Type 0} → Option (Vec ℕ Z) → ℕ → Bool
is_port None port = true
is_port (Some ports) port = list_any (λ known. known == port) ports.items

-- the networks of IPv6 that are given, if any are
abbrev pub six_items : {Z : Type 0} → Option (Vec SixNetwork Z) → Option (List SixNetwork)
six_items networks = option_map (λ given. given.items) networks

-- whether a server may be fetched from
abbrev pub admits : OriginRules → End → Bool
admits rules server =
    not (is_own rules.own.items server)
    && (not (is_denied rules.denied.items server.addr) && is_port rules.ports server.port)

-- 127.0.0.0/8, this host
abbrev pub loopback : Network
loopback = record { addr = 127 ∷ 0 ∷ 0 ∷ 0 ∷ []; prefix = 8 }

-- 169.254.0.0/16, addresses of a link alone (RFC 3927)
abbrev pub link_local : Network
link_local = record { addr = 169 ∷ 254 ∷ 0 ∷ 0 ∷ []; prefix = 16 }

-- 0.0.0.0/8, addresses of no host (RFC 1122, section 3.2.1.3)
abbrev pub no_host : Network
no_host = record { addr = 0 ∷ 0 ∷ 0 ∷ 0 ∷ []; prefix = 8 }

-- the networks that a cache with this address never fetches from, where its configuration says nothing: a cache that is itself in
-- 127.0.0.0/8 may fetch from there
abbrev pub usual_denials : List ℕ → List Network
usual_denials address =
    if is_inside address loopback then link_local ∷ no_host ∷ [] else loopback ∷ link_local ∷ no_host ∷ []
