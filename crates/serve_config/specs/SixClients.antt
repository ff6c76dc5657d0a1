-- Clients with addresses of IPv6. An address is a number of 128 bits here.
use Rattle.std.specs.Prelude.{◌≡◌, ℕ, ◌/◌, ◌^◌, ◌==◌, ◌||◌, not, Bool, true, codes, Option, IfSome, IsSomeAnd, is_some}
use Rattle.serde_json.specs.Data.{Data}
use Rattle.serde_json.specs.Find.{as_str, get}
use Rattle.serve_config.specs.Origins.{IsSixNetwork, IsSixText}
use Rattle.serve_config.specs.Said.{Lists, Says}
use Rattle.serve_config.specs.declared.six_clients.SixClients.{SixClients}

-- whether a socket for clients of IPv6 can be at an address: any but :: (RFC 4291, section 2.5.2), those of ::ffff:0:0/96, which stand for
-- addresses of IPv4 (section 2.5.5.2), those of a link alone, fe80::/10 (section 2.5.6), and those of groups, ff00::/8 (section 2.7)
abbrev pub is_host_six : ℕ → Bool
is_host_six address =
    not (address == 0 || address / 2 ^ 32 == 65535 || address / 2 ^ 118 == 1018 || address / 2 ^ 120 == 255)

-- the value of such an address
abbrev pub IsHostSix : Data → ℕ → Type 0
IsHostSix value address = IsSomeAnd (as_str value) (λ text. IsSixText text address × (is_host_six address ≡ true))

-- what a configuration says about these clients: both keys or neither
pub record AreSixClients (settings : Data) (clients : Option SixClients) : Type 0 where
  pub addressed : is_some clients ≡ is_some (get (codes "http_address6") settings)
  pub listed : is_some clients ≡ is_some (get (codes "allowed6") settings)
  pub address : IfSome clients (λ c. Says IsHostSix (codes "http_address6") settings c.address)
  pub networks : IfSome clients (λ c. Lists IsSixNetwork (codes "allowed6") settings c.allowed.items)
