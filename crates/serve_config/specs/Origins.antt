-- Which origins a configuration allows and denies, and how addresses and networks are written. 47 is a slash.
use Rattle.std.specs.Prelude.{ℕ, ◌≡◌, ◌≤◌, ◌==◌, ◌⊎◌, List, [], ◌∷◌, length, codes, false, Option, IsSomeAnd, is_some, unwrap_or}
use Rattle.std.specs.List.{after_first, before_first}
use Rattle.std.specs.Net.Addr.{ipv6_bits}
use Rattle.std.specs.Net.Grammar.{IsDotted, IsIpv6Text, IsNumber}
use Rattle.std.specs.declared.net.ipv6_addr.Ipv6Addr.{Ipv6Addr}
use Rattle.node_terms.specs.declared.network.Network.{Network}
use Rattle.serde_json.specs.Data.{Data}
use Rattle.serde_json.specs.Find.{as_str, get}
use Rattle.serve_config.specs.Said.{IsListOf, IsTruth, IsWhole, MaySay, SaysOr, listed}
use Rattle.serve_config.specs.declared.origins.SixNetwork.{SixNetwork}

-- the two parts of a network such as `10.0.0.0/8`
abbrev pub address_part : List ℕ → List ℕ
address_part text = before_first (λ c. c == 47) text

abbrev pub bits_part : List ℕ → List ℕ
bits_part text = after_first (λ c. c == 47) text

-- a network: an address, and in decimal digits how many of its first bits all addresses of the network have
pub record IsNetworkText (text : List ℕ) (network : Network) : Type 0 where
  pub address : IsDotted (address_part text) network.addr
  pub bits : IsNumber 10 (bits_part text) network.prefix
  pub most : network.prefix ≤ 32

-- an address of IPv6, as a number of 128 bits
pub record IsSixText (text : List ℕ) (number : ℕ) : Type 0 where
  pub address : Ipv6Addr
  pub spelled : IsIpv6Text text address
  pub value : number ≡ ipv6_bits address

-- a network of IPv6, such as `2001:db8::/32`
pub record IsSixNetworkText (text : List ℕ) (network : SixNetwork) : Type 0 where
  pub address : IsSixText (address_part text) network.address
  pub bits : IsNumber 10 (bits_part text) network.prefix
  pub most : network.prefix ≤ 128

-- the values that have these texts
abbrev pub IsNetwork : Data → Network → Type 0
IsNetwork value network = IsSomeAnd (as_str value) (λ text. IsNetworkText text network)

abbrev pub IsSixNetwork : Data → SixNetwork → Type 0
IsSixNetwork value network = IsSomeAnd (as_str value) (λ text. IsSixNetworkText text network)

-- values of which each is the next network of one of two lists
abbrev pub AreDenied : List Data → List Network → List SixNetwork → Type 0
AreDenied [] four six = (four ≡ []) × (six ≡ [])
AreDenied (value ∷ values) four six =
    ((network : Network) × (rest : List Network) × (four ≡ network ∷ rest) × IsNetwork value network
    × AreDenied values rest six)
    ⊎ ((network : SixNetwork) × (rest : List SixNetwork) × (six ≡ network ∷ rest) × IsSixNetwork value network
    × AreDenied values four rest)

-- one or more ports, none of them 0
pub record ArePorts (value : Data) (ports : List ℕ) : Type 0 where
  pub some : 1 ≤ length ports
  pub each : IsListOf (IsWhole 1 65535) value ports

-- what a configuration says about origins: which networks are denied, those of IPv6 where such origins are fetched from, and which
-- ports are allowed alone
pub record AreOrigins (settings : Data) (four : Option (List Network)) (ports : Option (List ℕ)) (six : Option (List SixNetwork)) : Type 0 where
  pub origins6 : SaysOr false IsTruth (codes "origins6") settings (is_some six)
  pub given : is_some four ≡ is_some (get (codes "deny_origins") settings)
  pub deny_origins : IsSomeAnd (listed (codes "deny_origins") settings)
      (λ values. AreDenied values (unwrap_or four []) (unwrap_or six []))
  pub origin_ports : MaySay ArePorts (codes "origin_ports") settings ports
