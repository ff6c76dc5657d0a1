-- The neighbours and the signing keys of a configuration, and what else it says about its node.
use Rattle.std.specs.Prelude.{◌≡◌, ℕ, ◌≤◌, ◌==◌, List, length, codes, if◌then◌else◌, Option, Some, None, IsSomeAnd, Ok}
use Rattle.node_terms.specs.declared.ends.Socket.{Socket}
use Rattle.node_terms.specs.declared.ends.Socket.TheVariants.{Icp, Htcp}
use Rattle.hex.specs.Hex.{decode_of}
use Rattle.neighbours.specs.declared.neighbour.Neighbour.{Neighbour}
use Rattle.neighbours.specs.declared.neighbour.Role.{Role}
use Rattle.neighbours.specs.declared.neighbour.Role.TheVariants.{Sibling, Parent}
use Rattle.neighbours.specs.declared.key.Key.{Key}
use Rattle.serde_json.specs.Data.{Data}
use Rattle.serde_json.specs.Find.{as_str}
use Rattle.serve_config.specs.Addresses.{IsHost}
use Rattle.serve_config.specs.Said.{IsText, IsWhole, Says}

-- the words for what a neighbour is, and for the protocol of its queries
abbrev pub role_word : Role → List ℕ
role_word Sibling = codes "sibling"
role_word Parent = codes "parent"

abbrev pub protocol_word : Socket → List ℕ
protocol_word Icp = codes "icp"
protocol_word Htcp = codes "htcp"

abbrev pub IsRole : Data → Role → Type 0
IsRole value role = IsText value (role_word role)

abbrev pub IsProtocol : Data → Socket → Type 0
IsProtocol value protocol = IsText value (protocol_word protocol)

-- the key that a text names: none if it is empty
abbrev pub key_named : List ℕ → Option (List ℕ)
key_named text = if length text == 0 then None else Some text

abbrev pub IsKeyName : Data → Option (List ℕ) → Type 0
IsKeyName value key = IsSomeAnd (as_str value) (λ text. key_named text ≡ key)

-- a neighbour as it is written; it can be queried and fetched from: the address of a host, and no port 0
pub record IsNeighbour (value : Data) (neighbour : Neighbour) : Type 0 where
  pub kind : Says IsRole (codes "kind") value neighbour.kind
  pub protocol : Says IsProtocol (codes "protocol") value neighbour.protocol
  pub host : Says IsHost (codes "address") value neighbour.end.addr
  pub query_port : Says (IsWhole 1 65535) (codes "query_port") value neighbour.end.port
  pub http_port : Says (IsWhole 1 65535) (codes "http_port") value neighbour.http_port
  pub weight : Says (IsWhole 1 100) (codes "weight") value neighbour.weight
  pub key : Says IsKeyName (codes "key") value neighbour.key

-- a secret: at least one octet, in hexadecimal
pub record IsSecret (value : Data) (secret : List ℕ) : Type 0 where
  pub said : IsSomeAnd (as_str value) (λ text. decode_of text ≡ Ok secret)
  pub some : 1 ≤ length secret

-- a key as it is written
pub record IsKey (value : Data) (key : Key) : Type 0 where
  pub name : Says IsText (codes "name") value key.name
  pub secret : Says IsSecret (codes "secret") value key.secret
