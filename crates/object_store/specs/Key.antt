-- Cache keys: URLs as received that start with `http://` and have at most 8,192 octets, each visible ASCII.
use Rattle.std.specs.Prelude.{◌≡◌, ℕ, ◌≤◌, List, codes, length, take, All}
use Rattle.object_store.specs.declared.key.KeyFault.{KeyFault}
use Rattle.object_store.specs.declared.key.KeyFault.TheVariants.{NotKey, NoMemory}

-- an octet that is allowed in a key
abbrev pub IsVisible : ℕ → Type 0
IsVisible octet = (0x21 ≤ octet) × (octet ≤ 0x7e)

-- the octets are a valid key
pub record IsKey (octets : List ℕ) : Type 0 where
  pub begins : take 7 octets ≡ codes "http://"
  pub short : length octets ≤ 8192
  pub visible : All IsVisible octets

-- why octets are rejected: they are not a key, or the allocation failed
abbrev pub IsKeyFault : List ℕ → KeyFault → Type 0
IsKeyFault octets NotKey = IsKey octets → ⊥
IsKeyFault octets NoMemory = IsKey octets
