-- Addresses of hosts.
use Rattle.std.specs.Prelude.{ℕ, ◌≡◌, List, [], ◌∷◌, bytes_eq, not, Bool, true, IsSomeAnd}
use Rattle.std.specs.Net.Grammar.{IsDotted}
use Rattle.serde_json.specs.Data.{Data}
use Rattle.serde_json.specs.Find.{as_str}

-- whether an address is that of a host: any but 0.0.0.0
abbrev pub is_host : List ℕ → Bool
is_host address = not (bytes_eq address (0 ∷ 0 ∷ 0 ∷ 0 ∷ []))

-- the value of an address: a text such as `10.0.0.1`, and the address of a host
abbrev pub IsHost : Data → List ℕ → Type 0
IsHost value address = IsSomeAnd (as_str value) (λ text. IsDotted text address × (is_host address ≡ true))
