-- The pairs of a store: their sizes, freshness, lookup, and the longest prefix within limits.
use Rattle.std.specs.Prelude.{◌≡◌, ℕ, ◌+◌, ◌-◌, ◌*◌, ◌≤◌, nat_lt, nat_le, bytes_eq, Bool, not, ◌&&◌, if◌then◌else◌, List, [], ◌∷◌, length, take, filter, sum_by, Option, Some, None}
use Rattle.std.specs.Map.{lookup}
use Rattle.object_store.specs.declared.entry.Entry.{Entry}

-- a key and its entry
abbrev pub Pair : Type 0
Pair = List ℕ × Entry

-- the octets of an entry: names and values of its head, and its body
abbrev pub octets_in : Entry → ℕ
octets_in entry = sum_by (λ field. length field.0 + length field.1) entry.object.head + length entry.object.body

-- the size of a pair: its key and its entry
abbrev pub size_of : List ℕ → Entry → ℕ
size_of key entry = length key + octets_in entry

-- the total size of the pairs
abbrev pub total_size : List Pair → ℕ
total_size pairs = sum_by (λ pair. size_of pair.0 pair.1) pairs

-- whether an entry is fresh at a time in milliseconds: before the time of storing plus the object's life, in seconds
abbrev pub is_fresh : ℕ → Entry → Bool
is_fresh now entry = nat_lt now (entry.at + 1000 * entry.object.life)

-- the entry of a key
abbrev pub entry_at : List ℕ → List Pair → Option Entry
entry_at key pairs = lookup (bytes_eq key) pairs

-- drops an entry that is not fresh
abbrev pub fresh_only : ℕ → Option Entry → Option Entry
fresh_only now None = None
fresh_only now (Some entry) = if is_fresh now entry then Some entry else None

-- removes the pairs of a key
abbrev pub without : List ℕ → List Pair → List Pair
without key pairs = filter (λ pair. not (bytes_eq key pair.0)) pairs

-- the pairs after a lookup: a fresh entry moves to the front, a stale one is removed
abbrev pub pairs_after_get : List ℕ → ℕ → List Pair → Option Entry → List Pair
pairs_after_get key now pairs None = pairs
pairs_after_get key now pairs (Some entry) = if is_fresh now entry then (key, entry) ∷ without key pairs else without key pairs

-- the longest prefix of the pairs within the limits
abbrev pub cut : ℕ → ℕ → List Pair → List Pair
cut entries octets [] = []
cut entries octets (pair ∷ pairs) =
    if nat_le 1 entries && nat_le (size_of pair.0 pair.1) octets then pair ∷ cut (entries - 1) (octets - size_of pair.0 pair.1) pairs else []

-- the pairs are within both limits
pub record IsWithin (entries octets : ℕ) (pairs : List Pair) : Type 0 where
  pub few : length pairs ≤ entries
  pub small : total_size pairs ≤ octets

-- `front` is the longest prefix of the pairs that is within both limits
pub record IsLongestFront (entries octets : ℕ) (pairs front : List Pair) : Type 0 where
  pub front_is : front ≡ take (length front) pairs
  pub within : IsWithin entries octets front
  pub longest : (count : ℕ) → IsWithin entries octets (take count pairs) → length (take count pairs) ≤ length front
