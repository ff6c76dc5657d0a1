-- Faults of a configuration of neighbours and signing keys, and the invariant of a table.
use Rattle.std.specs.Prelude.{◌≡◌, ℕ, ◌≤◌, Bool, true, false, not, nat_lt, nat_le, ◌&&◌, ◌||◌, List, [], ◌∷◌, length, All, Option, Some, None, if◌then◌else◌}
use Rattle.std.specs.List.{list_any, list_all}
use Rattle.std.specs.Str.{bytes_eq}
use Rattle.neighbours.specs.declared.neighbour.Neighbour.{Neighbour}
use Rattle.neighbours.specs.declared.key.Key.{Key}
use Rattle.neighbours.specs.declared.fault.ConfigFault.{ConfigFault}
use Rattle.neighbours.specs.declared.fault.ConfigFault.TheVariants.{Count, DoubleAddress, Weight, KeyName}
use Rattle.neighbours.specs.Rows.{Rows, IsMark, same_end}

-- whether two neighbours have the same end, regardless of protocol
abbrev pub has_double : List Neighbour → Bool
has_double [] = false
has_double (first ∷ others) = list_any (λ other. same_end other.end first.end) others || has_double others

-- whether a weight is 1 to 100
abbrev pub is_weight : ℕ → Bool
is_weight weight = nat_le 1 weight && nat_le weight 100

-- whether a key name has 1 to 255 octets
abbrev pub is_name : List ℕ → Bool
is_name name = nat_le 1 (length name) && nat_le (length name) 255

-- whether there is a key with this name
abbrev pub has_key : List Key → List ℕ → Bool
has_key keys name = list_any (λ key. bytes_eq key.name name) keys

-- whether two keys have the same name
abbrev pub has_double_name : List Key → Bool
has_double_name [] = false
has_double_name (first ∷ others) = has_key others first.name || has_double_name others

-- whether a neighbour refers to no key, or to an existing one
abbrev pub knows : List Key → Option (List ℕ) → Bool
knows keys None = true
knows keys (Some name) = has_key keys name

-- whether key names are valid and distinct, and each neighbour refers to no key or to an existing one
abbrev pub are_named : List Neighbour → List Key → Bool
are_named neighbours keys =
    list_all (λ key. is_name key.name) keys
    && (not (has_double_name keys) && list_all (λ neighbour. knows keys neighbour.key) neighbours)

-- the first fault that applies
abbrev pub fault_of : List Neighbour → List Key → Option ConfigFault
fault_of neighbours keys =
    if nat_lt 64 (length neighbours) then Some Count
    else if has_double neighbours then Some DoubleAddress
    else if not (list_all (λ neighbour. is_weight neighbour.weight) neighbours) then Some Weight
    else if not (are_named neighbours keys) then Some KeyName
    else None

-- the invariant of a table: its configuration has no fault, and each neighbour has a mark
pub record IsTable (rows : Rows) : Type 0 where
  pub count : length rows.neighbours ≤ 64
  pub apart : has_double rows.neighbours ≡ false
  pub weights : list_all (λ neighbour. is_weight neighbour.weight) rows.neighbours ≡ true
  pub named : are_named rows.neighbours rows.keys ≡ true
  pub marked : length rows.marks ≡ length rows.neighbours
  pub marks : All IsMark rows.marks
