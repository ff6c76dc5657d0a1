-- The key that signs the cache's requests to itself, and which keys of a configuration the node is given.
use Rattle.std.specs.Prelude.{ℕ, List, [], ◌∷◌, codes, bytes_eq, filter, not, ◌||◌, Bool, false, Option, Some, None}
use Rattle.std.specs.List.{list_any}
use Rattle.neighbours.specs.declared.key.Key.{Key}
use Rattle.neighbours.specs.declared.neighbour.Neighbour.{Neighbour}

-- the secret that the example of a configuration had in earlier versions, so that everybody knows it
abbrev pub known_secret : List ℕ
known_secret = codes "this is an example"

-- whether everybody knows the secret of a key
abbrev pub is_known : Key → Bool
is_known key = bytes_eq key.secret known_secret

-- whether the name of a neighbour's key, if it has one, is this one
abbrev pub is_name : List ℕ → Option (List ℕ) → Bool
is_name name None = false
is_name name (Some key) = bytes_eq key name

-- whether one of these neighbours has this key
abbrev pub is_named : List Neighbour → Key → Bool
is_named neighbours key = list_any (λ neighbour. is_name key.name neighbour.key) neighbours

-- whether the first of these keys signs the cache's requests to itself: there is one, and not everybody knows it
abbrev pub has_own_key : List Key → Bool
has_own_key [] = false
has_own_key (key ∷ others) = not (is_known key)

-- whether the node is given a key: not one that everybody knows, unless a neighbour has it
abbrev pub stays : List Neighbour → Key → Bool
stays neighbours key = not (is_known key) || is_named neighbours key

-- the keys that the node is given
abbrev pub kept_keys : List Neighbour → List Key → List Key
kept_keys neighbours keys = filter (stays neighbours) keys
