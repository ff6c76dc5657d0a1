-- The options of Connection fields while they are read. Only contracts of private functions use these definitions.
use Rattle.std.specs.Prelude.{◌≡◌, ℕ, ◌+◌, ◌≤◌, List, [], ◌∷◌, length, bytes_eq, map, filter, not, ◌==◌, ◌||◌, Bool, Vec, Option, Some, None, if◌then◌else◌}
use Rattle.std.specs.BTreeSet.{BTreeSet, contains_by}
use Rattle.std.specs.Cmp.Lexicographic.{slice_cmp}
use Rattle.std.specs.Ordering.{nat_cmp}
use Rattle.std.specs.List.{list_any, slice_split}
use Rattle.http_rules.specs.Forwarding.{option_of}
use Rattle.http_rules.specs.declared.options.Options.{Options}

-- whether a set has this name
abbrev pub has_name : {Z : Type 0} → BTreeSet (Vec ℕ Z) → List ℕ → Bool
has_name names name = contains_by (λ k. slice_cmp nat_cmp name k.items) names

-- an option in front of others, unless it is empty
abbrev pub unless_empty : List ℕ → List (List ℕ) → List (List ℕ)
unless_empty option rest = if length option == 0 then rest else option ∷ rest

-- the list elements of the rest of a text, if there is one
abbrev pub parts_left : Option (List ℕ) → List (List ℕ)
parts_left None = []
parts_left (Some text) = slice_split (λ c. c == 44) text

-- the options of the rest of a text, if there is one
abbrev pub options_left : Option (List ℕ) → List (List ℕ)
options_left rest = filter (λ option. not (length option == 0)) (map option_of (parts_left rest))

-- with the rest, what was collected are all of these options
pub record Collects (found : Options) (rest whole : List (List ℕ)) : Type 0 where
  pub count : found.count + length rest ≡ length whole
  pub few : found.count ≤ 64
  pub names : (name : List ℕ) → list_any (bytes_eq name) whole ≡ (has_name found.names name || list_any (bytes_eq name) rest)
