-- Looking up a name in the fields of a stored object, from some place on.
use Rattle.std.proofs.Common.{ℕ, List, [], ◌∷◌, Vec, Option, Some, None, drop}
use Rattle.std.specs.declared.alloc.Global.{Global}
use Rattle.http_rules.specs.Fields.{values_of}
use Rattle.http_rules.specs.Validators.{stored_fields}

-- what was found, as a list
abbrev pub as_list : Option (List ℕ) → List (List ℕ)
as_list None = []
as_list (Some value) = value ∷ []

-- the values of the fields from a place on
abbrev pub values_from : List ℕ → ℕ → List (Vec ℕ Global × Vec ℕ Global) → List (List ℕ)
values_from name place object = values_of name (stored_fields (drop place object))
