-- The first directive with a name, looked for in one list of directives after another.
use Rattle.std.proofs.Common.{◌≡◌, ℕ, List, [], ◌∷◌, ◌++◌, find, bytes_eq, Bool, true, false, cond, Some, option_map, refl}
use Rattle.std.specs.Option.{option_or}
use Rattle.http_rules.specs.Directives.{first_argument}

-- it is in the first list, or else the first of the second
pub first_argument-append : (name : List ℕ) (xs ys : List (List ℕ × List ℕ))
    → first_argument name (xs ++ ys) ≡ option_or (first_argument name xs) (first_argument name ys)
first_argument-append name [] ys = refl
first_argument-append name (d ∷ ds) ys = by (bytes_eq d.0 name) (first_argument-append name ds ys)
  where
    by : (b : Bool) → first_argument name (ds ++ ys) ≡ option_or (first_argument name ds) (first_argument name ys)
        → option_map (λ (x : List ℕ × List ℕ). x.1) (cond b (Some d) (find (λ (x : List ℕ × List ℕ). bytes_eq x.0 name) (ds ++ ys)))
        ≡ option_or (option_map (λ (x : List ℕ × List ℕ). x.1) (cond b (Some d) (find (λ (x : List ℕ × List ℕ). bytes_eq x.0 name) ds))) (first_argument name ys)
    by true ih = refl
    by false ih = ih
