-- What a configuration says at its keys. A configuration is an object of JSON, and so are some of the values in it.
use Rattle.std.specs.Prelude.{ℕ, ◌≡◌, ◌≤◌, List, [], ◌∷◌, Bool, Option, Some, None, IsSomeAnd, MatchOption, option_and_then, option_map}
use Rattle.std.specs.List.{AllZip}
use Rattle.serde_json.specs.Data.{Data, Items, no_items, item}
use Rattle.serde_json.specs.Find.{get, as_array, as_bool, as_number, as_str, as_u64}

-- a key that is there says something by its value
abbrev pub Says : {X : Type 0} → (Data → X → Type 0) → List ℕ → Data → X → Type 0
Says Is key settings x = IsSomeAnd (get key settings) (λ value. Is value x)

-- a key that may be left out
abbrev pub MaySay : {X : Type 0} → (Data → X → Type 0) → List ℕ → Data → Option X → Type 0
MaySay Is key settings given = MatchOption (get key settings) (given ≡ None) (λ value. IsSomeAnd given (λ x. Is value x))

-- a key in whose place something usual stands where it is left out
abbrev pub SaysOr : {X : Type 0} → X → (Data → X → Type 0) → List ℕ → Data → X → Type 0
SaysOr usual Is key settings x = MatchOption (get key settings) (x ≡ usual) (λ value. Is value x)

-- a text, and one of the two values true and false
abbrev pub IsText : Data → List ℕ → Type 0
IsText value text = as_str value ≡ Some text

abbrev pub IsTruth : Data → Bool → Type 0
IsTruth value truth = as_bool value ≡ Some truth

-- a whole number within bounds
pub record IsWhole (least most : ℕ) (value : Data) (n : ℕ) : Type 0 where
  pub said : option_and_then as_u64 (as_number value) ≡ Some n
  pub above : least ≤ n
  pub below : n ≤ most

-- the values of a list
abbrev pub each_of : Items → List Data
each_of no_items = []
each_of (item value values) = value ∷ each_of values

abbrev pub values_in : Data → Option (List Data)
values_in value = option_map each_of (as_array value)

-- the values of the list at a key; there are none where it is left out
abbrev pub listed_in : Option Data → Option (List Data)
listed_in None = Some []
listed_in (Some value) = values_in value

abbrev pub listed : List ℕ → Data → Option (List Data)
listed key settings = listed_in (get key settings)

-- a list that has a value for each of these, in their order, and no others
abbrev pub IsListOf : {X : Type 0} → (Data → X → Type 0) → Data → List X → Type 0
IsListOf Is value xs = IsSomeAnd (values_in value) (λ values. AllZip Is values xs)

abbrev pub Lists : {X : Type 0} → (Data → X → Type 0) → List ℕ → Data → List X → Type 0
Lists Is key settings xs = IsSomeAnd (listed key settings) (λ values. AllZip Is values xs)
