-- A shelf: a store whose entries are looked for as of a time before all of theirs, so that none of them is too old.
use Rattle.std.specs.Prelude.{ℕ, ◌≤◌, max, ⊤, List, [], ◌∷◌, bytes_eq}
use Rattle.std.specs.List.{IsDistinct}
use Rattle.std.specs.Map.{keys_of}
use Rattle.object_store.specs.declared.entry.Entry.{Entry}
use Rattle.object_store.specs.Object.{ObjectFields}
use Rattle.object_store.specs.Pairs.{Pair, IsWithin}
use Rattle.object_store.specs.Store.{StoreState, AreLimits, after_put}

-- the entry of an object that is put here at a time; the first millisecond counts as the second one
abbrev pub entry_of : ObjectFields → ℕ → Entry
entry_of object at = record { object = object; at = max at 1 }

-- no pair has the first millisecond as its time
abbrev pub AreTimed : List Pair → Type 0
AreTimed [] = ⊤
AreTimed (pair ∷ pairs) = (1 ≤ pair.1.at) × AreTimed pairs

-- the invariant of a shelf: its pairs are within the limits, in number and in octets, and each has a key of its own
pub record IsShelf (shelf : StoreState) : Type 0 where
  pub limits : AreLimits shelf.most_entries shelf.most_octets
  pub within : IsWithin shelf.most_entries shelf.most_octets shelf.pairs
  pub distinct : IsDistinct bytes_eq (keys_of shelf.pairs)

-- the shelf after an object is put there: this one, then the others, cut to the limits. So those that were put there first go first; to
-- be looked for keeps none of them longer
abbrev pub after_object : List ℕ → ObjectFields → ℕ → StoreState → StoreState
after_object key object at shelf = after_put key (entry_of object at) shelf
