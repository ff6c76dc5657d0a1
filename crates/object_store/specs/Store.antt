-- A store: its limits and its pairs, the most recently used first.
use Rattle.std.specs.Prelude.{◌≡◌, ℕ, ◌-◌, ◌^◌, ◌<◌, ◌≤◌, bytes_eq, List, ◌∷◌, Option}
use Rattle.std.specs.List.{IsDistinct}
use Rattle.std.specs.Map.{keys_of}
use Rattle.object_store.specs.declared.entry.Entry.{Entry}
use Rattle.object_store.specs.declared.faults.StoreFault.{StoreFault}
use Rattle.object_store.specs.declared.faults.StoreFault.TheVariants.{Limits, NoMemory}
use Rattle.object_store.specs.declared.faults.PutFault.{PutFault}
use Rattle.object_store.specs.declared.faults.PutFault.TheVariants as put
use Rattle.object_store.specs.Pairs.{Pair, IsWithin, size_of, total_size, entry_at, fresh_only, without, pairs_after_get, cut}

-- the limits and the pairs
pub record StoreState : Type 0 where
  pub most_entries : ℕ
  pub most_octets : ℕ
  pub pairs : List Pair

-- valid limits
pub record AreLimits (entries octets : ℕ) : Type 0 where
  pub some_entries : 1 ≤ entries
  pub few_entries : entries ≤ 1000000
  pub some_octets : 1 ≤ octets
  pub few_octets : octets ≤ 1073741824

-- the invariant of a store
pub record IsStore (store : StoreState) : Type 0 where
  pub limits : AreLimits store.most_entries store.most_octets
  pub within : IsWithin store.most_entries store.most_octets store.pairs
  pub distinct : IsDistinct bytes_eq (keys_of store.pairs)

-- why a store with these limits cannot be made: invalid limits, or an allocation failure
abbrev pub IsStoreFault : ℕ → ℕ → StoreFault → Type 0
IsStoreFault entries octets Limits = AreLimits entries octets → ⊥
IsStoreFault entries octets NoMemory = AreLimits entries octets

-- why an entry cannot be inserted: it is too large, or an allocation failed
abbrev pub IsPutFault : StoreState → List ℕ → Entry → PutFault → Type 0
IsPutFault store key entry put.TooLarge = store.most_octets < size_of key entry
IsPutFault store key entry put.NoMemory = size_of key entry ≤ store.most_octets

-- the entry of a key, if it is fresh at this time
abbrev pub fresh_at : List ℕ → ℕ → StoreState → Option Entry
fresh_at key now store = fresh_only now (entry_at key store.pairs)

-- the store after a lookup of the key at this time
abbrev pub after_get : List ℕ → ℕ → StoreState → StoreState
after_get key now store = record store { pairs = pairs_after_get key now store.pairs (entry_at key store.pairs) }

-- the store after the key is removed
abbrev pub after_remove : List ℕ → StoreState → StoreState
after_remove key store = record store { pairs = without key store.pairs }

-- the store after an insertion: the new pair, then the others, cut to the limits
abbrev pub after_put : List ℕ → Entry → StoreState → StoreState
after_put key entry store =
    record store { pairs = cut store.most_entries store.most_octets ((key, entry) ∷ without key store.pairs) }

-- the representation: the total size of the pairs is kept beside a map that evicts nothing by itself
pub record IsSummed (entries octets sum cap : ℕ) (pairs : List Pair) : Type 0 where
  pub limits : AreLimits entries octets
  pub within : IsWithin entries octets pairs
  pub sum_is : sum ≡ total_size pairs
  pub boundless : cap ≡ 2 ^ 64 - 1
