-- The definitions on pairs, applied to the LRU map that holds them.
use Rattle.std.proofs.Common.{◌≡◌, ℕ, ◌+◌, ◌-◌, ◌^◌, ◌<◌, ◌≤◌, Bool, true, false, not, cond, bytes_eq, List, [], ◌∷◌, ◌++◌, subst, length, min, take, filter, get_or, option_map, Option, Some, None, refl, sym, ap, ◌∙◌, arith}
use Rattle.std.specs.List.{AllByRecursion, IsDistinct}
use Rattle.std.specs.Map.{keys_of, lookup, lookup_entry, remove_entry}
use Rattle.std.specs.Option.{option_map_or}
use Rattle.std.specs.Cmp.Lexicographic.{bytes_decides, nat_list_eq_equiv}
use Rattle.std.proofs.lemmas.List.{take_all}
use Rattle.std.proofs.lemmas.List.Sums.{sum_by-cons, sum_by_more}
use Rattle.std.proofs.lemmas.Option.{slice_get-get_or, slice_get_within, get_or_from_slice_get}
use Rattle.std.proofs.lemmas.Map.Keys.{IsDistinct-head, IsDistinct-tail}
use Rattle.lru.specs.LruCache.{LruCache, lru_cache, last_entry, put_entries}
use Rattle.lru.proofs.CallerLemmas.{Contains-lookup_entry}
use Rattle.lru.proofs.Pairs.{lookup-lookup_entry}
use Rattle.object_store.specs.declared.entry.Entry.{Entry}
use Rattle.object_store.specs.Pairs.{Pair, octets_in, size_of, total_size, entry_at, without}

-- keys that compare equal are equal
pub same_key : (a b : List ℕ) → bytes_eq a b ≡ true → a ≡ b
same_key a b h = (bytes_decides a b).0 h

module _ (test : List ℕ → Bool) where
  kept : (pairs : List Pair) → AllByRecursion (λ k. test k ≡ false) (keys_of pairs) → filter (λ pair. not (test pair.0)) pairs ≡ pairs
  kept [] h = refl
  kept (pair ∷ pairs) h = rw h.0 (ap (λ (l : List Pair). pair ∷ l) (kept pairs h.1))

  module _ (eq : List ℕ → List ℕ → Bool) (one : (x y : List ℕ) → test x ≡ true → test y ≡ eq x y) where
    apart : (k : List ℕ) (ks : List (List ℕ)) → test k ≡ true → AllByRecursion (λ y. eq k y ≡ false) ks → AllByRecursion (λ y. test y ≡ false) ks
    apart k [] t h = tt
    apart k (y ∷ ks) t h = (one k y t ∙ h.0, apart k ks t h.1)

    -- if keys are distinct, removing a key removes its first pair
    pub filter-removes : (pairs : List Pair) → IsDistinct eq (keys_of pairs) → filter (λ pair. not (test pair.0)) pairs ≡ remove_entry test pairs
    filter-removes [] d = refl
    filter-removes (pair ∷ pairs) d =
        (elim (test pair.0) as (λ b. test pair.0 ≡ b → cond (not b) (pair ∷ filter (λ p. not (test p.0)) pairs) (filter (λ p. not (test p.0)) pairs) ≡ cond b pairs (pair ∷ remove_entry test pairs)) [
          | true ↦ λ t. kept pairs (apart pair.0 (keys_of pairs) t (IsDistinct-head eq pair.0 (keys_of pairs) d))
          | false ↦ λ t. ap (λ (l : List Pair). pair ∷ l) (filter-removes pairs (IsDistinct-tail eq pair.0 (keys_of pairs) d))
        ]) refl

  -- nothing is removed if the key is not found
  pub remove-absent : (pairs : List Pair) → lookup test pairs ≡ None → remove_entry test pairs ≡ pairs
  remove-absent [] h = refl
  remove-absent (pair ∷ pairs) h =
      (elim (test pair.0) as (λ b. test pair.0 ≡ b → cond b (Some pair.1) (lookup test pairs) ≡ None → cond b pairs (pair ∷ remove_entry test pairs) ≡ pair ∷ pairs) [
        | true ↦ λ t g. absurd cc
        | false ↦ λ t g. ap (λ (l : List Pair). pair ∷ l) (remove-absent pairs g)
      ]) refl h

-- the same for the keys of a store
pub without-removes : (key : List ℕ) (pairs : List Pair) → IsDistinct bytes_eq (keys_of pairs) → without key pairs ≡ remove_entry (bytes_eq key) pairs
without-removes key pairs d = filter-removes (bytes_eq key) bytes_eq (nat_list_eq_equiv.congr key) pairs d

pub octets-cons : (pair : Pair) (pairs : List Pair) → total_size (pair ∷ pairs) ≡ size_of pair.0 pair.1 + total_size pairs
octets-cons pair pairs = sum_by-cons (λ (p : Pair). size_of p.0 p.1) pair pairs

-- the total size after removing a pair
pub remove-octets : (key : List ℕ) (entry : Entry) (pairs : List Pair) → entry_at key pairs ≡ Some entry
    → total_size (remove_entry (bytes_eq key) pairs) + size_of key entry ≡ total_size pairs
remove-octets key entry [] h = absurd cc
remove-octets key entry (pair ∷ pairs) h =
    (elim (bytes_eq key pair.0) as (λ b. bytes_eq key pair.0 ≡ b → cond b (Some pair.1) (lookup (bytes_eq key) pairs) ≡ Some entry
    → total_size (cond b pairs (pair ∷ remove_entry (bytes_eq key) pairs)) + size_of key entry ≡ total_size (pair ∷ pairs)) [
      | true ↦ λ t g. let k : key ≡ pair.0 = same_key key pair.0 t in let e : entry ≡ pair.1 = cc in
          rw (k, e) (omega (arith, octets-cons pair pairs))
      | false ↦ λ t g. omega (arith, remove-octets key entry pairs g, octets-cons pair pairs, octets-cons pair (remove_entry (bytes_eq key) pairs))
    ]) refl h

-- the last pair, and the total size of those before it
pub last-none : (pairs : List Pair) (sum : ℕ) → last_entry pairs ≡ None → sum ≡ total_size pairs → sum ≡ total_size (take (length pairs - 1) pairs)
last-none [] sum h e = e
last-none (pair ∷ pairs) sum h e =
    let some = slice_get-get_or (pair ∷ pairs) (length (pair ∷ pairs) - 1) pair (omega arith) in absurd cc

pub last-octets : (pairs : List Pair) (key : List ℕ) (entry : Entry) → last_entry pairs ≡ Some (key, entry)
    → total_size (take (length pairs - 1) pairs) + size_of key entry ≡ total_size pairs
last-octets pairs key entry h =
    let before : length pairs - 1 < length pairs = slice_get_within pairs (length pairs - 1) (key, entry) h in
    let at : get_or pairs (length pairs - 1) (key, entry) ≡ (key, entry) = get_or_from_slice_get pairs (length pairs - 1) (key, entry) (key, entry) h in
    let whole : take (length pairs - 1 + 1) pairs ≡ pairs = take_all (length pairs - 1 + 1) pairs (omega arith) in
    let more : total_size (take (length pairs - 1 + 1) pairs) ≡ total_size (take (length pairs - 1) pairs) + size_of (get_or pairs (length pairs - 1) (key, entry)).0 (get_or pairs (length pairs - 1) (key, entry)).1
    = sum_by_more (λ (p : Pair). size_of p.0 p.1) pairs (length pairs - 1) (key, entry) before in
    let here : size_of (get_or pairs (length pairs - 1) (key, entry)).0 (get_or pairs (length pairs - 1) (key, entry)).1 ≡ size_of key entry = ap (λ (p : Pair). size_of p.0 p.1) at in
    let all : total_size (take (length pairs - 1 + 1) pairs) ≡ total_size pairs = ap total_size whole in
    omega (arith, more, here, all)

-- the map after an insertion: the new pair, then the others
put-at : (key : List ℕ) (entry : Entry) (pairs : List Pair) (cap : ℕ) (found : Option Pair) → lookup_entry (bytes_eq key) pairs ≡ found
    → length pairs ≤ cap - 1
    → option_map_or (λ (e : Pair). (e.0, entry) ∷ remove_entry (bytes_eq key) pairs) found ((key, entry) ∷ take (cap - 1) pairs) ≡ (key, entry) ∷ remove_entry (bytes_eq key) pairs
put-at key entry pairs cap None h few =
    let absent : lookup (bytes_eq key) pairs ≡ None = sym (lookup-lookup_entry (bytes_eq key) pairs) ∙ ap (option_map (λ (e : Pair). e.1)) h in
    rw (take_all (cap - 1) pairs few, remove-absent (bytes_eq key) pairs absent)
put-at key entry pairs cap (Some pair) h few =
    let same : key ≡ pair.0 = same_key key pair.0 (Contains-lookup_entry (bytes_eq key) pairs pair h).1 in
    ap (λ (k : List ℕ). (k, entry) ∷ remove_entry (bytes_eq key) pairs) (sym same)

pub put-is : (cache : LruCache (List ℕ) Entry) (key : List ℕ) (entry : Entry) → length cache.entries ≤ cache.cap - 1 → IsDistinct bytes_eq (keys_of cache.entries)
    → put_entries bytes_eq cache key entry ≡ (key, entry) ∷ without key cache.entries
put-is cache key entry few d =
    put-at key entry cache.entries cache.cap (lookup_entry (bytes_eq key) cache.entries) refl few
    ∙ ap (λ (l : List Pair). (key, entry) ∷ l) (sym (without-removes key cache.entries d))

-- the same for a new key
pub put-absent : (cache : LruCache (List ℕ) Entry) (key : List ℕ) (entry : Entry) → length cache.entries ≤ cache.cap - 1 → IsDistinct bytes_eq (keys_of cache.entries)
    → entry_at key cache.entries ≡ None → put_entries bytes_eq cache key entry ≡ (key, entry) ∷ cache.entries
put-absent cache key entry few d none =
    put-is cache key entry few d
    ∙ ap (λ (l : List Pair). (key, entry) ∷ l) (without-removes key cache.entries d ∙ remove-absent (bytes_eq key) cache.entries none)

none_found : (key : List ℕ) (pairs : List Pair) → AllByRecursion (λ k. bytes_eq key k ≡ false) (keys_of pairs) → entry_at key pairs ≡ None
none_found key [] h = refl
none_found key (pair ∷ pairs) h = rw h.0 (none_found key pairs h.1)

absent_after : (key : List ℕ) (entry : Entry) (front back : List Pair) → IsDistinct bytes_eq (keys_of ((front ++ (key, entry) ∷ []) ++ back)) → entry_at key back ≡ None
absent_after key entry [] back d = none_found key back (IsDistinct-head bytes_eq key (keys_of back) d)
absent_after key entry (pair ∷ front) back d =
    absent_after key entry front back (IsDistinct-tail bytes_eq pair.0 (keys_of ((front ++ (key, entry) ∷ []) ++ back)) d)

-- the key of the last pair of a prefix does not occur after it
pub last_absent : (key : List ℕ) (entry : Entry) (front rest back pairs : List Pair) → rest ≡ front ++ (key, entry) ∷ [] → rest ++ back ≡ pairs
    → IsDistinct bytes_eq (keys_of pairs) → entry_at key back ≡ None
last_absent key entry front rest back pairs e g d =
    let P : List Pair → Type 0 = λ l. IsDistinct bytes_eq (keys_of l) in
    absent_after key entry front back (subst P (sym (ap (λ (l : List Pair). l ++ back) (sym e) ∙ g)) d)

-- the total size after inserting a new key, and after replacing
pub put-new : (key : List ℕ) (entry : Entry) (pairs : List Pair) → IsDistinct bytes_eq (keys_of pairs) → entry_at key pairs ≡ None
    → total_size ((key, entry) ∷ without key pairs) ≡ total_size pairs + size_of key entry
put-new key entry pairs d h =
    let left : total_size (without key pairs) ≡ total_size pairs = ap total_size (without-removes key pairs d ∙ remove-absent (bytes_eq key) pairs h) in
    omega (arith, left, octets-cons (key, entry) (without key pairs))

pub put-old : (key : List ℕ) (entry old : Entry) (pairs : List Pair) → IsDistinct bytes_eq (keys_of pairs) → entry_at key pairs ≡ Some old
    → total_size ((key, entry) ∷ without key pairs) + size_of key old ≡ total_size pairs + size_of key entry
put-old key entry old pairs d h =
    let left : total_size (without key pairs) ≡ total_size (remove_entry (bytes_eq key) pairs) = ap total_size (without-removes key pairs d) in
    omega (arith, left, remove-octets key old pairs h, octets-cons (key, entry) (without key pairs))

-- the same with the numbers of the code
pub taken : (pairs : List Pair) (key : List ℕ) (entry : Entry) (n s sum : ℕ) → last_entry pairs ≡ Some (key, entry) → n ≡ length key
    → s ≡ min (n + octets_in entry) (2 ^ 64 - 1) → sum ≡ total_size pairs → sum < 2 ^ 64
    → (s ≤ sum) × (sum - s ≡ total_size (take (length pairs - 1) pairs))
taken pairs key entry n s sum last long is total fits =
    let parts : total_size (take (length pairs - 1) pairs) + size_of key entry ≡ total_size pairs = last-octets pairs key entry last in
    (omega arith, omega arith)

pub put-sum-new : (key : List ℕ) (entry : Entry) (pairs : List Pair) (sum octets : ℕ) → IsDistinct bytes_eq (keys_of pairs) → entry_at key pairs ≡ None
    → sum ≡ total_size pairs → octets ≡ size_of key entry → sum + octets ≡ total_size ((key, entry) ∷ without key pairs)
put-sum-new key entry pairs sum octets d h total size =
    let parts : total_size ((key, entry) ∷ without key pairs) ≡ total_size pairs + size_of key entry = put-new key entry pairs d h in omega arith

pub put-sum-old : (key : List ℕ) (entry old : Entry) (pairs : List Pair) (n s sum octets : ℕ) → IsDistinct bytes_eq (keys_of pairs) → entry_at key pairs ≡ Some old
    → n ≡ length key → s ≡ min (n + octets_in old) (2 ^ 64 - 1) → sum ≡ total_size pairs → octets ≡ size_of key entry → sum + octets < 2 ^ 64
    → (s ≤ sum + octets) × (sum + octets - s ≡ total_size ((key, entry) ∷ without key pairs))
put-sum-old key entry old pairs n s sum octets d h long is total size fits =
    let parts : total_size ((key, entry) ∷ without key pairs) + size_of key old ≡ total_size pairs + size_of key entry = put-old key entry old pairs d h in
    (omega arith, omega arith)

-- a map is determined by its two fields
pub cache-is : (cache : LruCache (List ℕ) Entry) (pairs : List Pair) (cap : ℕ) → cache.entries ≡ pairs → cache.cap ≡ cap → cache ≡ lru_cache pairs cap
cache-is cache pairs cap e g = rw (← e, ← g) refl
