-- The state after each call, and that the sum remains the total size of the pairs.
use Rattle.std.proofs.Common.{◌≡◌, ℕ, ◌+◌, ◌-◌, ◌^◌, ◌≤◌, Bool, true, false, cond, bytes_eq, List, [], ◌∷◌, length, min, not, filter, option_map, Option, Some, None, refl, sym, ap, ◌∙◌, arith}
use Rattle.std.specs.List.{IsDistinct}
use Rattle.std.specs.Map.{keys_of, lookup, lookup_entry, remove_entry}
use Rattle.std.specs.Option.{option_map_or}
use Rattle.std.specs.Cmp.Lexicographic.{bytes_decides}
use Rattle.lru.specs.LruCache.{LruCache, lru_cache, promoted}
use Rattle.lru.proofs.CallerLemmas.{Contains-lookup_entry}
use Rattle.lru.proofs.Pairs.{lookup-lookup_entry}
use Rattle.object_store.specs.declared.entry.Entry.{Entry}
use Rattle.object_store.specs.Pairs.{Pair, octets_in, size_of, total_size, entry_at, is_fresh, without, cut}
use Rattle.object_store.specs.Store.{StoreState, AreLimits, IsSummed, after_get, after_remove}
use Rattle.object_store.proofs.CutLemmas.{cut-within}
use Rattle.object_store.proofs.PairLemmas.{same_key, without-removes, remove-absent, remove-octets, put-old}

-- a state from its parts
abbrev state : ℕ → ℕ → List Pair → StoreState
state e o pairs = record { most_entries = e; most_octets = o; pairs = pairs }

-- ---- put
pub put-summed : (e o sum cap : ℕ) (pairs : List Pair) (cache : LruCache (List ℕ) Entry) → AreLimits e o → cap ≡ 2 ^ 64 - 1
    → cache ≡ lru_cache (cut e o pairs) cap → sum ≡ total_size (cut e o pairs) → IsSummed e o sum cache.cap cache.entries
put-summed e o sum cap pairs cache limits top h total =
    rw h (record { limits = limits; within = cut-within e o pairs; sum_is = total; boundless = top })

-- ---- remove
remove-length : (key : List ℕ) (entry : Entry) (pairs : List Pair) → entry_at key pairs ≡ Some entry → length (remove_entry (bytes_eq key) pairs) + 1 ≡ length pairs
remove-length key entry [] h = absurd cc
remove-length key entry (pair ∷ pairs) h =
    (elim (bytes_eq key pair.0) as (λ b. cond b (Some pair.1) (lookup (bytes_eq key) pairs) ≡ Some entry
    → length (cond b pairs (pair ∷ remove_entry (bytes_eq key) pairs)) + 1 ≡ length (pair ∷ pairs)) [
      | true ↦ λ g. omega arith
      | false ↦ λ g. omega (arith, remove-length key entry pairs g)
    ]) h

pub absent-summed : (e o sum cap : ℕ) (key : List ℕ) (pairs : List Pair) (cache : LruCache (List ℕ) Entry) → IsSummed e o sum cap pairs
    → entry_at key pairs ≡ None → cache ≡ lru_cache (remove_entry (bytes_eq key) pairs) cap → IsSummed e o sum cache.cap cache.entries
absent-summed e o sum cap key pairs cache s none h = rw (h, remove-absent (bytes_eq key) pairs none) s

pub removed-size : (e o sum cap n size : ℕ) (key : List ℕ) (entry : Entry) (pairs : List Pair) → IsSummed e o sum cap pairs
    → entry_at key pairs ≡ Some entry → n ≡ length key → size ≡ min (n + octets_in entry) (2 ^ 64 - 1) → size ≤ sum
removed-size e o sum cap n size key entry pairs s some long is =
    let parts : total_size (remove_entry (bytes_eq key) pairs) + size_of key entry ≡ total_size pairs = remove-octets key entry pairs some in
    let total : sum ≡ total_size pairs = s.sum_is in omega arith

pub removed-summed : (e o sum cap n size : ℕ) (key : List ℕ) (entry : Entry) (pairs : List Pair) (cache : LruCache (List ℕ) Entry) → IsSummed e o sum cap pairs
    → entry_at key pairs ≡ Some entry → n ≡ length key → size ≡ min (n + octets_in entry) (2 ^ 64 - 1)
    → cache ≡ lru_cache (remove_entry (bytes_eq key) pairs) cap → IsSummed e o (sum - size) cache.cap cache.entries
removed-summed e o sum cap n size key entry pairs cache s some long is h =
    let parts : total_size (remove_entry (bytes_eq key) pairs) + size_of key entry ≡ total_size pairs = remove-octets key entry pairs some in
    let total : sum ≡ total_size pairs = s.sum_is in
    let small : total_size pairs ≤ o = s.within.small in
    let few : length pairs ≤ e = s.within.few in
    let bound : o ≤ 1073741824 = s.limits.few_octets in
    let shorter : length (remove_entry (bytes_eq key) pairs) + 1 ≡ length pairs = remove-length key entry pairs some in
    rw h (record { limits = s.limits; within = record { few = omega arith; small = omega arith }; sum_is = omega arith; boundless = s.boundless })

pub removed-is : (e o cap : ℕ) (key : List ℕ) (pairs : List Pair) (cache : LruCache (List ℕ) Entry) (store : StoreState) → state e o pairs ≡ store
    → IsDistinct bytes_eq (keys_of pairs) → cache ≡ lru_cache (remove_entry (bytes_eq key) pairs) cap → state e o cache.entries ≡ after_remove key store
removed-is e o cap key pairs cache store v d h =
    let left : cache.entries ≡ without key pairs = ap (λ (c : LruCache (List ℕ) Entry). c.entries) h ∙ sym (without-removes key pairs d) in
    ap (state e o) left ∙ ap (after_remove key) v

-- ---- get
promoted-at : (key : List ℕ) (pairs : List Pair) (found : Option Pair) → lookup_entry (bytes_eq key) pairs ≡ found → (entry : Entry) → entry_at key pairs ≡ Some entry
    → option_map_or (λ (e : Pair). e ∷ remove_entry (bytes_eq key) pairs) found pairs ≡ (key, entry) ∷ remove_entry (bytes_eq key) pairs
promoted-at key pairs None h entry some =
    let none : None ≡ entry_at key pairs = ap (λ (f : Option Pair). option_map (λ (e : Pair). e.1) f) (sym h) ∙ lookup-lookup_entry (bytes_eq key) pairs in
    let clash : None ≡ Some entry = none ∙ some in absurd cc
promoted-at key pairs (Some pair) h entry some =
    let value : Some pair.1 ≡ entry_at key pairs = ap (λ (f : Option Pair). option_map (λ (e : Pair). e.1) f) (sym h) ∙ lookup-lookup_entry (bytes_eq key) pairs in
    let both : Some pair.1 ≡ Some entry = value ∙ some in
    let same : pair.1 ≡ entry = cc in
    let k : key ≡ pair.0 = same_key key pair.0 (Contains-lookup_entry (bytes_eq key) pairs pair h).1 in
    rw (← same, k) refl

-- a pair that is found moves to the front
pub promoted-some : (key : List ℕ) (entry : Entry) (pairs : List Pair) → IsDistinct bytes_eq (keys_of pairs) → entry_at key pairs ≡ Some entry
    → promoted (bytes_eq key) pairs ≡ (key, entry) ∷ without key pairs
promoted-some key entry pairs d some =
    promoted-at key pairs (lookup_entry (bytes_eq key) pairs) refl entry some ∙ ap (λ (l : List Pair). (key, entry) ∷ l) (sym (without-removes key pairs d))

promoted-missing : (key : List ℕ) (pairs : List Pair) (found : Option Pair) → lookup_entry (bytes_eq key) pairs ≡ found → entry_at key pairs ≡ None
    → option_map_or (λ (e : Pair). e ∷ remove_entry (bytes_eq key) pairs) found pairs ≡ pairs
promoted-missing key pairs None h none = refl
promoted-missing key pairs (Some pair) h none =
    let value : Some pair.1 ≡ entry_at key pairs = ap (λ (f : Option Pair). option_map (λ (e : Pair). e.1) f) (sym h) ∙ lookup-lookup_entry (bytes_eq key) pairs in
    let clash : Some pair.1 ≡ None = value ∙ none in absurd cc

pub promoted-none : (key : List ℕ) (pairs : List Pair) → entry_at key pairs ≡ None → promoted (bytes_eq key) pairs ≡ pairs
promoted-none key pairs none = promoted-missing key pairs (lookup_entry (bytes_eq key) pairs) refl none

pub missed-summed : (e o sum cap : ℕ) (key : List ℕ) (pairs : List Pair) (cache : LruCache (List ℕ) Entry) → IsSummed e o sum cap pairs
    → entry_at key pairs ≡ None → cache ≡ lru_cache (promoted (bytes_eq key) pairs) cap → IsSummed e o sum cache.cap cache.entries
missed-summed e o sum cap key pairs cache s none h = rw (h, promoted-none key pairs none) s

pub moved-summed : (e o sum cap : ℕ) (key : List ℕ) (entry : Entry) (pairs : List Pair) (cache : LruCache (List ℕ) Entry) → IsSummed e o sum cap pairs
    → IsDistinct bytes_eq (keys_of pairs) → entry_at key pairs ≡ Some entry → cache ≡ lru_cache (promoted (bytes_eq key) pairs) cap → IsSummed e o sum cache.cap cache.entries
moved-summed e o sum cap key entry pairs cache s d some h =
    let same : total_size ((key, entry) ∷ without key pairs) + size_of key entry ≡ total_size pairs + size_of key entry = put-old key entry entry pairs d some in
    let total : sum ≡ total_size pairs = s.sum_is in
    let small : total_size pairs ≤ o = s.within.small in
    let few : length pairs ≤ e = s.within.few in
    let shorter : length (remove_entry (bytes_eq key) pairs) + 1 ≡ length pairs = remove-length key entry pairs some in
    let left : length (without key pairs) ≡ length (remove_entry (bytes_eq key) pairs) = ap (λ (l : List Pair). length l) (without-removes key pairs d) in
    rw (h, promoted-some key entry pairs d some) (record { limits = s.limits; within = record { few = omega arith; small = omega arith }; sum_is = omega arith; boundless = s.boundless })

pub missed-is : (e o cap now : ℕ) (key : List ℕ) (pairs : List Pair) (cache : LruCache (List ℕ) Entry) (store : StoreState) → state e o pairs ≡ store
    → entry_at key pairs ≡ None → cache ≡ lru_cache (promoted (bytes_eq key) pairs) cap → state e o cache.entries ≡ after_get key now store
missed-is e o cap now key pairs cache store v none h =
    let left : cache.entries ≡ pairs = ap (λ (c : LruCache (List ℕ) Entry). c.entries) h ∙ promoted-none key pairs none in
    let stays : state e o pairs ≡ after_get key now (state e o pairs) = rw none refl in
    ap (state e o) left ∙ stays ∙ ap (after_get key now) v

pub fresh-is : (e o cap now : ℕ) (key : List ℕ) (entry : Entry) (pairs : List Pair) (cache : LruCache (List ℕ) Entry) (store : StoreState) → state e o pairs ≡ store
    → IsDistinct bytes_eq (keys_of pairs) → entry_at key pairs ≡ Some entry → is_fresh now entry ≡ true
    → cache ≡ lru_cache (promoted (bytes_eq key) pairs) cap → state e o cache.entries ≡ after_get key now store
fresh-is e o cap now key entry pairs cache store v d some fresh h =
    let left : cache.entries ≡ (key, entry) ∷ without key pairs = ap (λ (c : LruCache (List ℕ) Entry). c.entries) h ∙ promoted-some key entry pairs d some in
    let goes : state e o ((key, entry) ∷ without key pairs) ≡ after_get key now (state e o pairs) = rw (some, fresh) refl in
    ap (state e o) left ∙ goes ∙ ap (after_get key now) v

filter-twice : (p : Pair → Bool) (pairs : List Pair) → filter p (filter p pairs) ≡ filter p pairs
filter-twice p [] = refl
filter-twice p (pair ∷ pairs) =
    (elim (p pair) as (λ b. p pair ≡ b → filter p (cond b (pair ∷ filter p pairs) (filter p pairs)) ≡ cond b (pair ∷ filter p pairs) (filter p pairs)) [
      | true ↦ λ t. rw t (ap (λ (l : List Pair). pair ∷ l) (filter-twice p pairs))
      | false ↦ λ t. filter-twice p pairs
    ]) refl

without-again : (key : List ℕ) (entry : Entry) (pairs : List Pair) → without key ((key, entry) ∷ without key pairs) ≡ without key pairs
without-again key entry pairs = rw ((bytes_decides key key).1 refl) (filter-twice (λ (pair : Pair). not (bytes_eq key pair.0)) pairs)

pub stale-is : (e o cap now : ℕ) (key : List ℕ) (entry : Entry) (pairs : List Pair) (cache : LruCache (List ℕ) Entry) (store after : StoreState) → state e o pairs ≡ store
    → IsDistinct bytes_eq (keys_of pairs) → entry_at key pairs ≡ Some entry → is_fresh now entry ≡ false
    → cache ≡ lru_cache (promoted (bytes_eq key) pairs) cap → after ≡ after_remove key (state e o cache.entries) → after ≡ after_get key now store
stale-is e o cap now key entry pairs cache store after v d some stale h a =
    let left : cache.entries ≡ (key, entry) ∷ without key pairs = ap (λ (c : LruCache (List ℕ) Entry). c.entries) h ∙ promoted-some key entry pairs d some in
    let gone : without key cache.entries ≡ without key pairs = ap (without key) left ∙ without-again key entry pairs in
    let goes : state e o (without key pairs) ≡ after_get key now (state e o pairs) = rw (some, stale) refl in
    a ∙ ap (state e o) gone ∙ goes ∙ ap (after_get key now) v
