-- The pairs of the reference implementation after each call.
use Rattle.std.proofs.Common.{◌≡◌, ℕ, zero, suc, true, false, cond, not, bytes_eq, List, [], ◌∷◌, drop, Some, slice_get, get_or, is_some, subst, refl, sym, ap, ◌∙◌}
use Rattle.std.specs.List.{remove}
use Rattle.std.specs.Cmp.Lexicographic.{bytes_decides}
use Rattle.std.proofs.lemmas.Option.{get_or_from_slice_get}
use Rattle.object_store.specs.Pairs.{Pair, entry_at, is_fresh, without}
use Rattle.object_store.specs.Store.{StoreState, after_get, after_remove, fresh_at}

-- a state from its parts
abbrev state : ℕ → ℕ → List Pair → StoreState
state e o pairs = record { most_entries = e; most_octets = o; pairs = pairs }

-- the pair at an index, and those after it
drop-at : (pairs : List Pair) (i : ℕ) (pair : Pair) → slice_get pairs i ≡ Some pair → drop i pairs ≡ pair ∷ drop (suc i) pairs
drop-at [] i pair h = absurd cc
drop-at (p ∷ pairs) zero pair h = let same : p ≡ pair = cc in rw same refl
drop-at (p ∷ pairs) (suc i) pair h = drop-at pairs i pair h

-- ---- linear search
pub place-found : (key : List ℕ) (pairs : List Pair) (i : ℕ) (pair : Pair) → entry_at key (drop i pairs) ≡ entry_at key pairs → slice_get pairs i ≡ Some pair
    → key ≡ pair.0 → entry_at key pairs ≡ Some pair.1
place-found key pairs i pair so at same =
    let here : entry_at key (drop i pairs) ≡ entry_at key (pair ∷ drop (suc i) pairs) = ap (entry_at key) (drop-at pairs i pair at) in
    let first : entry_at key (pair ∷ drop (suc i) pairs) ≡ Some pair.1 = rw ((bytes_decides key pair.0).1 same) refl in
    sym so ∙ here ∙ first

-- ---- removing the first pair of a key, then all others
without-remove : (key : List ℕ) (pairs : List Pair) (i : ℕ) (pair : Pair) → slice_get pairs i ≡ Some pair → key ≡ pair.0 → without key (remove pairs i) ≡ without key pairs
without-remove key [] i pair h same = absurd cc
without-remove key (p ∷ pairs) zero pair h same =
    let first : p ≡ pair = cc in
    let k : bytes_eq key p.0 ≡ true = (bytes_decides key p.0).1 (same ∙ ap (λ (q : Pair). q.0) (sym first)) in
    rw k refl
without-remove key (p ∷ pairs) (suc i) pair h same =
    elim (bytes_eq key p.0) as (λ b. cond (not b) (p ∷ without key (remove pairs i)) (without key (remove pairs i)) ≡ cond (not b) (p ∷ without key pairs) (without key pairs)) [
      | true ↦ without-remove key pairs i pair h same
      | false ↦ ap (λ (l : List Pair). p ∷ l) (without-remove key pairs i pair h same)
    ]

left-out : (key : List ℕ) (pairs items rest : List Pair) (i : ℕ) (pair : Pair) → slice_get pairs i ≡ Some pair → pair.0 ≡ key
    → items ≡ remove pairs i → rest ≡ without key items → rest ≡ without key pairs
left-out key pairs items rest i pair at same removed left =
    left ∙ ap (without key) removed ∙ without-remove key pairs i pair at (sym same)

-- ---- the pairs after a lookup
-- the pair at an index is the first of the key
abbrev pub Found : List ℕ → List Pair → ℕ → Type 0
Found key pairs i = (pair : Pair) × (slice_get pairs i ≡ Some pair) × (pair.0 ≡ key) × (entry_at key pairs ≡ Some pair.1)

-- the removed pair is the one at the index
found-out : (key : List ℕ) (pairs : List Pair) (i : ℕ) (out : Pair) (f : Found key pairs i) → out ≡ get_or pairs i out → out ≡ f.0
found-out key pairs i out f o = o ∙ get_or_from_slice_get pairs i f.0 out f.1

found-entry : (key : List ℕ) (pairs : List Pair) (i : ℕ) (out : Pair) (f : Found key pairs i) → out ≡ get_or pairs i out → entry_at key pairs ≡ Some out.1
found-entry key pairs i out f o = f.3 ∙ ap (λ (p : Pair). Some p.1) (sym (found-out key pairs i out f o))

pub plain-removed : (e o : ℕ) (key : List ℕ) (pairs seen removed rest : List Pair) (i : ℕ) (store : StoreState) → state e o pairs ≡ store → seen ≡ pairs
    → Found key seen i → removed ≡ remove pairs i → rest ≡ without key removed → state e o rest ≡ after_remove key store
plain-removed e o key pairs seen removed rest i store v same found r l =
    let f : Found key pairs i = subst (λ (ps : List Pair). Found key ps i) same found in
    ap (state e o) (left-out key pairs removed rest i f.0 f.1 f.2 r l) ∙ ap (after_remove key) v

pub plain-stale : (e o now : ℕ) (key : List ℕ) (pairs seen removed rest : List Pair) (i : ℕ) (out : Pair) (store : StoreState) → state e o pairs ≡ store → seen ≡ pairs
    → Found key seen i → out ≡ get_or pairs i out → removed ≡ remove pairs i → rest ≡ without key removed → is_fresh now out.1 ≡ false
    → (state e o rest ≡ after_get key now store) × (false ≡ is_some (fresh_at key now store))
plain-stale e o now key pairs seen removed rest i out store v same found here r l stale =
    let f : Found key pairs i = subst (λ (ps : List Pair). Found key ps i) same found in
    let some : entry_at key pairs ≡ Some out.1 = found-entry key pairs i out f here in
    let goes : state e o (without key pairs) ≡ after_get key now (state e o pairs) = rw (some, stale) refl in
    let none : false ≡ is_some (fresh_at key now (state e o pairs)) = rw (some, stale) refl in (
      ap (state e o) (left-out key pairs removed rest i f.0 f.1 f.2 r l) ∙ goes ∙ ap (after_get key now) v,
      none ∙ ap (λ (s : StoreState). is_some (fresh_at key now s)) v,
    )

pub plain-fresh : (e o now : ℕ) (key : List ℕ) (pairs seen removed rest last : List Pair) (i : ℕ) (out : Pair) (store : StoreState) → state e o pairs ≡ store → seen ≡ pairs
    → Found key seen i → out ≡ get_or pairs i out → removed ≡ remove pairs i → rest ≡ without key removed → is_fresh now out.1 ≡ true → last ≡ out ∷ rest
    → (state e o last ≡ after_get key now store) × (true ≡ is_some (fresh_at key now store))
plain-fresh e o now key pairs seen removed rest last i out store v same found here r l fresh front =
    let f : Found key pairs i = subst (λ (ps : List Pair). Found key ps i) same found in
    let some : entry_at key pairs ≡ Some out.1 = found-entry key pairs i out f here in
    let k : out.0 ≡ key = ap (λ (p : Pair). p.0) (found-out key pairs i out f here) ∙ f.2 in
    let left : rest ≡ without key pairs = left-out key pairs removed rest i f.0 f.1 f.2 r l in
    let whole : last ≡ (key, out.1) ∷ without key pairs = front ∙ ap (λ (ps : List Pair). out ∷ ps) left ∙ ap (λ (n : List ℕ). (n, out.1) ∷ without key pairs) k in
    let goes : state e o ((key, out.1) ∷ without key pairs) ≡ after_get key now (state e o pairs) = rw (some, fresh) refl in
    let yes : true ≡ is_some (fresh_at key now (state e o pairs)) = rw (some, fresh) refl in
    (ap (state e o) whole ∙ goes ∙ ap (after_get key now) v, yes ∙ ap (λ (s : StoreState). is_some (fresh_at key now s)) v)
