-- Pairs whose times are behind the first one.
use Rattle.std.proofs.Common.{◌≡◌, ℕ, ◌+◌, ◌-◌, ◌*◌, ◌≤◌, max, Bool, true, false, not, cond, bytes_eq, nat_le, ◌&&◌, List, [], ◌∷◌, filter, Some, None, refl, arith}
use Rattle.std.specs.Map.{lookup}
use Rattle.std.proofs.lemmas.Bool.{le-leb}
use Rattle.object_store.specs.declared.entry.Entry.{Entry}
use Rattle.object_store.specs.Object.{ObjectFields}
use Rattle.object_store.specs.Pairs.{Pair, size_of, is_fresh, fresh_only, entry_at, without, cut}
use Rattle.object_shelf.specs.Shelf.{entry_of, AreTimed}

timed_kept : (test : Pair → Bool) (pairs : List Pair) → AreTimed pairs → AreTimed (filter test pairs)
timed_kept test [] h = tt
timed_kept test (pair ∷ pairs) h = by (test pair) (timed_kept test pairs h.1)
  where
    by : (b : Bool) → AreTimed (filter test pairs) → AreTimed (cond b (pair ∷ filter test pairs) (filter test pairs))
    by true ih = (h.0, ih)
    by false ih = ih

timed_cut : (entries octets : ℕ) (pairs : List Pair) → AreTimed pairs → AreTimed (cut entries octets pairs)
timed_cut entries octets [] h = tt
timed_cut entries octets (pair ∷ pairs) h =
    by (nat_le 1 entries && nat_le (size_of pair.0 pair.1) octets) (timed_cut (entries - 1) (octets - size_of pair.0 pair.1) pairs h.1)
  where
    by : (b : Bool) → AreTimed (cut (entries - 1) (octets - size_of pair.0 pair.1) pairs)
        → AreTimed (cond b (pair ∷ cut (entries - 1) (octets - size_of pair.0 pair.1) pairs) [])
    by true ih = (h.0, ih)
    by false ih = tt

pub timed_without : (key : List ℕ) (pairs : List Pair) → AreTimed pairs → AreTimed (without key pairs)
timed_without key pairs h = timed_kept (λ pair. not (bytes_eq key pair.0)) pairs h

le_max : (at : ℕ) → 1 ≤ max at 1
le_max at = grind arith

pub timed_put : (entries octets : ℕ) (key : List ℕ) (object : ObjectFields) (at : ℕ) (pairs : List Pair) → AreTimed pairs
    → AreTimed (cut entries octets ((key, entry_of object at) ∷ without key pairs))
timed_put entries octets key object at pairs h =
    timed_cut entries octets ((key, entry_of object at) ∷ without key pairs) (le_max at, timed_without key pairs h)

fresh_first : (entry : Entry) → 1 ≤ entry.at → fresh_only 0 (Some entry) ≡ Some entry
fresh_first entry h =
    let later : is_fresh 0 entry ≡ true = le-leb 1 (entry.at + 1000 * entry.object.life) (omega arith) in
    rw later refl

-- before their time all are fresh
pub fresh_before : (key : List ℕ) (pairs : List Pair) → AreTimed pairs → fresh_only 0 (entry_at key pairs) ≡ entry_at key pairs
fresh_before key [] h = refl
fresh_before key (pair ∷ pairs) h = by (bytes_eq key pair.0) (fresh_before key pairs h.1)
  where
    by : (b : Bool) → fresh_only 0 (lookup (bytes_eq key) pairs) ≡ lookup (bytes_eq key) pairs
        → fresh_only 0 (cond b (Some pair.1) (lookup (bytes_eq key) pairs)) ≡ cond b (Some pair.1) (lookup (bytes_eq key) pairs)
    by true ih = fresh_first pair.1 h.0
    by false ih = ih
