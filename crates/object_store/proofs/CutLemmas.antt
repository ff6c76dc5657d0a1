-- The longest prefix of pairs within limits.
use Rattle.std.proofs.Common.{◌≡◌, ℕ, zero, suc, ◌-◌, ◌≤◌, Bool, true, false, cond, ◌&&◌, nat_le, List, [], ◌∷◌, length, take, refl, ap, arith}
use Rattle.std.proofs.lemmas.Bool.{le-leb, and_parts, leb-true}
use Rattle.object_store.specs.Pairs.{Pair, size_of, cut, IsWithin, IsLongestFront}
use Rattle.object_store.proofs.PairLemmas.{octets-cons}

-- the first pair fits, or nothing does
abbrev step : ℕ → ℕ → Pair → List Pair → Bool → List Pair
step e o pair rest b = cond b (pair ∷ rest) []

abbrev fits : ℕ → ℕ → Pair → Bool
fits e o pair = nat_le 1 e && nat_le (size_of pair.0 pair.1) o

pub fits-true : (e o : ℕ) (pair : Pair) → 1 ≤ e → size_of pair.0 pair.1 ≤ o → fits e o pair ≡ true
fits-true e o pair h k = rw (le-leb 1 e h, le-leb (size_of pair.0 pair.1) o k)

fits-few : (e o : ℕ) (pair : Pair) → fits e o pair ≡ true → 1 ≤ e
fits-few e o pair t = leb-true 1 e (and_parts (nat_le 1 e) (nat_le (size_of pair.0 pair.1) o) t).0

fits-small : (e o : ℕ) (pair : Pair) → fits e o pair ≡ true → size_of pair.0 pair.1 ≤ o
fits-small e o pair t = leb-true (size_of pair.0 pair.1) o (and_parts (nat_le 1 e) (nat_le (size_of pair.0 pair.1) o) t).1

-- a list is within limits if its first pair fits and the others are within the rest
within-cons : (e o : ℕ) (pair : Pair) (pairs : List Pair) → 1 ≤ e → size_of pair.0 pair.1 ≤ o
    → IsWithin (e - 1) (o - size_of pair.0 pair.1) pairs → IsWithin e o (pair ∷ pairs)
within-cons e o pair pairs h k w = record { few = omega arith; small = omega (arith, octets-cons pair pairs) }

within-tail : (e o : ℕ) (pair : Pair) (pairs : List Pair) → IsWithin e o (pair ∷ pairs) → IsWithin (e - 1) (o - size_of pair.0 pair.1) pairs
within-tail e o pair pairs w = record { few = omega arith; small = omega (arith, octets-cons pair pairs) }

within-head : (e o : ℕ) (pair : Pair) (pairs : List Pair) → IsWithin e o (pair ∷ pairs) → fits e o pair ≡ true
within-head e o pair pairs w = fits-true e o pair (omega arith) (omega (arith, octets-cons pair pairs))

-- a list within the limits is not cut
pub cut-whole : (e o : ℕ) (pairs : List Pair) → IsWithin e o pairs → cut e o pairs ≡ pairs
cut-whole e o [] w = refl
cut-whole e o (pair ∷ pairs) w =
    rw (within-head e o pair pairs w) (ap (λ (l : List Pair). pair ∷ l) (cut-whole (e - 1) (o - size_of pair.0 pair.1) pairs (within-tail e o pair pairs w)))

within-one : (e o : ℕ) (pair : Pair) (pairs : List Pair) → length pairs ≡ 0 → 1 ≤ e → size_of pair.0 pair.1 ≤ o → IsWithin e o (pair ∷ pairs)
within-one e o pair [] z h k = within-cons e o pair [] h k (record { few = omega arith; small = omega arith })
within-one e o pair (p ∷ ps) z h k = absurd (omega arith)

-- a list beyond the limits may lose its last pair first
pub cut-take : (e o n : ℕ) (pairs : List Pair) → length pairs ≡ suc n → (IsWithin e o pairs → ⊥) → cut e o (take n pairs) ≡ cut e o pairs
cut-take e o n [] l w = absurd (omega arith)
cut-take e o zero (pair ∷ pairs) l w =
    (elim (fits e o pair) as (λ b. fits e o pair ≡ b → [] ≡ cond b (pair ∷ cut (e - 1) (o - size_of pair.0 pair.1) pairs) []) [
      | true ↦ λ t. absurd (w (within-one e o pair pairs (omega arith) (fits-few e o pair t) (fits-small e o pair t)))
      | false ↦ λ t. refl
    ]) refl
cut-take e o (suc n) (pair ∷ pairs) l w =
    (elim (fits e o pair) as (λ b. fits e o pair ≡ b → cond b (pair ∷ cut (e - 1) (o - size_of pair.0 pair.1) (take n pairs)) [] ≡ cond b (pair ∷ cut (e - 1) (o - size_of pair.0 pair.1) pairs) []) [
      | true ↦ λ t. ap (λ (r : List Pair). pair ∷ r) (cut-take (e - 1) (o - size_of pair.0 pair.1) n pairs (omega arith)
          (λ v. w (within-cons e o pair pairs (fits-few e o pair t) (fits-small e o pair t) v)))
      | false ↦ λ t. refl
    ]) refl

pub cut-drop : (e o : ℕ) (pairs : List Pair) → (IsWithin e o pairs → ⊥) → cut e o (take (length pairs - 1) pairs) ≡ cut e o pairs
cut-drop e o [] w = absurd (w (record { few = omega arith; small = omega arith }))
cut-drop e o (pair ∷ pairs) w =
    let n : length (pair ∷ pairs) - 1 ≡ length pairs = omega arith in
    rw n (cut-take e o (length pairs) (pair ∷ pairs) (omega arith) w)

-- the result of `cut` is within the limits
pub cut-within : (e o : ℕ) (pairs : List Pair) → IsWithin e o (cut e o pairs)
cut-within e o [] = record { few = omega arith; small = omega arith }
cut-within e o (pair ∷ pairs) =
    (elim (fits e o pair) as (λ b. fits e o pair ≡ b → IsWithin e o (cond b (pair ∷ cut (e - 1) (o - size_of pair.0 pair.1) pairs) [])) [
      | true ↦ λ t. within-cons e o pair (cut (e - 1) (o - size_of pair.0 pair.1) pairs) (fits-few e o pair t) (fits-small e o pair t) (cut-within (e - 1) (o - size_of pair.0 pair.1) pairs)
      | false ↦ λ t. record { few = omega arith; small = omega arith }
    ]) refl

-- it is a prefix
pub cut-front : (e o : ℕ) (pairs : List Pair) → cut e o pairs ≡ take (length (cut e o pairs)) pairs
cut-front e o [] = refl
cut-front e o (pair ∷ pairs) =
    elim (fits e o pair) as (λ b. cond b (pair ∷ cut (e - 1) (o - size_of pair.0 pair.1) pairs) [] ≡ take (length (cond b (pair ∷ cut (e - 1) (o - size_of pair.0 pair.1) pairs) [])) (pair ∷ pairs)) [
      | true ↦ ap (λ (r : List Pair). pair ∷ r) (cut-front (e - 1) (o - size_of pair.0 pair.1) pairs)
      | false ↦ refl
    ]

-- and the longest
pub cut-longest : (e o : ℕ) (pairs : List Pair) (n : ℕ) → IsWithin e o (take n pairs) → length (take n pairs) ≤ length (cut e o pairs)
cut-longest e o [] zero w = omega arith
cut-longest e o [] (suc n) w = omega arith
cut-longest e o (pair ∷ pairs) zero w = omega arith
cut-longest e o (pair ∷ pairs) (suc n) w =
    rw (within-head e o pair (take n pairs) w) (omega (arith, cut-longest (e - 1) (o - size_of pair.0 pair.1) pairs n (within-tail e o pair (take n pairs) w)))

pub cut-law : (e o : ℕ) (pairs : List Pair) → IsLongestFront e o pairs (cut e o pairs)
cut-law e o pairs = record { front_is = cut-front e o pairs; within = cut-within e o pairs; longest = cut-longest e o pairs }
