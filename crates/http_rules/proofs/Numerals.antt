-- Decimal numbers, capped at a bound.
use Rattle.std.proofs.Common.{◌≡◌, ℕ, ◌+◌, ◌-◌, ◌*◌, ◌<◌, ◌≤◌, ◌⊎◌, inl, inr, min, List, [], ◌∷◌, length, get_or, drop, refl, arith}
use Rattle.std.proofs.lemmas.List.{drop_more}
use Rattle.wire_octets.specs.Decimal.{value_after}

-- capping at each step gives the same as capping at the end
value_cut : (most a b : ℕ) (cs : List ℕ) → (a ≡ b) ⊎ ((most ≤ a) × (most ≤ b)) → min (value_after a cs) most ≡ min (value_after b cs) most
value_cut most a b [] (inl e) = omega arith
value_cut most a b [] (inr k) = omega (arith, k.0, k.1)
value_cut most a b (c ∷ cs) (inl e) = rw e refl
value_cut most a b (c ∷ cs) (inr k) =
    value_cut most (a * 10 + (c - 48)) (b * 10 + (c - 48)) cs (inr (omega (arith, k.0), omega (arith, k.1)))

lt_or_le : (m n : ℕ) → (m < n) ⊎ (n ≤ m)
lt_or_le m n = grind arith

-- one more digit
pub value_step : (most m n : ℕ) (word : List ℕ) (i : ℕ) → i < length word → m ≡ min (n * 10 + (get_or word i 0 - 48)) most
    → min (value_after m (drop (i + 1) word)) most ≡ min (value_after n (drop i word)) most
value_step most m n word i inside e =
    rw (drop_more word i 0) (value_cut most m (n * 10 + (get_or word i 0 - 48)) (drop (i + 1) word)
    (elim (lt_or_le (n * 10 + (get_or word i 0 - 48)) most) [ inl h ↦ inl (omega arith) | inr h ↦ inr (omega arith, omega arith) ]))
