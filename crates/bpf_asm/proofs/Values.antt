-- Values of digits, saturated at a bound.
use Rattle.std.proofs.Common.{◌≡◌, ℕ, ◌+◌, ◌-◌, ◌*◌, ◌^◌, ◌<◌, ◌≤◌, ◌⊎◌, inl, inr, min, List, [], ◌∷◌, length, get_or, drop, refl, arith}
use Rattle.std.proofs.Math.Nat.{mul-le-mul_left}
use Rattle.std.proofs.lemmas.List.{drop_more}
use Rattle.bpf_asm.specs.Number.{digit_value, value_in_base}

grows : (base most a d : ℕ) → 1 ≤ base → most ≤ a → most ≤ a * base + d
grows base most a d h k = omega (arith, mul-le-mul_left a h)

-- saturating the value of the digits read so far doesn't change the saturated result
pub value_cut : (base most a b : ℕ) (cs : List ℕ) → 1 ≤ base → (a ≡ b) ⊎ ((most ≤ a) × (most ≤ b)) → min (value_in_base base a cs) most ≡ min (value_in_base base b cs) most
value_cut base most a b [] h (inl e) = omega arith
value_cut base most a b [] h (inr k) = omega (arith, k.0, k.1)
value_cut base most a b (c ∷ cs) h (inl e) = rw e refl
value_cut base most a b (c ∷ cs) h (inr k) =
    value_cut base most (a * base + digit_value c) (b * base + digit_value c) cs h (inr (grows base most a (digit_value c) h k.0, grows base most b (digit_value c) h k.1))

pub value_step : (base most m n : ℕ) (word : List ℕ) (i : ℕ) → 1 ≤ base → i < length word
    → (m ≡ n * base + digit_value (get_or word i 0)) ⊎ ((most ≤ m) × (most ≤ n * base + digit_value (get_or word i 0)))
    → min (value_in_base base m (drop (i + 1) word)) most ≡ min (value_in_base base n (drop i word)) most
value_step base most m n word i low inside h = rw (drop_more word i 0) (value_cut base most m (n * base + digit_value (get_or word i 0)) (drop (i + 1) word) low h)

lt_or_le : (m n : ℕ) → (m < n) ⊎ (n ≤ m)
lt_or_le m n = grind arith

pub cut_sum : (n d a b c : ℕ) → a ≡ min n (2 ^ 64 - 1) → b ≡ d → c ≡ min (a + b) (2 ^ 64 - 1) → (c ≡ n + d) ⊎ ((2 ^ 64 - 1 ≤ c) × (2 ^ 64 - 1 ≤ n + d))
cut_sum n d a b c ea eb ec = elim (lt_or_le (n + d) (2 ^ 64 - 1)) [ inl h ↦ inl (omega arith) | inr h ↦ inr (omega arith, omega arith) ]
