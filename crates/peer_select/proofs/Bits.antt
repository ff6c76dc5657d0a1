-- Sets of indices as bits.
use Rattle.std.proofs.Common.{◌≡◌, ℕ, ◌-◌, ◌*◌, ◌%◌, ◌^◌, ◌<◌, ◌≤◌, ◌≢◌, true, false, min, refl, ap, sym, ◌∙◌, arith, nat_eq, ◌||◌, ◌↔◌, IsTrue, bit_and, bit_or, w64}
use Rattle.std.specs.Int.{bit_at}
use Rattle.std.proofs.lemmas.Nat.Bits.{bit_at_and, bit_at_not, bit_at-zero, bit_at-lt, same_from_bits_below, bit_at_set_same, bit_at_set_other}
use Rattle.std.proofs.lemmas.Nat.{and_le_l}

pub with_bits : (a n k : ℕ) → n < 64 → nat_eq (bit_at (bit_or a (1 * 2 ^ n % 18446744073709551616)) k) 1 ≡ (nat_eq n k || nat_eq (bit_at a k) 1)
with_bits a n k h =
    elim (nat_eq n k) as (λ v. nat_eq n k ≡ v → nat_eq (bit_at (bit_or a (1 * 2 ^ n % 18446744073709551616)) k) 1 ≡ (v || nat_eq (bit_at a k) 1)) [
      | true ↦ λ e.
          let one : n ≡ k = grind arith in
          let here : bit_at (bit_or a (1 * 2 ^ n % 18446744073709551616)) n ≡ 1 = bit_at_set_same w64 a n h in
          ap (λ i. nat_eq (bit_at (bit_or a (1 * 2 ^ n % 18446744073709551616)) i) 1) (sym one) ∙ ap (λ b. nat_eq b 1) here
      | false ↦ λ e.
          let apart : k ≢ n = λ s. absurd (grind arith) in
          ap (λ b. nat_eq b 1) (bit_at_set_other w64 a n h k apart)
    ] refl

bits_of : (a b i : ℕ) → b < 2 ^ 64 → i < 64 → bit_at (bit_and a (18446744073709551615 - b)) i ≡ min (bit_at a i) (1 - bit_at b i)
bits_of a b i h k = bit_at_and a (18446744073709551615 - b) i ∙ ap (λ v. min (bit_at a i) v) (bit_at_not w64 b i h k)

off : (a b i : ℕ) → b < 2 ^ 64 → i < 64 → (nat_eq (bit_at a i) 1 ≡ true → nat_eq (bit_at b i) 1 ≡ true) → bit_at (bit_and a (18446744073709551615 - b)) i ≡ 0
off a b i hb k h =
    bits_of a b i hb k ∙ elim (nat_eq (bit_at a i) 1) as (λ v. nat_eq (bit_at a i) 1 ≡ v → min (bit_at a i) (1 - bit_at b i) ≡ 0) [
      | true ↦ λ e. let on : nat_eq (bit_at b i) 1 ≡ true = h e in let one : bit_at b i ≡ 1 = grind arith in omega arith
      | false ↦ λ e. let below : bit_at a i < 2 = bit_at-lt a i in let apart : bit_at a i ≢ 1 = λ s. absurd (grind arith) in omega arith
    ] refl

pub within_bits : (a b : ℕ) → a < 2 ^ 64 → b < 2 ^ 64 →
    IsTrue (nat_eq (bit_and a (18446744073709551615 - b)) 0) ↔ ((n : ℕ) → n < 64 → nat_eq (bit_at a n) 1 ≡ true → nat_eq (bit_at b n) 1 ≡ true)
within_bits a b ha hb = (
  λ t n small on.
      let none : bit_and a (18446744073709551615 - b) ≡ 0 = grind arith in
      let bit : bit_at (bit_and a (18446744073709551615 - b)) n ≡ 0 = ap (λ v. bit_at v n) none ∙ bit_at-zero n in
      let both : bit_at (bit_and a (18446744073709551615 - b)) n ≡ min (bit_at a n) (1 - bit_at b n) = bits_of a b n hb small in
      let one : bit_at a n ≡ 1 = grind arith in
      let below : bit_at b n < 2 = bit_at-lt b n in
      let here : bit_at b n ≡ 1 = omega (arith, bit, both, one, below) in
      ap (λ v. nat_eq v 1) here,
  λ h.
      let small : bit_and a (18446744073709551615 - b) ≤ a = and_le_l a (18446744073709551615 - b) in
      let none : bit_and a (18446744073709551615 - b) ≡ 0 =
      same_from_bits_below 64 (bit_and a (18446744073709551615 - b)) 0 (omega (arith, small, ha)) (omega arith) (λ i k. off a b i hb k (h i k) ∙ sym (bit_at-zero i)) in
      ap (λ v. nat_eq v 0) none,
)
