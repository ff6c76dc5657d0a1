-- Bits in which octets differ.
use Rattle.std.proofs.Common.{◌≡◌, ◌↔◌, ℕ, ◌+◌, ◌<◌, List, length, take, get_or, refl, sym, ap, ◌∙◌, arith}
use Rattle.std.specs.Prelude.{bit_or, bit_xor}
use Rattle.std.specs.Int.Bits.{xor_assoc, xor_self, xor_zero_l, xor_zero_r, or_zero_l}
use Rattle.std.proofs.lemmas.Nat.{le_or_l, le_or_r}
use Rattle.std.proofs.lemmas.List.{take_more_same, take-take, get_or-take}

-- numbers that differ in no bit are equal
same_from_xor : (x y : ℕ) → bit_xor x y ≡ 0 → x ≡ y
same_from_xor x y none =
    sym (xor_zero_r x) ∙ ap (bit_xor x) (sym (xor_self y)) ∙ sym (xor_assoc x y y) ∙ ap (λ (b : ℕ). bit_xor b y) none ∙ xor_zero_l y

-- one more pair
pub one_more : (a b : List ℕ) (i bits : ℕ) → i < length a → i < length b → ((bits ≡ 0) ↔ (take i a ≡ take i b)) → (bit_or bits (bit_xor (get_or a i 0) (get_or b i 0)) ≡ 0) ↔ (take (i + 1) a ≡ take (i + 1) b)
one_more a b i bits in_a in_b so_far = (equal_from_none, none_from_equal)
  where
    equal_from_none : bit_or bits (bit_xor (get_or a i 0) (get_or b i 0)) ≡ 0 → take (i + 1) a ≡ take (i + 1) b
    equal_from_none none =
        let before : bits ≡ 0 = omega (arith, le_or_l bits (bit_xor (get_or a i 0) (get_or b i 0))) in
        let here : bit_xor (get_or a i 0) (get_or b i 0) ≡ 0 = omega (arith, le_or_r bits (bit_xor (get_or a i 0) (get_or b i 0))) in
        take_more_same a b i 0 in_a in_b (so_far.0 before) (same_from_xor (get_or a i 0) (get_or b i 0) here)

    none_from_equal : take (i + 1) a ≡ take (i + 1) b → bit_or bits (bit_xor (get_or a i 0) (get_or b i 0)) ≡ 0
    none_from_equal same =
        let front : take i a ≡ take i b = sym (take-take i (i + 1) a (omega arith)) ∙ ap (take i) same ∙ take-take i (i + 1) b (omega arith) in
        let last : get_or a i 0 ≡ get_or b i 0 = sym (get_or-take (i + 1) a i 0 (omega arith)) ∙ ap (λ (s : List ℕ). get_or s i 0) same ∙ get_or-take (i + 1) b i 0 (omega arith) in
        rw (so_far.1 front, last, xor_self, or_zero_l) refl

-- the same for an iteration of the loop
pub one_pair_more : (a b : List ℕ) (i j x y bits : ℕ) → i < length a → i < length b → x ≡ get_or a i 0 → y ≡ get_or b i 0 → j ≡ i + 1 → ((bits ≡ 0) ↔ (take i a ≡ take i b)) → (bit_or bits (bit_xor x y) ≡ 0) ↔ (take j a ≡ take j b)
one_pair_more a b i j x y bits in_a in_b x-is y-is j-is so_far = rw (x-is, y-is, j-is) (one_more a b i bits in_a in_b so_far)
