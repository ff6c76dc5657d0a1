-- Octets as the concatenation of the numbers in them: lemmas for the proofs of crates that decode messages.
use Rattle.std.proofs.Common.{◌≡◌, ℕ, zero, suc, ◌+◌, ◌≤◌, List, [], ◌∷◌, ◌++◌, length, take, drop, refl, sym, ap, ◌∙◌, arith, inl, inr}
use Rattle.std.proofs.lemmas.Nat.{be_bytes_2, be_bytes_4}
use Rattle.std.proofs.lemmas.Bool.{cases_lt}
use Rattle.std.proofs.lemmas.List.{take-append-drop, drop-drop, get_or-drop, get_or-take, get_or_past, length-drop, length-take}
use Rattle.byteorder.specs.Endian.{big_bytes, big_number}
use Rattle.wire_octets.specs.Octets.{IsOctets}

-- the octets from an index on, and up to an index
pub IsOctets-drop : (n : ℕ) (xs : List ℕ) → IsOctets xs → IsOctets (drop n xs)
IsOctets-drop n xs h i = rw get_or-drop (h (n + i))

pub IsOctets-take : (n : ℕ) (xs : List ℕ) → IsOctets xs → IsOctets (take n xs)
IsOctets-take n xs h i =
    elim (cases_lt i n) [
      | inl lt ↦ rw (get_or-take n xs i 0 lt) (h i)
      | inr le ↦ rw (get_or_past (take n xs) i 0 (omega (arith, length-take n xs))) (omega arith)
    ]

-- the octets of a number that was read are the octets it was read from
pub two_back : (xs : List ℕ) → IsOctets xs → 2 ≤ length xs → big_bytes 2 (big_number 2 xs) ≡ take 2 xs
two_back [] h le = absurd (omega arith)
two_back (a ∷ []) h le = absurd (omega arith)
two_back (a ∷ b ∷ xs) h le = be_bytes_2 (a ∷ b ∷ []) _ refl (first_two a b xs h) (omega arith)
  where
    first_two : (a b : ℕ) (xs : List ℕ) → IsOctets (a ∷ b ∷ xs) → IsOctets (a ∷ b ∷ [])
    first_two a b xs h zero = h 0
    first_two a b xs h (suc zero) = h 1
    first_two a b xs h (suc (suc i)) = omega arith

pub four_back : (xs : List ℕ) → IsOctets xs → 4 ≤ length xs → big_bytes 4 (big_number 4 xs) ≡ take 4 xs
four_back [] h le = absurd (omega arith)
four_back (a ∷ []) h le = absurd (omega arith)
four_back (a ∷ b ∷ []) h le = absurd (omega arith)
four_back (a ∷ b ∷ c ∷ []) h le = absurd (omega arith)
four_back (a ∷ b ∷ c ∷ d ∷ xs) h le = be_bytes_4 (a ∷ b ∷ c ∷ d ∷ []) _ refl (first_four a b c d xs h) (omega arith)
  where
    first_four : (a b c d : ℕ) (xs : List ℕ) → IsOctets (a ∷ b ∷ c ∷ d ∷ xs) → IsOctets (a ∷ b ∷ c ∷ d ∷ [])
    first_four a b c d xs h zero = h 0
    first_four a b c d xs h (suc zero) = h 1
    first_four a b c d xs h (suc (suc zero)) = h 2
    first_four a b c d xs h (suc (suc (suc zero))) = h 3
    first_four a b c d xs h (suc (suc (suc (suc i)))) = omega arith

-- a part of a list, and the rest after it
pub part : (n k : ℕ) (xs : List ℕ) → drop n xs ≡ take k (drop n xs) ++ drop (n + k) xs
part n k xs = sym (take-append-drop k (drop n xs)) ∙ ap (λ (r : List ℕ). take k (drop n xs) ++ r) (drop-drop k n xs)

-- a number of two or four octets at index n, and the rest after it
pub field2 : (n : ℕ) (xs : List ℕ) → IsOctets xs → n + 2 ≤ length xs → drop n xs ≡ big_bytes 2 (big_number 2 (drop n xs)) ++ drop (n + 2) xs
field2 n xs h le =
    part n 2 xs ∙ ap (λ (f : List ℕ). f ++ drop (n + 2) xs) (sym (two_back (drop n xs) (IsOctets-drop n xs h) (omega (arith, length-drop n xs))))

pub field4 : (n : ℕ) (xs : List ℕ) → IsOctets xs → n + 4 ≤ length xs → drop n xs ≡ big_bytes 4 (big_number 4 (drop n xs)) ++ drop (n + 4) xs
field4 n xs h le =
    part n 4 xs ∙ ap (λ (f : List ℕ). f ++ drop (n + 4) xs) (sym (four_back (drop n xs) (IsOctets-drop n xs h) (omega (arith, length-drop n xs))))
