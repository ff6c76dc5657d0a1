-- If every kept receipt is good and none was dropped, each number of the book is that of exactly one receipt.
use Rattle.std.proofs.Common.{◌≡◌, ℕ, zero, suc, ◌+◌, ◌<◌, ◌≤◌, Bool, cond, List, [], ◌∷◌, length, ◌⊎◌, inl, inr, refl, sym, ap, subst, ◌∙◌, arith}
use Rattle.std.specs.Prelude.{Some, slice_get, sum_by, count_by, ◌==◌}
use Rattle.std.proofs.lemmas.List.Sums.{sum_by-cons}
use Rattle.std.proofs.lemmas.Bool.Decides.{nat_tests}
use Rattle.node_book.specs.Book.{Book, count_of}
use Rattle.node_book.specs.Seats.{Claim, Held}
use Rattle.node_book.specs.Good.{AreAllGood, AreAllKept, numbered}

-- 1 for a test that holds
abbrev hit : Bool → ℕ
hit b = cond b 1 0

-- the sum of the values at the first numbers
abbrev below : ℕ → (ℕ → ℕ) → ℕ
below zero f = 0
below (suc n) f = below n f + f n

below-plus : (n : ℕ) (f g : ℕ → ℕ) → below n (λ k. f k + g k) ≡ below n f + below n g
below-plus zero f g = refl
below-plus (suc n) f g = omega (arith, below-plus n f g)

below-same : (n : ℕ) (f g : ℕ → ℕ) → ((k : ℕ) → f k ≡ g k) → below n f ≡ below n g
below-same zero f g h = refl
below-same (suc n) f g h = omega (arith, below-same n f g h, h n)

below-zero : (n : ℕ) → below n (λ k. 0) ≡ 0
below-zero zero = refl
below-zero (suc n) = omega (arith, below-zero n)

below-none : (n m : ℕ) → n ≤ m → below n (λ k. hit (m == k)) ≡ 0
below-none zero m le = refl
below-none (suc n) m le =
    let here : hit (m == n) ≡ 0 = grind (arith, nat_tests) in
    omega (arith, below-none n m (omega arith), here)

below-one : (n m : ℕ) → m < n → below n (λ k. hit (m == k)) ≡ 1
below-one zero m lt = absurd (omega arith)
below-one (suc n) m lt =
    let cases : (m < n) ⊎ (m ≡ n) = grind arith in
    elim cases [
      | inl less ↦ let here : hit (m == n) ≡ 0 = grind (arith, nat_tests) in omega (arith, below-one n m less, here)
      | inr same ↦ let here : hit (m == n) ≡ 1 = grind (arith, nat_tests) in omega (arith, below-none n m (omega arith), here)
    ]

below-receipts : (n : ℕ) (receipts : List Claim) → ((j : ℕ) (r : Claim) → slice_get receipts j ≡ Some r → r.number < n)
    → below n (λ k. count_by (λ (r : Claim). r.number == k) receipts) ≡ length receipts
below-receipts n [] h = below-zero n
below-receipts n (x ∷ receipts) h =
    let one = below-one n x.number (h 0 x refl) in
    let rest = below-receipts n receipts (λ j r at. h (suc j) r at) in
    below-same n _ (λ k. hit (x.number == k) + count_by (λ (r : Claim). r.number == k) receipts)
    (λ k. sum_by-cons (λ (r : Claim). hit (r.number == k)) x receipts)
    ∙ below-plus n _ _ ∙ omega (arith, one, rest)

below-seats : (n : ℕ) (seats : List Held)
    → ((i : ℕ) (s : Held) → slice_get seats i ≡ Some s → (j : ℕ) (r : Claim) → slice_get s.receipts j ≡ Some r → r.number < n)
    → below n (λ k. numbered k seats) ≡ sum_by (λ (s : Held). length s.receipts) seats
below-seats n [] h = below-zero n
below-seats n (x ∷ seats) h =
    let one = below-receipts n x.receipts (h 0 x refl) in
    let rest = below-seats n seats (λ i s at. h (suc i) s at) in
    below-same n _ (λ k. count_by (λ (r : Claim). r.number == k) x.receipts + numbered k seats)
    (λ k. sum_by-cons (λ (s : Held). count_by (λ (r : Claim). r.number == k) s.receipts) x seats)
    ∙ below-plus n _ _ ∙ omega (arith, one, rest, sum_by-cons (λ (s : Held). length s.receipts) x seats)

below-le : (n : ℕ) (f : ℕ → ℕ) → ((k : ℕ) → k < n → f k ≤ 1) → below n f ≤ n
below-le zero f h = omega arith
below-le (suc n) f h = omega (arith, below-le n f (λ k lt. h k (omega arith)), h n (omega arith))

below-all : (n : ℕ) (f : ℕ → ℕ) → ((k : ℕ) → k < n → f k ≤ 1) → below n f ≡ n → (k : ℕ) → k < n → f k ≡ 1
below-all zero f h e k lt = absurd (omega arith)
below-all (suc n) f h e k lt =
    let least = below-le n f (λ k lt. h k (omega arith)) in
    let last = h n (omega arith) in
    let cases : (k < n) ⊎ (k ≡ n) = grind arith in
    elim cases [
      | inl less ↦ below-all n f (λ k lt. h k (omega arith)) (omega (arith, least, last, e)) k less
      | inr same ↦ ap f same ∙ omega (arith, least, last, e)
    ]

some-receipt : (k : ℕ) (receipts : List Claim) → 0 < count_by (λ (r : Claim). r.number == k) receipts
    → (j : ℕ) × ((r : Claim) × (slice_get receipts j ≡ Some r) × (r.number ≡ k))
some-receipt k [] h = absurd (omega arith)
some-receipt k (x ∷ receipts) h =
    let split = sum_by-cons (λ (r : Claim). hit (r.number == k)) x receipts in
    let cases : (x.number ≡ k) ⊎ (hit (x.number == k) ≡ 0) = grind (arith, nat_tests) in
    elim cases [
      | inl same ↦ (0, (x, refl, same))
      | inr none ↦ let more = some-receipt k receipts (omega (arith, split, none, h)) in (suc more.0, more.1)
    ]

some-seat : (k : ℕ) (seats : List Held) → 0 < numbered k seats
    → (i : ℕ) × ((s : Held) × (slice_get seats i ≡ Some s) × (0 < count_by (λ (r : Claim). r.number == k) s.receipts))
some-seat k [] h = absurd (omega arith)
some-seat k (x ∷ seats) h =
    let split = sum_by-cons (λ (s : Held). count_by (λ (r : Claim). r.number == k) s.receipts) x seats in
    let cases : (0 < count_by (λ (r : Claim). r.number == k) x.receipts) ⊎ (count_by (λ (r : Claim). r.number == k) x.receipts ≡ 0) = grind arith in
    elim cases [
      | inl some ↦ (0, (x, refl, some))
      | inr none ↦ let more = some-seat k seats (omega (arith, split, none, h)) in (suc more.0, more.1)
    ]

kept-sum : (seats : List Held) → AreAllKept seats → sum_by (λ (s : Held). length s.receipts) seats ≡ sum_by (λ (s : Held). s.share) seats
kept-sum [] h = refl
kept-sum (x ∷ seats) h =
    let here = h 0 x refl in
    let rest = kept-sum seats (λ i s at. h (suc i) s at) in
    omega (arith, here, rest, sum_by-cons (λ (s : Held). length s.receipts) x seats, sum_by-cons (λ (s : Held). s.share) x seats)

pub each-once : (b : Book) (seats : List Held) → b.base ≡ 0 → sum_by (λ (s : Held). s.share) seats ≡ count_of b → AreAllKept seats → AreAllGood b seats
    → (n : ℕ) → n < count_of b → numbered n seats ≡ 1
each-once b seats base whole kept good =
    let at_most : (k : ℕ) → k < count_of b → numbered k seats ≤ 1 =
    λ k lt.
    let cases : (0 < numbered k seats) ⊎ (numbered k seats ≡ 0) = grind arith in
    elim cases [
      | inl some ↦
          let s = some-seat k seats some in
          let r = some-receipt k s.1.0.receipts s.1.2 in
          let one = (good s.0 s.1.0 s.1.1 r.0 r.1.0 r.1.1 (omega arith)).alone in
          subst (λ m. numbered m seats ≤ 1) r.1.2 (omega (arith, one))
      | inr none ↦ omega (arith, none)
    ] in
    below-all (count_of b) (λ k. numbered k seats) at_most
    (below-seats (count_of b) seats (λ i s at j r there. (good i s at j r there (omega arith)).stands.taken) ∙ kept-sum seats kept ∙ whole)
