-- The least number of which at least one of two facts holds.
use Rattle.std.proofs.Common.{◌≡◌, ℕ, ◌<◌, ◌≤◌, List, ◌⊎◌, inl, inr, arith, subst, sym, refl, min, ◌+◌, ◌∙◌}
use Rattle.std.specs.Prelude.{Option, Some, None, slice_get}
use Rattle.node_book.specs.Book.{Book}
use Rattle.node_book.specs.Seats.{Held}
use Rattle.node_book.specs.Good.{IsGoodAt, IsLeastOf, IsMisfitAt, IsMisfitOf, lesser_of}

pub least-join : (P Q R : ℕ → Type 0) (a b : Option ℕ) → IsLeastOf P a → IsLeastOf Q b
    → ((n : ℕ) → R n → P n ⊎ Q n) → ((n : ℕ) → P n → R n) → ((n : ℕ) → Q n → R n) → IsLeastOf R (lesser_of a b)
least-join P Q R None None p q split from_p from_q = λ n r. elim (split n r) [ inl x ↦ p n x | inr y ↦ q n y ]
least-join P Q R None (Some y) p q split from_p from_q =
    (from_q y q.0, (λ m r. elim (split m r) [ inl x ↦ absurd (p m x) | inr z ↦ q.1 m z ]))
least-join P Q R (Some x) None p q split from_p from_q =
    (from_p x p.0, (λ m r. elim (split m r) [ inl z ↦ p.1 m z | inr y ↦ absurd (q m y) ]))
least-join P Q R (Some x) (Some y) p q split from_p from_q =
    let cases : ((min x y ≡ x) × (x ≤ y)) ⊎ ((min x y ≡ y) × (y ≤ x)) = grind arith in (
      (elim cases [ inl h ↦ subst R (sym h.0) (from_p x p.0) | inr h ↦ subst R (sym h.0) (from_q y q.0) ]),
      (λ m r. elim (split m r) [ inl z ↦ (let h = p.1 m z in omega arith) | inr z ↦ (let h = q.1 m z in omega arith) ]),
    )

-- the least number of an equivalent fact
pub least-map : (P Q : ℕ → Type 0) (a : Option ℕ) → ((n : ℕ) → P n → Q n) → ((n : ℕ) → Q n → P n) → IsLeastOf P a → IsLeastOf Q a
least-map P Q None to from h = λ n q. h n (from n q)
least-map P Q (Some x) to from h = (to x h.0, (λ m q. h.1 m (from m q)))

-- one more index
pub least-below : (M : ℕ → ℕ → Type 0) (j : ℕ) (a b : Option ℕ) → IsLeastOf (λ n. (i : ℕ) × (i < j) × M i n) a → IsLeastOf (M j) b
    → IsLeastOf (λ n. (i : ℕ) × (i < j + 1) × M i n) (lesser_of a b)
least-below M j a b h k =
    least-join (λ n. (i : ℕ) × (i < j) × M i n) (M j) (λ n. (i : ℕ) × (i < j + 1) × M i n) a b h k
    (λ n r.
    let cases : (r.0 < j) ⊎ (r.0 ≡ j) = grind arith in
    elim cases [ inl lt ↦ inl (r.0, lt, r.2) | inr e ↦ inr (subst (λ i. M i n) e r.2) ])
    (λ n p. (p.0, omega arith, p.2)) (λ n q. (j, omega arith, q))

-- all indices are below
pub least-all : (M : ℕ → ℕ → Type 0) (j : ℕ) (a : Option ℕ) → ((i n : ℕ) → M i n → i < j) → IsLeastOf (λ n. (i : ℕ) × (i < j) × M i n) a
    → IsLeastOf (λ n. (i : ℕ) × M i n) a
least-all M j a within = least-map _ _ a (λ n p. (p.0, p.2)) (λ n p. (p.0, within p.0 n p.1, p.1))

-- the least number of a given seat is that of the seat at its index
pub least-of-seat : (b : Book) (seats : List Held) (i : ℕ) (s : Held) (a : Option ℕ) → slice_get seats i ≡ Some s
    → IsLeastOf (λ n. (j : ℕ) × IsMisfitAt b seats s.receipts j n) a → IsLeastOf (IsMisfitOf b seats i) a
least-of-seat b seats i s a at =
    least-map _ _ a (λ n m. (s, at, m))
    (λ n o. let same : o.0 ≡ s = (let e = sym o.1 ∙ at in cc) in subst (λ (t : Held). (j : ℕ) × IsMisfitAt b seats t.receipts j n) same o.2)

-- if both are absent, what follows from the absence of each holds
pub none-below : (G : ℕ → Type 0) (j : ℕ) (a b : Option ℕ) → (a ≡ None → (i : ℕ) → i < j → G i) → (b ≡ None → G j)
    → lesser_of a b ≡ None → (i : ℕ) → i < j + 1 → G i
none-below G j None b before here e i lt =
    let cases : (i < j) ⊎ (i ≡ j) = grind arith in
    elim cases [ inl below ↦ before refl i below | inr same ↦ subst G (sym same) (here e) ]
none-below G j (Some x) None before here e i lt = let no : ⊥ = cc in absurd no
none-below G j (Some x) (Some y) before here e i lt = let no : ⊥ = cc in absurd no

-- if the receipts of a given seat are good, so are those of the seat at its index
pub good-of-seat : (b : Book) (seats : List Held) (i : ℕ) (s : Held) → slice_get seats i ≡ Some s
    → ((j : ℕ) → IsGoodAt b seats s.receipts j) → (t : Held) → slice_get seats i ≡ Some t → (j : ℕ) → IsGoodAt b seats t.receipts j
good-of-seat b seats i s at good t there =
    let same : s ≡ t = (let e = sym at ∙ there in cc) in subst (λ (u : Held). (j : ℕ) → IsGoodAt b seats u.receipts j) same good
