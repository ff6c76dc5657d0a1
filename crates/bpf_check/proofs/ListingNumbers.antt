-- Values of decimal digits, saturated at a bound; lines of numbers.
use Rattle.std.proofs.Common.{◌≡◌, ℕ, suc, ◌+◌, ◌-◌, ◌*◌, ◌^◌, ◌<◌, ◌≤◌, ◌⊎◌, inl, inr, min, List, [], ◌∷◌, ◌++◌, true, ◌&&◌, length, map, get_or, drop, refl, ap, sym, ◌∙◌, arith, length-append}
use Rattle.std.proofs.lemmas.List.{drop_more, drop_all}
use Rattle.std.specs.List.{list_all}
use Rattle.std.specs.Char.{is_ascii_digit}
use Rattle.bpf_check.specs.Listing.{words, value, Says, NotFour, IsTooLarge, FourTooLarge}
use Rattle.wire_octets.specs.Decimal.{value_after}
use Rattle.bpf_check.specs.LineReading.{capped, Begins, NotOne, AreFour}

-- saturating the value of the digits read so far doesn't change the saturated result
pub value_cut : (most a b : ℕ) (cs : List ℕ) → (a ≡ b) ⊎ ((most ≤ a) × (most ≤ b)) → min (value_after a cs) most ≡ min (value_after b cs) most
value_cut most a b [] (inl e) = omega arith
value_cut most a b [] (inr h) = omega (arith, h.0, h.1)
value_cut most a b (c ∷ cs) (inl e) = value_cut most (a * 10 + (c - 48)) (b * 10 + (c - 48)) cs (inl (omega arith))
value_cut most a b (c ∷ cs) (inr h) = value_cut most (a * 10 + (c - 48)) (b * 10 + (c - 48)) cs (inr (omega (arith, h.0), omega (arith, h.1)))

pub value_step : (most m n : ℕ) (word : List ℕ) (i : ℕ) → i < length word → (m ≡ n * 10 + (get_or word i 0 - 48)) ⊎ ((most ≤ m) × (most ≤ n * 10 + (get_or word i 0 - 48)))
    → min (value_after m (drop (i + 1) word)) most ≡ min (value_after n (drop i word)) most
value_step most m n word i inside h = rw (drop_more word i 0) (value_cut most m (n * 10 + (get_or word i 0 - 48)) (drop (i + 1) word) h)

pub digits_step : (word : List ℕ) (i : ℕ) → i < length word → is_ascii_digit (get_or word i 0) ≡ true → list_all is_ascii_digit (drop (i + 1) word) ≡ list_all is_ascii_digit (drop i word)
digits_step word i inside h = rw (drop_more word i 0) (ap (λ b. b && list_all is_ascii_digit (drop (i + 1) word)) (sym h))

pub digits_all : (word : List ℕ) (i : ℕ) → length word ≤ i → list_all is_ascii_digit (drop i word) ≡ true
digits_all word i h = rw (drop_all i word h) refl

pub value_all : (n : ℕ) (word : List ℕ) (i : ℕ) → length word ≤ i → min (value_after n (drop i word)) (2 ^ 64 - 1) ≡ min (value word) (2 ^ 64 - 1) → n < 2 ^ 64 → n ≡ capped word
value_all n word i h same small =
    let e : value_after n (drop i word) ≡ n = rw (drop_all i word h) refl in
    let k : min n (2 ^ 64 - 1) ≡ min (value word) (2 ^ 64 - 1) = rw e at same in
    omega arith

pub lt_or_le : (m n : ℕ) → (m < n) ⊎ (n ≤ m)
lt_or_le m n = grind arith

pub cut_sum : (n d a b c : ℕ) → d < 256 → a ≡ min (n * 10) (2 ^ 64 - 1) → b ≡ d → c ≡ min (a + b) (2 ^ 64 - 1) → (c ≡ n * 10 + d) ⊎ ((2 ^ 64 - 1 ≤ c) × (2 ^ 64 - 1 ≤ n * 10 + d))
cut_sum n d a b c small ea eb ec = elim (lt_or_le (n * 10 + d) (2 ^ 64 - 1)) [ inl h ↦ inl (omega arith) | inr h ↦ inr (omega arith, omega arith) ]

-- ---- lines of numbers

-- a line of numbers has one word per number
same_length : (ws : List (List ℕ)) → length (map value ws) ≡ length ws
same_length [] = refl
same_length (w ∷ ws) = ap suc (same_length ws)

as_many : (ws : List (List ℕ)) (ns : List ℕ) → map value ws ≡ ns → length ws ≡ length ns
as_many ws ns e = sym (same_length ws) ∙ ap length e

-- there is a word after all numbers
pub too_many : (line : List ℕ) (front ws : List (List ℕ)) (ns : List ℕ) → words line ≡ front ++ ws → (ws ≡ [] → ⊥) → length front ≡ length ns → Says line ns → ⊥
too_many line front [] ns e h few says = h refl
too_many line front (w ∷ ws) ns e h few says =
    let k = as_many (words line) ns says.values in
    let m : length (words line) ≡ length front + length (w ∷ ws) = ap length e ∙ length-append front (w ∷ ws) in
    omega arith

pub two_words : (line : List ℕ) (a : List (List ℕ)) (m : ℕ) → Begins (words line) m a → (a ≡ [] → ⊥) → NotOne line
two_words line a m first some n says = too_many line (first.word ∷ []) a (n ∷ []) first.first some refl says

pub five_words : (line : List ℕ) (a b c d : List (List ℕ)) (m n o p : ℕ) → Begins (words line) m a → Begins a n b → Begins b o c → Begins c p d → (d ≡ [] → ⊥) → NotFour line
five_words line a b c d m n o p w x y z some code jt jf k says =
    let e : words line ≡ w.word ∷ x.word ∷ y.word ∷ z.word ∷ d = cc in
    too_many line (w.word ∷ x.word ∷ y.word ∷ z.word ∷ []) d (code ∷ jt ∷ jf ∷ k ∷ []) e some refl says

pub four_large : (line : List ℕ) (a b c d : ℕ) → AreFour line a b c d → IsTooLarge a b c d → FourTooLarge line
four_large line a b c d f (inl h) = (f.code, f.jt, f.jf, f.k, f.says, inl (omega (arith, f.first)))
four_large line a b c d f (inr (inl h)) = (f.code, f.jt, f.jf, f.k, f.says, inr (inl (omega (arith, f.second))))
four_large line a b c d f (inr (inr (inl h))) = (f.code, f.jt, f.jf, f.k, f.says, inr (inr (inl (omega (arith, f.third)))))
four_large line a b c d f (inr (inr (inr h))) = (f.code, f.jt, f.jf, f.k, f.says, inr (inr (inr (omega (arith, f.fourth)))))
