-- Among one more consecutive number than are taken, one is free.
use Rattle.std.proofs.Common.{◌≡◌, ℕ, zero, suc, ◌+◌, ◌%◌, ◌<◌, ◌≤◌, ◌≢◌, true, false, List, [], ◌∷◌, ◌++◌, length, refl, ap, sym, ◌∙◌, arith, nat_eq, ◌||◌, length-append, below_more}
use Rattle.std.specs.List.{list_any, IsDistinct}
use Rattle.std.specs.Cmp.{nat_eq_equiv}
use Rattle.std.proofs.lemmas.Map.Keys.{IsDistinct-push}
use Rattle.std.proofs.lemmas.Map.Made.{length-le_from_is_member}
use Rattle.std.proofs.lemmas.List.Folds.{list_any-append}
use Rattle.pending_fetch.specs.Numbers.{nth_after}
use Rattle.pending_fetch.specs.Bounds.{most_fetches}

pub next_nth : (last i : ℕ) → nth_after last i % 4294967295 + 1 ≡ nth_after last (i + 1)
next_nth last i = omega arith

apart : (last i j : ℕ) → i < j → j < 4294967295 → nth_after last i ≢ nth_after last j
apart last i j h k = λ e. omega arith

-- the first k numbers after the last
abbrev run : ℕ → ℕ → List ℕ
run last zero = []
run last (suc k) = run last k ++ nth_after last k ∷ []

length-run : (last k : ℕ) → length (run last k) ≡ k
length-run last zero = refl
length-run last (suc k) =
    let before : length (run last k) ≡ k = length-run last k in
    length-append (run last k) (nth_after last k ∷ []) ∙ omega arith

-- a member of the run has an index
place_in : (last k q : ℕ) → list_any (nat_eq q) (run last k) ≡ true → (j : ℕ) × (j < k) × (q ≡ nth_after last j)
place_in last zero q h = absurd (cc)
place_in last (suc k) q h =
    elim (list_any (nat_eq q) (run last k)) as (λ v. list_any (nat_eq q) (run last k) ≡ v → (j : ℕ) × (j < suc k) × (q ≡ nth_after last j)) [
      | true ↦ λ e. let found : (j : ℕ) × (j < k) × (q ≡ nth_after last j) = place_in last k q e in (found.0, omega arith, found.2)
      | false ↦ λ e.
          let joined : (list_any (nat_eq q) (run last k) || (nat_eq q (nth_after last k) || false)) ≡ true = sym (list_any-append (nat_eq q) (run last k) (nth_after last k ∷ [])) ∙ h in
          (k, omega arith, grind arith)
    ] refl

new_in : (last k : ℕ) → k < 4294967295 → list_any (nat_eq (nth_after last k)) (run last k) ≡ false
new_in last k h =
    elim (list_any (nat_eq (nth_after last k)) (run last k)) as (λ v. list_any (nat_eq (nth_after last k)) (run last k) ≡ v → v ≡ false) [
      | true ↦ λ e. let found : (j : ℕ) × (j < k) × (nth_after last k ≡ nth_after last j) = place_in last k (nth_after last k) e in absurd (apart last found.0 k found.1 h (sym found.2))
      | false ↦ λ e. refl
    ] refl

distinct : (last k : ℕ) → k ≤ 4294967295 → IsDistinct nat_eq (run last k)
unfolding IsDistinct
distinct last zero h = tt
distinct last (suc k) h = IsDistinct-push nat_eq_equiv (run last k) (nth_after last k) (distinct last k (omega arith)) (new_in last k (omega arith))

pub crowded : (taken : List ℕ) (last k : ℕ) → k ≤ 4294967295 → ((i : ℕ) → i < k → list_any (λ m. nat_eq (nth_after last i) m) taken ≡ true) → k ≤ length taken
crowded taken last k h passed =
    let few : length (run last k) ≤ length taken =
    length-le_from_is_member nat_eq_equiv (run last k) taken (distinct last k h)
    (λ q e. let found : (j : ℕ) × (j < k) × (q ≡ nth_after last j) = place_in last k q e in
    ap (λ p. list_any (λ m. nat_eq p m) taken) found.2 ∙ passed found.0 found.1) in
    let long : length (run last k) ≡ k = length-run last k in
    omega arith

-- if as many consecutive numbers are taken as there are, the next one is free
pub free_at_last : (taken : List ℕ) (last n : ℕ) → length taken ≤ most_fetches → n ≡ nth_after last (length taken) →
    ((i : ℕ) → i < length taken → list_any (λ m. nat_eq (nth_after last i) m) taken ≡ true) → list_any (λ m. nat_eq n m) taken ≡ false
free_at_last taken last n few place passed =
    elim (list_any (λ m. nat_eq n m) taken) as (λ v. list_any (λ m. nat_eq n m) taken ≡ v → v ≡ false) [
      | true ↦ λ e.
          let more : length taken + 1 ≤ length taken =
          crowded taken last (length taken + 1) (omega arith) (below_more (λ i. list_any (λ m. nat_eq (nth_after last i) m) taken ≡ true) (length taken) passed (ap (λ p. list_any (λ m. nat_eq p m) taken) (sym place) ∙ e)) in
          absurd (omega arith)
      | false ↦ λ e. refl
    ] refl
