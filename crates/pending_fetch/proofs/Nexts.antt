-- The first free number, as a search finds it, is the next one.
use Rattle.std.proofs.Common.{◌≡◌, ℕ, zero, suc, ◌+◌, ◌-◌, ◌<◌, ◌≤◌, true, false, List, length, refl, ap, sym, ◌∙◌, arith, below_more, if◌then◌else◌}
use Rattle.pending_fetch.specs.Numbers.{nth_after, is_taken, IsNext, free_from, next_of}
use Rattle.pending_fetch.proofs.Runs.{free_at_last}
use Rattle.pending_fetch.specs.Bounds.{most_fetches}

search_is : (taken : List ℕ) (last i k : ℕ) → length taken ≤ most_fetches → i + k ≡ length taken → ((j : ℕ) → j < i → is_taken taken (nth_after last j) ≡ true) → IsNext taken last (free_from taken last i k)
search_is taken last i zero few e passed =
    let all : i ≡ length taken = omega arith in
    record {
      steps = i;
      place = refl;
      free = free_at_last taken last (nth_after last i) few (ap (nth_after last) all) (λ j h. passed j (omega arith));
      passed = passed;
    }
search_is taken last i (suc k) few e passed =
    elim (is_taken taken (nth_after last i)) as (λ v. is_taken taken (nth_after last i) ≡ v → IsNext taken last (if v then free_from taken last (i + 1) k else nth_after last i)) [
      | true ↦ λ t. search_is taken last (i + 1) k few (omega arith) (below_more (λ j. is_taken taken (nth_after last j) ≡ true) i passed t)
      | false ↦ λ t. record { steps = i; place = refl; free = t; passed = passed }
    ] refl

pub next_is : (taken : List ℕ) (last : ℕ) → length taken ≤ most_fetches → IsNext taken last (next_of taken last)
next_is taken last few = search_is taken last 0 (length taken) few (omega arith) (λ j h. absurd (omega arith))

-- one step of the search
pub free_more : (taken : List ℕ) (last i k : ℕ) → i < k → is_taken taken (nth_after last i) ≡ true → free_from taken last (i + 1) (k - (i + 1)) ≡ free_from taken last i (k - i)
free_more taken last i k h t =
    let one : k - i ≡ suc (k - (i + 1)) = omega arith in
    sym (ap (free_from taken last i) one ∙ ap (λ v. if v then free_from taken last (i + 1) (k - (i + 1)) else nth_after last i) t)
