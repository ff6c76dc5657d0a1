-- The number of waiters of one fetch, and after each change of it.
use Rattle.std.proofs.Common.{◌≡◌, ◌≤◌, ◌==◌, ◌+◌, ℕ, true, false, List, [], ◌∷◌, ◌++◌, length, Some, refl, arith, length-append, if◌then◌else◌}
use Rattle.pending_fetch.specs.Fetches.{PendingFetch, fetch_of, waiters_in, waiters_of, all_waiters, with_next}

pub waiters_few : (number : ℕ) (list : List PendingFetch) → length (waiters_of number list) ≤ length (all_waiters list)
waiters_few number [] = omega arith
waiters_few number (f ∷ list) =
    elim (f.number == number) as (λ v. length (waiters_in (if v then Some f else fetch_of number list)) ≤ length (f.waiters ++ all_waiters list)) [
      | true ↦ omega (arith, length-append f.waiters (all_waiters list))
      | false ↦ omega (arith, length-append f.waiters (all_waiters list), waiters_few number list)
    ]

pub number_next : (f : PendingFetch) → (with_next f).number ≡ f.number
number_next f = elim (f.attempt == 65535) as (λ v. (if v then f else record f { attempt = f.attempt + 1 }).number ≡ f.number) [ true ↦ refl | false ↦ refl ]
