-- The operations on the list, described at the entry of one fetch, and at the first due fetch.
use Rattle.std.specs.Prelude.{◌≡◌, ℕ, true, List, [], ◌∷◌, ◌++◌, filter, Some}
use Rattle.pending_fetch.specs.Fetches.{PendingFetch, fetch_of, waiters_of, without, changed, is_due, all_due, with_end}

-- f is the fetch with this number: the list is `before`, f, `after`, and each operation on the number affects f alone
pub record IsPlace (number : ℕ) (list : List PendingFetch) (f : PendingFetch) : Type 0 where
  pub before : List PendingFetch
  pub after : List PendingFetch
  pub split : list ≡ before ++ f ∷ after
  pub here : f.number ≡ number
  pub waiting : waiters_of number list ≡ f.waiters
  pub closed : without number list ≡ before ++ after
  pub change : (change : PendingFetch → PendingFetch) → changed change number list ≡ before ++ change f ∷ after

-- the fetch with this number is the first due one; closing or expiring it leaves exactly the other due fetches
pub record IsFirstDue (now number : ℕ) (list : List PendingFetch) : Type 0 where
  pub fetch : PendingFetch
  pub found : fetch_of number list ≡ Some fetch
  pub place : IsPlace number list fetch
  pub due : is_due now fetch ≡ true
  pub earlier : filter (is_due now) place.before ≡ []
  pub closing : all_due now list ≡ number ∷ all_due now (without number list)
  pub expiring : all_due now list ≡ number ∷ all_due now (changed with_end number list)
