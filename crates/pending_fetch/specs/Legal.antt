-- The invariant of the list of pending fetches.
use Rattle.std.specs.Prelude.{◌≡◌, ℕ, ◌≤◌, nat_le, nat_eq, Bool, true, ◌&&◌, List, [], ◌∷◌, length}
use Rattle.std.specs.List.{list_all, IsDistinct}
use Rattle.pending_fetch.specs.Fetches.{PendingFetch, numbers, starts, all_waiters}
use Rattle.pending_fetch.specs.Bounds.{most_fetches, most_waiters}

-- whether the list is in non-descending order
abbrev pub is_rising : List ℕ → Bool
is_rising [] = true
is_rising (first ∷ others) = list_all (λ other. nat_le first other) others && is_rising others

-- at most 256 fetches and 1,024 waiters in all, distinct numbers, distinct waiters, and start times in non-descending order
pub record IsLegal (list : List PendingFetch) : Type 0 where
  pub few : length list ≤ most_fetches
  pub uncrowded : length (all_waiters list) ≤ most_waiters
  pub numbered : IsDistinct nat_eq (numbers list)
  pub once : IsDistinct nat_eq (all_waiters list)
  pub in_order : is_rising (starts list) ≡ true
