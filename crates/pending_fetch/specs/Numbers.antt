-- Fetch numbers: 1 to 4,294,967,295, which wrap around.
use Rattle.std.specs.Prelude.{◌≡◌, ℕ, zero, suc, ◌+◌, ◌%◌, ◌<◌, Bool, true, false, ◌&&◌, List, [], ◌∷◌, length, nat_eq, nat_lt, nat_le, Option, Some, None, if◌then◌else◌}
use Rattle.std.specs.List.{list_any, list_all}

-- the number i steps after the successor of `last`; 4,294,967,295 wraps around to 1
abbrev pub nth_after : ℕ → ℕ → ℕ
nth_after last i = (last + i) % 4294967295 + 1

-- whether the number is in the list
abbrev pub is_taken : List ℕ → ℕ → Bool
is_taken taken n = list_any (λ m. nat_eq n m) taken

-- n is the first number after `last` that is not in the list
pub record IsNext (taken : List ℕ) (last n : ℕ) : Type 0 where
  pub steps : ℕ
  pub place : n ≡ nth_after last steps
  pub free : is_taken taken n ≡ false
  pub passed : (i : ℕ) → i < steps → is_taken taken (nth_after last i) ≡ true

-- the first free number from step i on, if at most k numbers from there on are taken
abbrev pub free_from : List ℕ → ℕ → ℕ → ℕ → ℕ
free_from taken last i zero = nth_after last i
free_from taken last i (suc k) = if is_taken taken (nth_after last i) then free_from taken last (i + 1) k else nth_after last i

-- the first free number after `last`: among one more number than are taken, one is free
abbrev pub next_of : List ℕ → ℕ → ℕ
next_of taken last = free_from taken last 0 (length taken)

-- whether the list is strictly ascending
abbrev pub is_climbing : List ℕ → Bool
is_climbing [] = true
is_climbing (first ∷ others) = list_all (λ other. nat_lt first other) others && is_climbing others

-- whether the list is strictly ascending with no number above `top`; None makes no claim
abbrev pub rises_to : Option ℕ → List ℕ → Bool
rises_to None numbers = true
rises_to (Some top) numbers = is_climbing numbers && list_all (λ number. nat_le number top) numbers
