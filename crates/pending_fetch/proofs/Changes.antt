-- What a change of a fetch that keeps its number leaves unchanged.
use Rattle.std.proofs.Common.{◌≡◌, ℕ, Bool, true, false, List, [], ◌∷◌, refl, ap, sym, ◌∙◌, ◌==◌, if◌then◌else◌, Some, None, Option}
use Rattle.std.specs.List.{position}
use Rattle.std.specs.Option.{option_map}
use Rattle.peer_select.specs.Poll.{decided}
use Rattle.pending_fetch.specs.Fetches.{PendingFetch, changed, fetch_of}
use Rattle.pending_fetch.proofs.Words.{numbers-changed}
use Rattle.pending_fetch.proofs.Spots.{is_it, position-numbers}

-- a change that keeps the numbers leaves each fetch at its index
pub place_changed : (change : PendingFetch → PendingFetch) → ((f : PendingFetch) → (change f).number ≡ f.number) → (number other : ℕ) (list : List PendingFetch) →
    position (is_it other) (changed change number list) ≡ position (is_it other) list
place_changed change same number other list =
    sym (position-numbers other (changed change number list)) ∙ ap (position (λ n. n == other)) (numbers-changed change same number list) ∙ position-numbers other list

-- the fetch with a number after a change that keeps numbers
fetch_changed : (change : PendingFetch → PendingFetch) → ((f : PendingFetch) → (change f).number ≡ f.number) → (number : ℕ) (list : List PendingFetch) →
    fetch_of number (changed change number list) ≡ option_map change (fetch_of number list)
fetch_changed change same number [] = refl
fetch_changed change same number (f ∷ list) =
    elim (is_it number f) as (λ v. is_it number f ≡ v → fetch_of number (if v then change f ∷ list else f ∷ changed change number list) ≡ option_map change (if v then Some f else fetch_of number list)) [
      | true ↦ λ e. let here : is_it number (change f) ≡ true = ap (λ n. n == number) (same f) ∙ e in rw here refl
      | false ↦ λ e. rw e (fetch_changed change same number list)
    ] refl

option_map-twice : (change : PendingFetch → PendingFetch) (test : PendingFetch → Bool) (o : Option PendingFetch) → option_map test (option_map change o) ≡ option_map (λ (f : PendingFetch). test (change f)) o
option_map-twice change test None = refl
option_map-twice change test (Some f) = refl

-- whether its round is decided then
pub decided_changed : (change : PendingFetch → PendingFetch) → ((f : PendingFetch) → (change f).number ≡ f.number) → (number : ℕ) (list : List PendingFetch) →
    option_map (λ (f : PendingFetch). decided f.round) (fetch_of number (changed change number list)) ≡ option_map (λ (f : PendingFetch). decided (change f).round) (fetch_of number list)
decided_changed change same number list =
    ap (option_map (λ (f : PendingFetch). decided f.round)) (fetch_changed change same number list) ∙ option_map-twice change (λ (f : PendingFetch). decided f.round) (fetch_of number list)
