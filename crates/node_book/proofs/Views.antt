-- A list that is made by index from another one, one element longer.
use Rattle.std.proofs.Common.{◌≡◌, ℕ, zero, suc, ◌+◌, ◌<◌, List, [], ◌∷◌, ◌++◌, length, take, Option, Some, None, option_map, refl, ap, sym, ◌∙◌, arith}
use Rattle.std.specs.Prelude.{slice_get}
use Rattle.std.proofs.lemmas.List.{take_more, length-take-le}
use Rattle.std.proofs.lemmas.Option.{slice_get_within, get_or_from_slice_get}

-- an index within the list has an element
pub there : {A : Type 0} (of : List A) (n : ℕ) → n < length of → slice_get of n ≡ None → ⊥
there [] n within none = omega arith
there (x ∷ of) zero within none = cc
there (x ∷ of) (suc n) within none = there of n (omega arith) none

pushed : {A B : Type 0} (view : ℕ → A → B) (made : List B) (of : List A) (next : A) → ((k : ℕ) → slice_get made k ≡ option_map (view k) (slice_get of k))
    → (k : ℕ) → slice_get (made ++ view (length of) next ∷ []) k ≡ option_map (view k) (slice_get (of ++ next ∷ []) k)
pushed view [] [] next same zero = refl
pushed view [] [] next same (suc k) = refl
pushed view [] (x ∷ of) next same k = let no : None ≡ Some (view zero x) = same zero in absurd cc
pushed view (y ∷ made) [] next same k = let no : Some y ≡ None = same zero in absurd cc
pushed view (y ∷ made) (x ∷ of) next same zero = same zero
pushed view (y ∷ made) (x ∷ of) next same (suc k) = pushed (λ (n : ℕ). view (suc n)) made of next (λ (n : ℕ). same (suc n)) k

-- the step of a loop that makes one element for each index
pub longer : {A B : Type 0} (view : ℕ → A → B) (made items : List B) (of : List A) (n : ℕ) (x : A) (v : B) → slice_get of n ≡ Some x → v ≡ view n x → items ≡ made ++ v ∷ []
    → ((k : ℕ) → slice_get made k ≡ option_map (view k) (slice_get (take n of) k)) → (k : ℕ) → slice_get items k ≡ option_map (view k) (slice_get (take (n + 1) of) k)
longer view made items of n x v at is grown same k =
    let within : n < length of = slice_get_within of n x at in
    let cut : take (n + 1) of ≡ take n of ++ x ∷ [] = take_more of n x within ∙ ap (λ y. take n of ++ y ∷ []) (get_or_from_slice_get of n x x at) in
    let size : length (take n of) ≡ n = length-take-le n of (omega arith) in
    let last : v ≡ view (length (take n of)) x = is ∙ ap (λ m. view m x) (sym size) in
    rw (grown, cut, last) (pushed view made (take n of) x same k)
