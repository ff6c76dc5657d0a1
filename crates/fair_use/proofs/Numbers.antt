-- Who enters has a number that nobody has.
use Rattle.std.proofs.Common.{◌≡◌, ℕ, ◌+◌, ◌≤◌, ◌<◌, zero, suc, List, [], ◌∷◌, ◌++◌, Option, Some, None, Bool, true, false, nat_eq, min, slice_get, refl, arith}
use Rattle.std.specs.List.{slice_set, remove}
use Rattle.fair_use.specs.declared.room.Holder.{Holder}
use Rattle.fair_use.specs.Room.{AreBelow, IsNumbered, place_from}

below_set : (n : ℕ) (holders : List Holder) (place : ℕ) (old new : Holder) → AreBelow n holders → slice_get holders place ≡ Some old
    → new.number ≡ old.number → AreBelow n (slice_set holders place new)
below_set n [] place old new h there same = grind arith
below_set n (x ∷ xs) zero old new h there same = grind (arith, h.0, h.1)
below_set n (x ∷ xs) (suc place) old new h there same = (h.0, below_set n xs place old new h.1 there same)

pub numbered_set : (n : ℕ) (holders : List Holder) (place : ℕ) (old new : Holder) → IsNumbered n holders → slice_get holders place ≡ Some old
    → new.number ≡ old.number → IsNumbered n (slice_set holders place new)
numbered_set n holders place old new h there same = λ few. below_set n holders place old new (h few) there same

below_less : (n : ℕ) (holders : List Holder) (place : ℕ) → AreBelow n holders → AreBelow n (remove holders place)
below_less n [] zero h = h
below_less n [] (suc place) h = h
below_less n (x ∷ xs) zero h = h.1
below_less n (x ∷ xs) (suc place) h = (h.0, below_less n xs place h.1)

pub numbered_less : (n : ℕ) (holders : List Holder) (place : ℕ) → IsNumbered n holders → IsNumbered n (remove holders place)
numbered_less n holders place h = λ few. below_less n holders place (h few)

below_more : (n m : ℕ) (holders : List Holder) (new : Holder) → n < m → AreBelow n holders → new.number ≡ n → AreBelow m (holders ++ new ∷ [])
below_more n m [] new more h same = (omega (arith, more, same), tt)
below_more n m (x ∷ xs) new more h same = (omega (arith, more, h.0), below_more n m xs new more h.1 same)

pub numbered_more : (n m : ℕ) (holders : List Holder) (new : Holder) → IsNumbered n holders → new.number ≡ n
    → m ≡ min (n + 1) 18446744073709551615 → IsNumbered m (holders ++ new ∷ [])
numbered_more n m holders new h same more = λ few.
    below_more n m holders new (omega (arith, few, more)) (h (omega (arith, few, more))) same

none_below : (n place : ℕ) (holders : List Holder) → AreBelow n holders → place_from place n holders ≡ None
none_below n place [] h = refl
none_below n place (x ∷ xs) h = let ih = none_below n (place + 1) xs h.1 in grind (arith, h.0, ih)

pub nobody_has : (n : ℕ) (holders : List Holder) → IsNumbered n holders → n < 18446744073709551615 → place_from 0 n holders ≡ None
nobody_has n holders h few = none_below n 0 holders (h few)
