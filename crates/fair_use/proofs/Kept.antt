-- Taking, waiting, entering and leaving keep for each the room that it was given.
use Rattle.std.proofs.Common.{◌≡◌, ℕ, ◌+◌, ◌≤◌, ◌<◌, zero, suc, List, [], ◌∷◌, ◌++◌, Option, Some, None, IfSome, IfNone, IsSome, Bool, true, false, ◌&&◌, ◌||◌, nat_eq, nat_le, slice_get, refl, arith}
use Rattle.std.proofs.Math.Dec.{eqb-suc-zero}
use Rattle.std.proofs.lemmas.Bool.{and_parts, leb-true, le-leb}
use Rattle.std.specs.List.{slice_set, remove}
use Rattle.fair_use.specs.declared.room.Holder.{Holder}
use Rattle.fair_use.specs.Room.{held_of, IsKept, leaves_room, IsNobodyNext, may_have, is_fair, wanted_of}

pub held_within : (size : ℕ) (holders : List Holder) → IsKept size holders → held_of holders ≤ size
held_within size [] h = omega arith
held_within size (x ∷ xs) h = omega (arith, h.0, h.1)

pub held_set : (holders : List Holder) (place : ℕ) (old new : Holder) → slice_get holders place ≡ Some old
    → held_of (slice_set holders place new) + old.held ≡ held_of holders + new.held
held_set [] place old new h = grind arith
held_set (x ∷ xs) zero old new h = grind arith
held_set (x ∷ xs) (suc place) old new h = let ih = held_set xs place old new h in omega (arith, ih)

pub kept_at : (size : ℕ) (holders : List Holder) (place : ℕ) (old : Holder) → IsKept size holders → slice_get holders place ≡ Some old
    → old.held ≤ old.most
kept_at size [] place old h there = grind arith
kept_at size (x ∷ xs) zero old h there = grind (arith, h.0)
kept_at size (x ∷ xs) (suc place) old h there = kept_at size xs place old h.2 there

-- the one at a place takes octets that leave those before it their room
pub kept_given : (size octets : ℕ) (holders : List Holder) (place : ℕ) (old new : Holder) → IsKept size holders
    → slice_get holders place ≡ Some old → new.held ≡ old.held + octets → new.most ≡ old.most → new.held ≤ new.most
    → leaves_room size octets place holders ≡ true → IsKept size (slice_set holders place new)
kept_given size octets [] place old new h there held most within leaves = grind arith
kept_given size octets (x ∷ xs) zero old new h there held most within leaves = grind arith
kept_given size octets (x ∷ xs) (suc place) old new h there held most within leaves =
    let both = and_parts (nat_le (x.most + held_of xs + octets) size) (leaves_room size octets place xs) leaves in
    let rest = kept_given size octets xs place old new h.2 there held most within both.1 in
    let sum = held_set xs place old new there in
    let room = leb-true (x.most + held_of xs + octets) size both.0 in
    (h.0, omega (arith, sum, room, held), rest)

-- one that changes nothing of what it holds
pub kept_same : (size : ℕ) (holders : List Holder) (place : ℕ) (old new : Holder) → IsKept size holders
    → slice_get holders place ≡ Some old → new.held ≡ old.held → new.most ≡ old.most → IsKept size (slice_set holders place new)
kept_same size [] place old new h there held most = grind arith
kept_same size (x ∷ xs) zero old new h there held most = grind arith
kept_same size (x ∷ xs) (suc place) old new h there held most =
    let rest = kept_same size xs place old new h.2 there held most in
    let sum = held_set xs place old new there in
    (h.0, omega (arith, sum, held, h.1), rest)

held_more : (holders : List Holder) (new : Holder) → new.held ≡ 0 → held_of (holders ++ new ∷ []) ≡ held_of holders
held_more [] new h = omega (arith, h)
held_more (x ∷ xs) new h = let ih = held_more xs new h in omega (arith, ih)

-- one more that holds nothing
pub kept_more : (size : ℕ) (holders : List Holder) (new : Holder) → IsKept size holders → new.held ≡ 0 → new.most ≤ size
    → IsKept size (holders ++ new ∷ [])
kept_more size [] new h held most = (omega (arith, held), omega (arith, most), tt)
kept_more size (x ∷ xs) new h held most =
    let sum = held_more xs new held in (h.0, omega (arith, sum, h.1), kept_more size xs new h.2 held most)

held_less : (holders : List Holder) (place : ℕ) → held_of (remove holders place) ≤ held_of holders
held_less [] zero = omega arith
held_less [] (suc place) = omega arith
held_less (x ∷ xs) zero = omega arith
held_less (x ∷ xs) (suc place) = let ih = held_less xs place in omega (arith, ih)

-- without the one at a place
pub kept_less : (size : ℕ) (holders : List Holder) (place : ℕ) → IsKept size holders → IsKept size (remove holders place)
kept_less size [] zero h = h
kept_less size [] (suc place) h = h
kept_less size (x ∷ xs) zero h = h.2
kept_less size (x ∷ xs) (suc place) h =
    let sum = held_less xs place in (h.0, omega (arith, sum, h.1), kept_less size xs place h.2)

-- one that began first and waits is next
pub next_first : (size : ℕ) (holders : List Holder) (found : Option ℕ) → IfNone found (IsNobodyNext size holders)
    → IfSome (slice_get holders 0) (λ holder. 0 < holder.wanted → IsSome found)
next_first size [] found nobody = tt
next_first size (x ∷ xs) (Some place) nobody = λ waits. refl
next_first size (x ∷ xs) None nobody = λ waits.
    let at = nobody 0 (omega arith) in
    let yes = le-leb 1 x.wanted (omega (arith, waits)) in
    grind (arith, at, yes)

or_and : (a b c : Bool) → a ≡ false → (a || (b && c)) ≡ true → b ≡ true
or_and true b c is_false h = grind arith
or_and false b c is_false h = (and_parts b c h).0

-- whoever may have octets leaves those before it their room
may_leaves : (size place : ℕ) (holder : Holder) (octets : ℕ) (holders : List Holder) → may_have size place holder octets holders ≡ true
    → leaves_room size octets place holders ≡ true
may_leaves size zero holder octets [] h = refl
may_leaves size zero holder octets (x ∷ xs) h = refl
may_leaves size (suc place) holder octets holders h =
    or_and (nat_eq (suc place) 0) (leaves_room size octets (suc place) holders) (is_fair size holder octets holders) (eqb-suc-zero place) h

-- the one at a place is given octets that it may have
pub kept_giving : (size octets : ℕ) (holders : List Holder) (place : ℕ) (holder : Holder) → IsKept size holders
    → slice_get holders place ≡ Some holder → holder.held + octets ≤ holder.most → may_have size place holder octets holders ≡ true
    → IsKept size (slice_set holders place (record holder { held = holder.held + octets; wanted = 0 }))
kept_giving size octets holders place holder h there within may =
    kept_given size octets holders place holder (record holder { held = holder.held + octets; wanted = 0 }) h there refl refl within
    (may_leaves size place holder octets holders may)

pub wanted_least : (holders : List Holder) → wanted_of holders ≤ 18446744073709551615
wanted_least [] = omega arith
wanted_least (x ∷ xs) = grind arith
