-- The running minimum is the element that no other precedes.
use Rattle.std.proofs.Common.{◌≡◌, Bool, true, false, not, List, [], ◌∷◌, ◌++◌, refl, ap, sym, ◌∙◌, append_assoc, ◌||◌, Some, None, if◌then◌else◌}
use Rattle.std.proofs.Common.{subst}
use Rattle.std.proofs.lemmas.List.{append-nil}
use Rattle.std.specs.List.{list_any, find, fold}
use Rattle.peer_select.specs.declared.reply.Reply.{Reply}
use Rattle.peer_select.specs.Choice.{first_of}
use Rattle.peer_select.specs.Best.{better}

-- the laws of a boolean order
pub record IsOrder (less : Reply → Reply → Bool) : Type 0 where
  pub one_way : (x y : Reply) → less x y ≡ true → less y x ≡ false
  pub through : (x b q : Reply) → less x b ≡ true → less q b ≡ false → less x q ≡ true

-- no element of the list precedes b
abbrev pub Unbeaten : (Reply → Reply → Bool) → List Reply → Reply → Type 0
Unbeaten less [] b = Unit {0}
Unbeaten less (x ∷ xs) b = (less x b ≡ false) × Unbeaten less xs b

-- b precedes each element of the list
abbrev pub Beats : (Reply → Reply → Bool) → Reply → List Reply → Type 0
Beats less b [] = Unit {0}
Beats less b (x ∷ xs) = (less b x ≡ true) × Beats less b xs

pub irreflexive : (less : Reply → Reply → Bool) → IsOrder less → (x : Reply) → less x x ≡ false
irreflexive less order x = elim (less x x) as (λ v. less x x ≡ v → v ≡ false) [ true ↦ λ h. sym h ∙ order.one_way x x h | false ↦ λ h. refl ] refl

none_before : (less : Reply → Reply → Bool) (xs : List Reply) (b : Reply) → Unbeaten less xs b → list_any (λ x. less x b) xs ≡ false
none_before less [] b h = refl
none_before less (x ∷ xs) b h = rw (h.0, none_before less xs b h.1) refl

some_before : (less : Reply → Reply → Bool) (pre post : List Reply) (b x : Reply) → less b x ≡ true →
    list_any (λ o. less o x) (pre ++ b ∷ post) ≡ true
some_before less [] post b x h = rw h refl
some_before less (p ∷ pre) post b x h = elim (less p x) as (λ v. (v || list_any (λ o. less o x) (pre ++ b ∷ post)) ≡ true) [ true ↦ refl | false ↦ some_before less pre post b x h ]

-- `find` returns b if the test holds at b and fails before it
found : (test : Reply → Bool) (less : Reply → Reply → Bool) (pre post : List Reply) (b : Reply) →
    (fails : (x : Reply) → less b x ≡ true → test x ≡ false) → Beats less b pre → test b ≡ true → find test (pre ++ b ∷ post) ≡ Some b
found test less [] post b fails beats holds = rw holds refl
found test less (p ∷ pre) post b fails beats holds = rw (fails p beats.0) (found test less pre post b fails beats.1 holds)

-- the minimum of a list: it precedes all earlier elements, and none precedes it
pub record IsFirst (less : Reply → Reply → Bool) (xs : List Reply) (b : Reply) : Type 0 where
  pub earlier : List Reply
  pub later : List Reply
  pub split : xs ≡ earlier ++ b ∷ later
  pub beats : Beats less b earlier
  pub unbeaten : Unbeaten less xs b

first_of-is : (less : Reply → Reply → Bool) → (xs : List Reply) (b : Reply) → IsFirst less xs b → first_of less xs ≡ Some b
first_of-is less xs b h =
    rw h.split (found (λ one. not (list_any (λ other. less other one) (h.earlier ++ b ∷ h.later))) less h.earlier h.later b
    (λ x before. rw (some_before less h.earlier h.later b x before) refl)
    h.beats
    (let P : List Reply → Type 0 = λ l. not (list_any (λ other. less other b) l) ≡ true in
    subst P h.split (rw (none_before less xs b h.unbeaten) refl)))

Unbeaten-push : (less : Reply → Reply → Bool) (xs : List Reply) (b r : Reply) → Unbeaten less xs b → less r b ≡ false → Unbeaten less (xs ++ r ∷ []) b
Unbeaten-push less [] b r h k = (k, tt)
Unbeaten-push less (x ∷ xs) b r h k = (h.0, Unbeaten-push less xs b r h.1 k)

beats_all : (less : Reply → Reply → Bool) → IsOrder less → (xs : List Reply) (b r : Reply) → Unbeaten less xs b → less r b ≡ true → Beats less r xs
beats_all less order [] b r h k = tt
beats_all less order (x ∷ xs) b r h k = (order.through r b x k h.0, beats_all less order xs b r h.1 k)

unbeaten_new : (less : Reply → Reply → Bool) → IsOrder less → (xs : List Reply) (r : Reply) → Beats less r xs → Unbeaten less (xs ++ r ∷ []) r
unbeaten_new less order [] r h = (irreflexive less order r, tt)
unbeaten_new less order (x ∷ xs) r h = (order.one_way r x h.0, unbeaten_new less order xs r h.1)

-- appending an element
first_kept : (less : Reply → Reply → Bool) (xs : List Reply) (b r : Reply) → IsFirst less xs b → less r b ≡ false → IsFirst less (xs ++ r ∷ []) b
first_kept less xs b r h k = record {
  earlier = h.earlier;
  later = h.later ++ r ∷ [];
  split = ap (λ l. l ++ r ∷ []) h.split ∙ append_assoc h.earlier (b ∷ h.later) (r ∷ []);
  beats = h.beats;
  unbeaten = Unbeaten-push less xs b r h.unbeaten k;
}

first_new : (less : Reply → Reply → Bool) → IsOrder less → (xs : List Reply) (b r : Reply) → IsFirst less xs b → less r b ≡ true → IsFirst less (xs ++ r ∷ []) r
first_new less order xs b r h k =
    let beats : Beats less r xs = beats_all less order xs b r h.unbeaten k in
    record { earlier = xs; later = []; split = refl; beats = beats; unbeaten = unbeaten_new less order xs r beats }

-- the rest of a list, after a prefix whose minimum is b
pub rest_is : (less : Reply → Reply → Bool) → IsOrder less → (done rest : List Reply) (b : Reply) → IsFirst less done b →
    first_of less (done ++ rest) ≡ fold (better less) (Some b) rest
rest_is less order done [] b h = ap (first_of less) (append-nil done) ∙ first_of-is less done b h
rest_is less order done (r ∷ rest) b h =
    elim (less r b) as (λ v. less r b ≡ v → first_of less (done ++ r ∷ rest) ≡ fold (better less) (if v then Some r else Some b) rest) [
      | true ↦ λ k. ap (first_of less) (sym (append_assoc done (r ∷ []) rest)) ∙ rest_is less order (done ++ r ∷ []) rest r (first_new less order done b r h k)
      | false ↦ λ k. ap (first_of less) (sym (append_assoc done (r ∷ []) rest)) ∙ rest_is less order (done ++ r ∷ []) rest b (first_kept less done b r h k)
    ] refl

-- the whole list
pub first_of-fold : (less : Reply → Reply → Bool) → IsOrder less → (xs : List Reply) → fold (better less) None xs ≡ first_of less xs
first_of-fold less order [] = refl
first_of-fold less order (r ∷ rest) =
    sym (rest_is less order (r ∷ []) rest r (record { earlier = []; later = []; split = refl; beats = tt; unbeaten = (irreflexive less order r, tt) }))
