-- Whose turn it is, by places in line.
use Rattle.std.proofs.Common.{◌≡◌, ℕ, ◌+◌, ◌<◌, ◌≤◌, Bool, true, false, List, [], ◌∷◌, ◌++◌, refl, ap, ◌∙◌, arith, length, cond, Some, None, suc, zero}
use Rattle.std.specs.List.{position_from, list_any, slice_get, remove}
use Rattle.std.proofs.lemmas.List.{get_or_append_left, length-append}
use Rattle.std.proofs.lemmas.List.Edits.{length-remove, get_or-remove_above}
use Rattle.std.proofs.lemmas.Option.{slice_get_within, get_or_from_slice_get, slice_get-get_or}
use Rattle.std.proofs.Math.ListN.{get_or}
use Rattle.std.proofs.Math.Seq.{get_or-append_seam}
use Rattle.fair_use.specs.declared.waiting_line.Standing.{Standing}
use Rattle.fair_use.specs.WaitingLine.{is_ready}

pub first_passes : (test : Standing → Bool) (line : List Standing) (k p i : ℕ) (x : Standing) → position_from test k line ≡ Some p → slice_get line i ≡ Some x → test x ≡ true → p ≤ k + i
first_passes test [] k p i x e s t = absurd cc
first_passes test (y ∷ line) k p zero x e s t =
    let same : y ≡ x = cc in
    let here : test y ≡ true = ap test same ∙ t in
    elim (test y) as (λ v. test y ≡ v → cond v (Some k) (position_from test (k + 1) line) ≡ Some p → p ≤ k + 0) [
      | true ↦ λ h c. let first : k ≡ p = cc in omega (arith, first)
      | false ↦ λ h c. absurd (grind (arith, h, here))
    ] refl e
first_passes test (y ∷ line) k p (suc i) x e s t =
    elim (test y) as (λ v. test y ≡ v → cond v (Some k) (position_from test (k + 1) line) ≡ Some p → p ≤ k + suc i) [
      | true ↦ λ h c. let first : k ≡ p = cc in omega (arith, first)
      | false ↦ λ h c. let later : p ≤ k + 1 + i = first_passes test line (k + 1) p i x c s t in omega (arith, later)
    ] refl e

pub none_passes : (test : Standing → Bool) (line : List Standing) (k : ℕ) → position_from test k line ≡ None → list_any test line ≡ false
none_passes test [] k e = refl
none_passes test (y ∷ line) k e =
    elim (test y) as (λ v. test y ≡ v → cond v (Some k) (position_from test (k + 1) line) ≡ None → list_any test (y ∷ line) ≡ false) [
      | true ↦ λ h c. absurd cc
      | false ↦ λ h c. rw (h, none_passes test line (k + 1) c) refl
    ] refl e

pub served_free : (free : ℕ) (line : List Standing) (k p : ℕ) → position_from (is_ready free) k line ≡ Some p → 1 ≤ free
served_free free [] k p e = absurd cc
served_free free (y ∷ line) k p e =
    elim (is_ready free y) as (λ v. is_ready free y ≡ v → cond v (Some k) (position_from (is_ready free) (k + 1) line) ≡ Some p → 1 ≤ free) [
      | true ↦ λ h c. grind arith
      | false ↦ λ h c. served_free free line (k + 1) p c
    ] refl e

pub passed_by : (line : List Standing) (y x : Standing) (place i : ℕ) → place ≤ i → slice_get line (i + 1) ≡ Some x → slice_get (remove (line ++ y ∷ []) place) i ≡ Some x
passed_by line y x place i le e =
    let within : i + 1 < length line = slice_get_within line (i + 1) x e in
    let long : length (line ++ y ∷ []) ≡ length line + 1 = length-append line (y ∷ []) in
    let inside : place < length (line ++ y ∷ []) = omega (arith, long, within, le) in
    let short : length (remove (line ++ y ∷ []) place) + 1 ≡ length (line ++ y ∷ []) = length-remove (line ++ y ∷ []) place inside in
    let read : get_or line (i + 1) x ≡ x = get_or_from_slice_get line (i + 1) x x e in
    let moved : get_or (remove (line ++ y ∷ []) place) i x ≡ get_or (line ++ y ∷ []) (i + 1) x = get_or-remove_above (line ++ y ∷ []) place x i le inside in
    let there : slice_get (remove (line ++ y ∷ []) place) i ≡ Some (get_or (remove (line ++ y ∷ []) place) i x) =
    slice_get-get_or (remove (line ++ y ∷ []) place) i x (omega (arith, short, long, within)) in
    there ∙ ap Some (moved ∙ get_or_append_left line (y ∷ []) x (i + 1) within ∙ read)

pub last_of_all : (line : List Standing) (y : Standing) (place i : ℕ) → place < length line → i + 1 ≡ length line → slice_get (remove (line ++ y ∷ []) place) i ≡ Some y
last_of_all line y place i within last =
    let long : length (line ++ y ∷ []) ≡ length line + 1 = length-append line (y ∷ []) in
    let inside : place < length (line ++ y ∷ []) = omega (arith, long, within) in
    let short : length (remove (line ++ y ∷ []) place) + 1 ≡ length (line ++ y ∷ []) = length-remove (line ++ y ∷ []) place inside in
    let moved : get_or (remove (line ++ y ∷ []) place) i y ≡ get_or (line ++ y ∷ []) (i + 1) y =
    get_or-remove_above (line ++ y ∷ []) place y i (omega (arith, within, last)) inside in
    let there : slice_get (remove (line ++ y ∷ []) place) i ≡ Some (get_or (remove (line ++ y ∷ []) place) i y) =
    slice_get-get_or (remove (line ++ y ∷ []) place) i y (omega (arith, short, long, last)) in
    there ∙ ap Some (moved ∙ ap (λ n. get_or (line ++ y ∷ []) n y) last ∙ get_or-append_seam line y [] y)
