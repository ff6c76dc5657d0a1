-- Lines by their number of words.
use Rattle.std.proofs.Common.{◌≡◌, ◌≢◌, ℕ, List, [], ◌∷◌, length, map, get_or, refl, Bor, arith, IfOk, Result}
use Rattle.std.specs.declared.alloc.AllocError.{AllocError}
use Rattle.script_lines.specs.declared.item.Item.{Item}
use Rattle.script_lines.specs.Item.{script_line_of}
use Rattle.script_lines.specs.ScriptLine.{wrong, eight_words, line_of_fields}

-- zero, six, or more than eight words: no line of the format
pub words_of_other : (xs : List (Bor (List ℕ))) → length xs ≢ 1 → length xs ≢ 2 → length xs ≢ 3 → length xs ≢ 4 → length xs ≢ 5 → length xs ≢ 7 → length xs ≢ 8
    → wrong ≡ line_of_fields (map (λ x. x.now) xs)
words_of_other [] a b c d e f g = refl
words_of_other (x ∷ []) a b c d e f g = absurd (a refl)
words_of_other (x ∷ y ∷ []) a b c d e f g = absurd (b refl)
words_of_other (x ∷ y ∷ z ∷ []) a b c d e f g = absurd (c refl)
words_of_other (x ∷ y ∷ z ∷ u ∷ []) a b c d e f g = absurd (d refl)
words_of_other (x ∷ y ∷ z ∷ u ∷ v ∷ []) a b c d e f g = absurd (e refl)
words_of_other (x ∷ y ∷ z ∷ u ∷ v ∷ w ∷ []) a b c d e f g = refl
words_of_other (x ∷ y ∷ z ∷ u ∷ v ∷ w ∷ r ∷ []) a b c d e f g = absurd (f refl)
words_of_other (x ∷ y ∷ z ∷ u ∷ v ∷ w ∷ r ∷ s ∷ []) a b c d e f g = absurd (g refl)
words_of_other (x ∷ y ∷ z ∷ u ∷ v ∷ w ∷ r ∷ s ∷ t ∷ xs) a b c d e f g = refl

-- eight words, each read by its index
pub words_of_eight : (xs : List (Bor (List ℕ))) (o : Result Item AllocError) (d : Bor (List ℕ)) → length xs ≡ 8
    → IfOk o (λ item. script_line_of item ≡ eight_words (get_or xs 0 d).now (get_or xs 1 d).now (get_or xs 2 d).now (get_or xs 3 d).now (get_or xs 4 d).now (get_or xs 5 d).now (get_or xs 6 d).now (get_or xs 7 d).now)
    → IfOk o (λ item. script_line_of item ≡ line_of_fields (map (λ x. x.now) xs))
words_of_eight [] o d n h = absurd (omega (arith, n))
words_of_eight (x ∷ []) o d n h = absurd (omega (arith, n))
words_of_eight (x ∷ y ∷ []) o d n h = absurd (omega (arith, n))
words_of_eight (x ∷ y ∷ z ∷ []) o d n h = absurd (omega (arith, n))
words_of_eight (x ∷ y ∷ z ∷ u ∷ []) o d n h = absurd (omega (arith, n))
words_of_eight (x ∷ y ∷ z ∷ u ∷ v ∷ []) o d n h = absurd (omega (arith, n))
words_of_eight (x ∷ y ∷ z ∷ u ∷ v ∷ w ∷ []) o d n h = absurd (omega (arith, n))
words_of_eight (x ∷ y ∷ z ∷ u ∷ v ∷ w ∷ r ∷ []) o d n h = absurd (omega (arith, n))
words_of_eight (x ∷ y ∷ z ∷ u ∷ v ∷ w ∷ r ∷ s ∷ []) o d n h = h
words_of_eight (x ∷ y ∷ z ∷ u ∷ v ∷ w ∷ r ∷ s ∷ t ∷ xs) o d n h = absurd (omega (arith, n))
