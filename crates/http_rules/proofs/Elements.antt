-- The first list element of a text, and those after it.
use Rattle.std.proofs.Common.{◌≡◌, ℕ, suc, ◌+◌, ◌<◌, ◌≤◌, List, [], ◌∷◌, ◌++◌, length, find, take, drop, bytes_eq, Bool, true, false, cond, Option, Some, None, option_map, refl, ap, arith, add-one}
use Rattle.std.specs.Option.{option_or}
use Rattle.http_rules.specs.declared.directives.Place.{Place}
use Rattle.http_rules.specs.declared.directives.Place.TheVariants.{Plain}
use Rattle.http_rules.specs.Directives.{place_after, is_separator, onto_first, elements_from, directive_of, first_argument}
use Rattle.http_rules.specs.Elements.{element_len, elements_left, directives_left}

-- a text with a comma after its first element: that element, then those after the comma
abbrev Before : Place → List ℕ → Type 0
Before place text = element_len place text < length text
    → elements_from place text ≡ take (element_len place text) text ∷ elements_from Plain (drop (suc (element_len place text)) text)

pub elements_before : (place : Place) (text : List ℕ) → Before place text
elements_before place [] = λ h. absurd (omega arith)
elements_before place (c ∷ cs) = by (is_separator place c) (elements_before (place_after place c) cs)
  where
    by : (b : Bool) → Before (place_after place c) cs
        → cond b 0 (suc (element_len (place_after place c) cs)) < suc (length cs)
        → cond b ([] ∷ elements_from Plain cs) (onto_first c (elements_from (place_after place c) cs))
        ≡ take (cond b 0 (suc (element_len (place_after place c) cs))) (c ∷ cs)
        ∷ elements_from Plain (drop (suc (cond b 0 (suc (element_len (place_after place c) cs)))) (c ∷ cs))
    by true ih k = refl
    by false ih k = ap (onto_first c) (ih (omega arith))

-- a text that is one element
abbrev Whole : Place → List ℕ → Type 0
Whole place text = length text ≤ element_len place text → elements_from place text ≡ text ∷ []

pub elements_whole : (place : Place) (text : List ℕ) → Whole place text
elements_whole place [] = λ h. refl
elements_whole place (c ∷ cs) = by (is_separator place c) (elements_whole (place_after place c) cs)
  where
    by : (b : Bool) → Whole (place_after place c) cs → suc (length cs) ≤ cond b 0 (suc (element_len (place_after place c) cs))
        → cond b ([] ∷ elements_from Plain cs) (onto_first c (elements_from (place_after place c) cs)) ≡ (c ∷ cs) ∷ []
    by true ih k = absurd (omega arith)
    by false ih k = ap (onto_first c) (ih (omega arith))

pub first_element : (text : List ℕ) (n : ℕ) → n ≡ element_len Plain text → n < length text
    → elements_from Plain text ≡ take n text ∷ elements_from Plain (drop (n + 1) text)
first_element text n e h = rw (add-one n) (rw e (elements_before Plain text (rw e at h)))

pub only_element : (text : List ℕ) (n : ℕ) → n ≡ element_len Plain text → length text ≤ n → elements_from Plain text ≡ text ∷ []
only_element text n e h = elements_whole Plain text (rw e at h)

-- the first directive has the name, or the search continues
pub first_argument-cons : (name : List ℕ) (d : List ℕ × List ℕ) (ds : List (List ℕ × List ℕ))
    → first_argument name (d ∷ ds) ≡ option_or (first_argument name (d ∷ [])) (first_argument name ds)
first_argument-cons name d ds = by (bytes_eq d.0 name)
  where
    by : (b : Bool) → option_map (λ (x : List ℕ × List ℕ). x.1) (cond b (Some d) (find (λ (x : List ℕ × List ℕ). bytes_eq x.0 name) ds))
        ≡ option_or (option_map (λ (x : List ℕ × List ℕ). x.1) (cond b (Some d) None)) (first_argument name ds)
    by true = refl
    by false = refl

-- the directives of a text are that of its first element, and those after it
pub next_directive : (text element : List ℕ) (others : Option (List ℕ)) (rest : List (List ℕ × List ℕ)) → elements_from Plain text ≡ element ∷ elements_left others
    → (directives_left (Some text) ++ rest) ≡ directive_of element ∷ (directives_left others ++ rest)
next_directive text element others rest e = rw e refl
