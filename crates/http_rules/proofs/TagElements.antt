-- The first element of a list of entity tags, and those after it.
use Rattle.std.proofs.Common.{◌≡◌, ℕ, suc, ◌+◌, ◌<◌, ◌≤◌, List, [], ◌∷◌, length, take, drop, Bool, true, false, cond, refl, ap, arith, add-one}
use Rattle.http_rules.specs.EntityTags.{quoted_after, is_comma, onto_first_tag, tag_elements, tag_element_len}

-- a text with a comma after its first element: that element, then those after the comma
abbrev Before : Bool → List ℕ → Type 0
Before quoted text = tag_element_len quoted text < length text
    → tag_elements quoted text ≡ take (tag_element_len quoted text) text ∷ tag_elements false (drop (suc (tag_element_len quoted text)) text)

before : (quoted : Bool) (text : List ℕ) → Before quoted text
before quoted [] = λ h. absurd (omega arith)
before quoted (c ∷ cs) = by (is_comma quoted c) (before (quoted_after quoted c) cs)
  where
    by : (b : Bool) → Before (quoted_after quoted c) cs
        → cond b 0 (suc (tag_element_len (quoted_after quoted c) cs)) < suc (length cs)
        → cond b ([] ∷ tag_elements false cs) (onto_first_tag c (tag_elements (quoted_after quoted c) cs))
        ≡ take (cond b 0 (suc (tag_element_len (quoted_after quoted c) cs))) (c ∷ cs)
        ∷ tag_elements false (drop (suc (cond b 0 (suc (tag_element_len (quoted_after quoted c) cs)))) (c ∷ cs))
    by true ih k = refl
    by false ih k = ap (onto_first_tag c) (ih (omega arith))

-- a text that is one element
abbrev Whole : Bool → List ℕ → Type 0
Whole quoted text = length text ≤ tag_element_len quoted text → tag_elements quoted text ≡ text ∷ []

whole : (quoted : Bool) (text : List ℕ) → Whole quoted text
whole quoted [] = λ h. refl
whole quoted (c ∷ cs) = by (is_comma quoted c) (whole (quoted_after quoted c) cs)
  where
    by : (b : Bool) → Whole (quoted_after quoted c) cs → suc (length cs) ≤ cond b 0 (suc (tag_element_len (quoted_after quoted c) cs))
        → cond b ([] ∷ tag_elements false cs) (onto_first_tag c (tag_elements (quoted_after quoted c) cs)) ≡ (c ∷ cs) ∷ []
    by true ih k = absurd (omega arith)
    by false ih k = ap (onto_first_tag c) (ih (omega arith))

pub first_tag : (text : List ℕ) (n : ℕ) → n ≡ tag_element_len false text → n < length text
    → tag_elements false text ≡ take n text ∷ tag_elements false (drop (n + 1) text)
first_tag text n e h = rw (add-one n) (rw e (before false text (rw e at h)))

pub only_tag : (text : List ℕ) (n : ℕ) → n ≡ tag_element_len false text → length text ≤ n → tag_elements false text ≡ text ∷ []
only_tag text n e h = whole false text (rw e at h)
