-- Splitting off the first line of a text and the first word of a line.
use Rattle.std.proofs.Common.{◌≡◌, ℕ, suc, ◌+◌, ◌-◌, ◌<◌, ◌≤◌, List, [], ◌∷◌, Bool, true, false, not, cond, nat_lt, Some, None, length, take, drop, refl, ap, sym, subst, ◌∙◌, arith, take_all, length-drop}
use Rattle.std.proofs.lemmas.Bool.Decides.{nat_tests}
use Rattle.std.proofs.lemmas.List.{drop_all}
use Rattle.std.proofs.lemmas.List.Splits.{slice_split_first, slice_split-cons_yes, slice_split-cons_no, length-slice_split}
use Rattle.std.specs.List.{slice_split, filter, position, position_or_len, onto_first}
use Rattle.std.specs.Str.Lines.{lines, lines_of_parts, strip_carriage_return}
use Rattle.bpf_check.specs.Listing.{is_blank, is_some_word, words}
use Rattle.bpf_check.specs.LineReading.{is_line_feed, is_text}

placed_by : (t : Bool) (a b n : ℕ) → nat_lt a b ≡ t → cond t (Some a) None ≡ Some n → (a ≡ n) × (a < b)
placed_by true a b n e h = (cc, grind (arith, nat_tests))
placed_by false a b n e h = absurd (cc)

unplaced_by : (t : Bool) (a b : ℕ) → nat_lt a b ≡ t → cond t (Some a) None ≡ None → b ≤ a
unplaced_by true a b e h = absurd (cc)
unplaced_by false a b e h = grind (arith, nat_tests)

placed : (p : ℕ → Bool) (xs : List ℕ) (n : ℕ) → position p xs ≡ Some n → (position_or_len p xs ≡ n) × (position_or_len p xs < length xs)
placed p xs n h = placed_by (nat_lt (position_or_len p xs) (length xs)) (position_or_len p xs) (length xs) n refl h

unplaced : (p : ℕ → Bool) (xs : List ℕ) → position p xs ≡ None → length xs ≤ position_or_len p xs
unplaced p xs h = unplaced_by (nat_lt (position_or_len p xs) (length xs)) (position_or_len p xs) (length xs) refl h

whole_step : (p : ℕ → Bool) (x : ℕ) (xs : List ℕ) (b : Bool) → p x ≡ b → (length xs ≤ position_or_len p xs → slice_split p xs ≡ xs ∷ [])
    → length (x ∷ xs) ≤ cond (not b) (1 + position_or_len p xs) 0 → slice_split p (x ∷ xs) ≡ (x ∷ xs) ∷ []
whole_step p x xs true e rest h = absurd (omega arith)
whole_step p x xs false e rest h = slice_split-cons_no p x xs e ∙ ap (onto_first x) (rest (omega (arith, h)))

whole : (p : ℕ → Bool) (xs : List ℕ) → length xs ≤ position_or_len p xs → slice_split p xs ≡ xs ∷ []
whole p [] h = refl
whole p (x ∷ xs) h = whole_step p x xs (p x) refl (whole p xs) h

cut : (p : ℕ → Bool) (xs : List ℕ) (n : ℕ) → position p xs ≡ Some n → slice_split p xs ≡ take n xs ∷ slice_split p (drop (n + 1) xs)
cut p xs n h =
    let s = placed p xs n h in
    slice_split_first p xs 0 s.1 ∙ ap (λ (k : ℕ). take k xs ∷ slice_split p (drop (k + 1) xs)) s.0

-- ---- lines

line_before : (x : List ℕ) (parts : List (List ℕ)) → 0 < length parts → lines_of_parts (x ∷ parts) ≡ strip_carriage_return x ∷ lines_of_parts parts
line_before x [] l = absurd (omega arith)
line_before x (y ∷ more) l = refl

line_alone : (x : List ℕ) → 0 < length x → lines_of_parts (x ∷ []) ≡ x ∷ []
line_alone [] h = absurd (omega arith)
line_alone (c ∷ cs) h = grind arith

-- a slice from n to the end is the list without its first n elements
tail_is : (xs : List ℕ) (n : ℕ) → take (length xs - n) (drop n xs) ≡ drop n xs
tail_is xs n = take_all (length xs - n) (drop n xs) (omega (arith, length-drop n xs))

pub line_cut : (text first more : List ℕ) (end : ℕ) → position is_line_feed text ≡ Some end → first ≡ strip_carriage_return (take end text) → more ≡ take (length text - (end + 1)) (drop (end + 1) text) → lines text ≡ first ∷ lines more
line_cut text first more end h e f =
    ap lines_of_parts (cut is_line_feed text end h)
    ∙ line_before (take end text) (slice_split is_line_feed (drop (end + 1) text)) (omega (arith, length-slice_split is_line_feed (drop (end + 1) text)))
    ∙ ap (λ (x : List ℕ). x ∷ lines (drop (end + 1) text)) (sym e)
    ∙ ap (λ (x : List ℕ). first ∷ lines x) (sym (f ∙ tail_is text (end + 1)))

pub line_last : (text : List ℕ) → position is_line_feed text ≡ None → 0 < length text → lines text ≡ text ∷ lines []
line_last text h some = ap lines_of_parts (whole is_line_feed text (unplaced is_line_feed text h)) ∙ line_alone text some

-- ---- words

blank_first : (c : ℕ) (cs : List ℕ) → is_blank c ≡ true → words (c ∷ cs) ≡ words cs
blank_first c cs e = ap (filter is_some_word) (slice_split-cons_yes is_blank c cs e)

one_more : (n : ℕ) → 1 + n ≡ suc n
one_more n = omega arith

begun_step : (c : ℕ) (cs : List ℕ) (b : Bool) → is_blank c ≡ b → words (drop (position_or_len is_text cs) cs) ≡ words cs
    → words (drop (cond (not (not b)) (1 + position_or_len is_text cs) 0) (c ∷ cs)) ≡ words (c ∷ cs)
begun_step c cs true e rest = ap (λ (k : ℕ). words (drop k (c ∷ cs))) (one_more (position_or_len is_text cs)) ∙ rest ∙ sym (blank_first c cs e)
begun_step c cs false e rest = refl

begun : (line : List ℕ) → words (drop (position_or_len is_text line) line) ≡ words line
begun [] = refl
begun (c ∷ cs) = begun_step c cs (is_blank c) refl (begun cs)

abbrev Begins : List ℕ → Type 0
Begins [] = ⊥
Begins (c ∷ cs) = is_blank c ≡ false

begins_step : (c : ℕ) (cs : List ℕ) (b : Bool) → is_blank c ≡ b → (position_or_len is_text cs < length cs → Begins (drop (position_or_len is_text cs) cs))
    → cond (not (not b)) (1 + position_or_len is_text cs) 0 < length (c ∷ cs) → Begins (drop (cond (not (not b)) (1 + position_or_len is_text cs) 0) (c ∷ cs))
begins_step c cs true e rest h = rw (one_more (position_or_len is_text cs)) (rest (omega (arith, h)))
begins_step c cs false e rest h = e

begins : (line : List ℕ) → position_or_len is_text line < length line → Begins (drop (position_or_len is_text line) line)
begins [] h = absurd (omega arith)
begins (c ∷ cs) h = begins_step c cs (is_blank c) refl (begins cs) h

kept_word : (w : List ℕ) (ws : List (List ℕ)) → 0 < length w → filter is_some_word (w ∷ ws) ≡ w ∷ filter is_some_word ws
kept_word [] ws h = absurd (omega arith)
kept_word (c ∷ cs) ws h =
    let e : is_some_word (c ∷ cs) ≡ true = grind (arith, nat_tests) in
    ap (λ (t : Bool). cond t ((c ∷ cs) ∷ filter is_some_word ws) (filter is_some_word ws)) e

first_not_blank : (rest : List ℕ) (end : ℕ) → Begins rest → position is_blank rest ≡ Some end → 0 < length (take end rest)
first_not_blank [] end b h = absurd b
first_not_blank (c ∷ cs) end b h =
    let s = placed is_blank (c ∷ cs) end h in
    let n : position_or_len is_blank (c ∷ cs) ≡ 1 + position_or_len is_blank cs = ap (λ (t : Bool). cond (not t) (1 + position_or_len is_blank cs) 0) b in
    let k : suc (position_or_len is_blank cs) ≡ end = sym (one_more (position_or_len is_blank cs)) ∙ sym n ∙ s.0 in
    rw (← k) (omega arith)

some_length : (rest : List ℕ) → Begins rest → 0 < length rest
some_length [] b = absurd b
some_length (c ∷ cs) b = omega arith

pub word_none : (line : List ℕ) → position is_text line ≡ None → words line ≡ []
word_none line h = sym (begun line) ∙ ap words (drop_all (position_or_len is_text line) line (unplaced is_text line h))

word_within : (rest : List ℕ) (end : ℕ) → Begins rest → position is_blank rest ≡ Some end → words rest ≡ take end rest ∷ words (drop (end + 1) rest)
word_within rest end b g = ap (filter is_some_word) (cut is_blank rest end g) ∙ kept_word (take end rest) (slice_split is_blank (drop (end + 1) rest)) (first_not_blank rest end b g)

word_alone : (rest : List ℕ) → Begins rest → position is_blank rest ≡ None → words rest ≡ rest ∷ []
word_alone rest b g = ap (filter is_some_word) (whole is_blank rest (unplaced is_blank rest g)) ∙ kept_word rest [] (some_length rest b)

-- the rest of a line from the first octet of a word on
from_text : (line rest : List ℕ) (start : ℕ) → position is_text line ≡ Some start → rest ≡ take (length line - start) (drop start line) → (words rest ≡ words line) × Begins rest
from_text line rest start h e =
    let s = placed is_text line start h in
    let same : drop (position_or_len is_text line) line ≡ rest = ap (λ (k : ℕ). drop k line) s.0 ∙ sym (e ∙ tail_is line start) in
    (rw same at (begun line), subst Begins same (begins line s.1))

pub word_cut : (line rest more : List ℕ) (start end : ℕ) → position is_text line ≡ Some start → rest ≡ take (length line - start) (drop start line) → position is_blank rest ≡ Some end → more ≡ take (length rest - (end + 1)) (drop (end + 1) rest)
    → words line ≡ take end rest ∷ words more
word_cut line rest more start end h e g f =
    let s = from_text line rest start h e in
    sym s.0 ∙ word_within rest end s.1 g ∙ ap (λ (x : List ℕ). take end rest ∷ words x) (sym (f ∙ tail_is rest (end + 1)))

pub word_last : (line rest : List ℕ) (start : ℕ) → position is_text line ≡ Some start → rest ≡ take (length line - start) (drop start line) → position is_blank rest ≡ None → words line ≡ rest ∷ []
word_last line rest start h e g =
    let s = from_text line rest start h e in
    sym s.0 ∙ word_alone rest s.1 g
