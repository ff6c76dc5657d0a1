-- Splitting text into lines.
use Rattle.std.proofs.Common.{◌≡◌, ℕ, ◌+◌, ◌-◌, ◌<◌, ◌≤◌, Bool, true, false, cond, List, [], ◌∷◌, ◌++◌, length, map, get_or, take, refl, ap, sym, ◌∙◌, arith, length-take, length-append, nat_eq}
use Rattle.std.specs.List.{slice_split, onto_first}
use Rattle.std.specs.Str.Lines.{lines, lines_of_parts, strip_carriage_return}
use Rattle.script_lines.specs.ScriptLine.{ScriptLine, wrong, script_line, script_of}
use Rattle.feed_script.specs.Written.{NoBreak}

abbrev is_break : ℕ → Bool
is_break c = nat_eq c 10

split-nonempty : (xs : List ℕ) → (p : List ℕ) × (ps : List (List ℕ)) × (slice_split is_break xs ≡ p ∷ ps)
split-nonempty [] = ([], [], refl)
split-nonempty (x ∷ xs) =
    let more = split-nonempty xs in
    elim (is_break x) as (λ b. (p : List ℕ) × (ps : List (List ℕ)) × (cond b ([] ∷ slice_split is_break xs) (onto_first x (slice_split is_break xs)) ≡ p ∷ ps)) [
      | true ↦ ([], slice_split is_break xs, refl)
      | false ↦ (x ∷ more.0, more.1, ap (onto_first x) more.2)
    ]

split-front : (front rest p : List ℕ) (ps : List (List ℕ)) → NoBreak front → slice_split is_break rest ≡ p ∷ ps → slice_split is_break (front ++ rest) ≡ (front ++ p) ∷ ps
split-front [] rest p ps h e = e
split-front (x ∷ xs) rest p ps h e =
    ap (λ b. cond b ([] ∷ slice_split is_break (xs ++ rest)) (onto_first x (slice_split is_break (xs ++ rest)))) h.0
    ∙ ap (onto_first x) (split-front xs rest p ps h.1 e)

append-nil' : (xs : List ℕ) → xs ++ [] ≡ xs
append-nil' [] = refl
append-nil' (x ∷ xs) = ap (λ ys. x ∷ ys) (append-nil' xs)

parts-cons : (x : List ℕ) (ps : List (List ℕ)) (p : List ℕ) (qs : List (List ℕ)) → ps ≡ p ∷ qs → lines_of_parts (x ∷ ps) ≡ strip_carriage_return x ∷ lines_of_parts ps
parts-cons x [] p qs e = cc
parts-cons x (y ∷ ys) p qs e = refl

lines-break : (front rest : List ℕ) → NoBreak front → lines (front ++ 10 ∷ rest) ≡ strip_carriage_return front ∷ lines rest
lines-break front rest h =
    let more = split-nonempty rest in
    ap lines_of_parts (split-front front (10 ∷ rest) [] (slice_split is_break rest) h refl)
    ∙ ap (λ f. lines_of_parts (f ∷ slice_split is_break rest)) (append-nil' front)
    ∙ parts-cons front (slice_split is_break rest) more.0 more.1 more.2

-- a complete line, and the rest
pub script-break : (front rest : List ℕ) → NoBreak front → script_of (front ++ 10 ∷ rest) ≡ script_line (strip_carriage_return front) ∷ script_of rest
script-break front rest h = ap (map script_line) (lines-break front rest h)

one_part : (x : List ℕ) → 0 < length x → lines_of_parts (x ∷ []) ≡ x ∷ []
one_part x h = grind arith

-- a last line without a line break
pub script-end : (front : List ℕ) → NoBreak front → 0 < length front → script_of front ≡ script_line front ∷ []
script-end front h some =
    ap (λ t. map script_line (lines t)) (sym (append-nil' front))
    ∙ ap (λ s. map script_line (lines_of_parts s)) (split-front front [] [] [] h refl ∙ ap (λ f. f ∷ []) (append-nil' front))
    ∙ ap (map script_line) (one_part front some)

length-strip : (l : List ℕ) → length l ≤ length (strip_carriage_return l) + 1
length-strip l =
    elim (nat_eq (get_or l (length l - 1) 0) 13) as (λ b. length l ≤ length (cond b (take (length l - 1) l) l) + 1) [
      | true ↦ omega (arith, length-take (length l - 1) l)
      | false ↦ omega arith
    ]

long_line : (l : List ℕ) → 262144 < length l → script_line l ≡ wrong
long_line l h = grind arith

long_parts : (x : List ℕ) (ps : List (List ℕ)) → 262144 + 1 < length x → (ls : List ScriptLine) × (map script_line (lines_of_parts (x ∷ ps)) ≡ wrong ∷ ls)
long_parts x [] h = ([], ap (map script_line) (one_part x (omega arith)) ∙ ap (λ l. l ∷ []) (long_line x (omega arith)))
long_parts x (y ∷ ys) h =
    (map script_line (lines_of_parts (y ∷ ys)), ap (λ l. l ∷ map script_line (lines_of_parts (y ∷ ys))) (long_line (strip_carriage_return x) (omega (arith, length-strip x))))

-- a line that begins with too many octets is wrong, whatever follows
pub script-long : (front rest : List ℕ) → NoBreak front → 262144 + 1 < length front → (ls : List ScriptLine) × (script_of (front ++ rest) ≡ wrong ∷ ls)
script-long front rest h long =
    let more = split-nonempty rest in
    let found = long_parts (front ++ more.0) more.1 (omega (arith, length-append front more.0)) in
    (found.0, ap (λ s. map script_line (lines_of_parts s)) (split-front front rest more.0 more.1 h more.2) ∙ found.1)

pub NoBreak-push : (xs : List ℕ) (c : ℕ) → NoBreak xs → (nat_eq c 10 ≡ false) → NoBreak (xs ++ c ∷ [])
NoBreak-push [] c h e = (e, tt)
NoBreak-push (x ∷ xs) c h e = (h.0, NoBreak-push xs c h.1 e)
