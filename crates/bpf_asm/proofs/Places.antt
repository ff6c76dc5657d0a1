-- The instruction indices of lines.
use Rattle.std.proofs.Common.{◌≡◌, ℕ, zero, suc, ◌+◌, ◌<◌, ◌≤◌, ◌⊎◌, inl, inr, List, [], ◌∷◌, length, map, take, Bool, true, false, cond, Option, Some, drop, refl, ap, sym, ◌∙◌, subst, arith}
use Rattle.std.specs.Prelude.{slice_get, count_by}
use Rattle.std.specs.Option.{option_map}
use Rattle.std.specs.Str.Lines.{lines}
use Rattle.std.proofs.lemmas.Option.{slice_get-map, slice_get_within, get_or_from_slice_get}
use Rattle.std.proofs.lemmas.List.{take_all as take_long}
use Rattle.bpf_asm.specs.Labels.{behind}
use Rattle.std.proofs.lemmas.List.Sums.{count_by_more_yes, count_by_more_no, sum_by-cons}
use Rattle.bpf_asm.specs.Token.{tokens}
use Rattle.bpf_asm.specs.Assembly.{token_lines, body_of, some_token, has_body, instruction_index}

pub length_shown : {A B : Type 0} (f : A → B) (xs : List A) → length (map f xs) ≡ length xs
length_shown f [] = refl
length_shown f (x ∷ xs) = ap suc (length_shown f xs)

pub some_same : {A : Type 0} (o : Option A) (x y : A) → o ≡ Some x → o ≡ Some y → x ≡ y
some_same o x y p q = cc

-- what holds of one line holds of the same line
pub moved : (P : ℕ → List (List ℕ) → Type 0) (ls : List (List (List ℕ))) (m n : ℕ) (other line : List (List ℕ)) → m ≡ n → slice_get ls m ≡ Some other → slice_get ls n ≡ Some line → P m other → P n line
moved P ls m n other line e there here h =
    let same : other ≡ line = some_same (slice_get ls n) other line (ap (slice_get ls) (sym e) ∙ there) here in
    subst (P n) same (subst (λ (k : ℕ). P k other) e h)

pub place_yes : (ls : List (List (List ℕ))) (n : ℕ) (line : List (List ℕ)) → slice_get ls n ≡ Some line → has_body line ≡ true → instruction_index ls (n + 1) ≡ instruction_index ls n + 1
place_yes ls n line found h = count_by_more_yes has_body ls n [] (slice_get_within ls n line found) (ap has_body (get_or_from_slice_get ls n line [] found) ∙ h)

pub place_no : (ls : List (List (List ℕ))) (n : ℕ) (line : List (List ℕ)) → slice_get ls n ≡ Some line → has_body line ≡ false → instruction_index ls (n + 1) ≡ instruction_index ls n
place_no ls n line found h = count_by_more_no has_body ls n [] (slice_get_within ls n line found) (ap has_body (get_or_from_slice_get ls n line [] found) ∙ h)

count_cons : {A : Type 0} (p : A → Bool) (x : A) (xs : List A) → count_by p (x ∷ xs) ≡ cond (p x) 1 0 + count_by p xs
count_cons p x xs = sum_by-cons (λ y. cond (p y) 1 0) x xs

count_mono : {A : Type 0} (p : A → Bool) (xs : List A) (m n : ℕ) → m ≤ n → count_by p (take m xs) ≤ count_by p (take n xs)
count_mono p [] zero n h = omega arith
count_mono p [] (suc m) zero h = absurd (omega arith)
count_mono p [] (suc m) (suc n) h = omega arith
count_mono p (x ∷ xs) zero n h = omega arith
count_mono p (x ∷ xs) (suc m) zero h = absurd (omega arith)
count_mono p (x ∷ xs) (suc m) (suc n) h =
    let rest = count_mono p xs m n (omega arith) in
    let a : count_by p (take (suc m) (x ∷ xs)) ≡ cond (p x) 1 0 + count_by p (take m xs) = count_cons p x (take m xs) in
    let b : count_by p (take (suc n) (x ∷ xs)) ≡ cond (p x) 1 0 + count_by p (take n xs) = count_cons p x (take n xs) in
    omega arith

-- there is no instruction before the first line
pub place_start : (ls : List (List (List ℕ))) → instruction_index ls 0 ≡ 0
place_start ls = refl

-- a line in front, with an instruction or without
pub place_first : (line : List (List ℕ)) (ls : List (List (List ℕ))) (m : ℕ) → instruction_index (line ∷ ls) (suc m) ≡ cond (has_body line) 1 0 + instruction_index ls m
place_first line ls m = count_cons has_body line (take m ls)

pub place_mono : (ls : List (List (List ℕ))) (m n : ℕ) → m ≤ n → instruction_index ls m ≤ instruction_index ls n
place_mono ls m n h = count_mono has_body ls m n h

some_or_past : {A : Type 0} (xs : List A) (n : ℕ) → ((x : A) × (slice_get xs n ≡ Some x)) ⊎ (length xs ≤ n)
some_or_past [] n = inr (omega arith)
some_or_past (x ∷ xs) zero = inl (x, refl)
some_or_past (x ∷ xs) (suc n) = elim (some_or_past xs n) [ inl h ↦ inl h | inr h ↦ inr (omega arith) ]

next_by : (ls : List (List (List ℕ))) (n : ℕ) (line : List (List ℕ)) (b : Bool) → slice_get ls n ≡ Some line → has_body line ≡ b → instruction_index ls (n + 1) ≤ instruction_index ls n + 1
next_by ls n line true found h = let e = place_yes ls n line found h in omega arith
next_by ls n line false found h = let e = place_no ls n line found h in omega arith

past_all : (ls : List (List (List ℕ))) (n : ℕ) → length ls ≤ n → instruction_index ls (n + 1) ≡ instruction_index ls n
past_all ls n h = ap (count_by has_body) (take_long (n + 1) ls (omega arith) ∙ sym (take_long n ls h))

-- a line has at most one instruction
pub place_next : (ls : List (List (List ℕ))) (n : ℕ) → instruction_index ls (n + 1) ≤ instruction_index ls n + 1
place_next ls n = elim (some_or_past ls n) [
  | inl line ↦ next_by ls n line.0 (has_body line.0) line.1 refl
  | inr past ↦ (let e = past_all ls n past in omega arith)
]

behind_by : (ls : List (List (List ℕ))) (n : ℕ) (line : List (List ℕ)) (b : Bool) → slice_get ls n ≡ Some line → has_body line ≡ b → behind (instruction_index ls n) b ≡ instruction_index ls (n + 1)
behind_by ls n line true found h = sym (place_yes ls n line found h)
behind_by ls n line false found h = sym (place_no ls n line found h)

pub place_behind_line : (ls : List (List (List ℕ))) (n : ℕ) (line : List (List ℕ)) → slice_get ls n ≡ Some line → behind (instruction_index ls n) (has_body line) ≡ instruction_index ls (n + 1)
place_behind_line ls n line found = behind_by ls n line (has_body line) found refl

pub place_less : (ls : List (List (List ℕ))) (m n : ℕ) (line : List (List ℕ)) → slice_get ls m ≡ Some line → has_body line ≡ true → m < n → instruction_index ls m < instruction_index ls n
place_less ls m n line found h lt = let step = place_yes ls m line found h in let mono = place_mono ls (m + 1) n (omega arith) in omega arith

three : (m n : ℕ) → (m < n) ⊎ ((n < m) ⊎ (m ≡ n))
three m n = grind arith

-- two lines with instructions at the same index are the same line
pub place_injective : (ls : List (List (List ℕ))) (m n : ℕ) (other line : List (List ℕ)) → slice_get ls m ≡ Some other → slice_get ls n ≡ Some line → has_body other ≡ true → has_body line ≡ true → instruction_index ls m ≡ instruction_index ls n → m ≡ n
place_injective ls m n other line there here h k e =
    elim (three m n) [
      | inl lt ↦ absurd (let less = place_less ls m n other there h lt in omega arith)
      | inr r ↦ elim r [
        | inl gt ↦ absurd (let less = place_less ls n m line here k gt in omega arith)
        | inr same ↦ same
      ]
    ]

-- an element that passes, with k passing elements before it
pub record Passing {A : Type 0} (p : A → Bool) (xs : List A) (k : ℕ) : Type 0 where
  pub n : ℕ
  pub x : A
  pub found : slice_get xs n ≡ Some x
  pub passes : p x ≡ true
  pub earlier : count_by p (take n xs) ≡ k

passing_later : {A : Type 0} (p : A → Bool) (x : A) (xs : List A) (k j : ℕ) → Passing p xs k → j ≡ cond (p x) 1 0 + k → Passing p (x ∷ xs) j
passing_later p x xs k j r e = record {
  n = suc r.n;
  x = r.x;
  found = r.found;
  passes = r.passes;
  earlier = (let a : count_by p (take (suc r.n) (x ∷ xs)) ≡ cond (p x) 1 0 + count_by p (take r.n xs) = count_cons p x (take r.n xs) in let b = r.earlier in omega arith);
}

passing_with : {A : Type 0} (p : A → Bool) (x : A) (xs : List A) (b : Bool) → p x ≡ b → ((k : ℕ) → k < count_by p xs → Passing p xs k) → (k : ℕ) → k < cond (p x) 1 0 + count_by p xs → Passing p (x ∷ xs) k
passing_with p x xs true e rest zero h = record { n = 0; x = x; found = refl; passes = e; earlier = refl }
passing_with p x xs true e rest (suc k) h = let f : cond {A = ℕ} (p x) 1 0 ≡ 1 = ap (λ (b : Bool). cond {A = ℕ} b 1 0) e in passing_later p x xs k (suc k) (rest k (omega arith)) (omega arith)
passing_with p x xs false e rest k h = let f : cond {A = ℕ} (p x) 1 0 ≡ 0 = ap (λ (b : Bool). cond {A = ℕ} b 1 0) e in passing_later p x xs k k (rest k (omega (arith, f))) (omega (arith, f))

passing : {A : Type 0} (p : A → Bool) (xs : List A) (k : ℕ) → k < count_by p xs → Passing p xs k
passing p [] k h = absurd (omega arith)
passing p (x ∷ xs) k h = passing_with p x xs (p x) refl (passing p xs) k (let e = count_cons p x xs in omega arith)

take_all : {A : Type 0} (xs : List A) → take (length xs) xs ≡ xs
take_all [] = refl
take_all (x ∷ xs) = ap (λ ys. x ∷ ys) (take_all xs)

-- each index is that of a line
pub place_line : (ls : List (List (List ℕ))) (k : ℕ) → k < instruction_index ls (length ls) → Passing has_body ls k
place_line ls k h = passing has_body ls k (let e : count_by has_body (take (length ls) ls) ≡ count_by has_body ls = ap (count_by has_body) (take_all ls) in omega arith)

pub body_true : (line : List (List ℕ)) (t : List ℕ) (ts : List (List ℕ)) → body_of line ≡ t ∷ ts → has_body line ≡ true
body_true line t ts e = ap some_token e

pub body_false : (line : List (List ℕ)) → body_of line ≡ [] → has_body line ≡ false
body_false line e = ap some_token e

-- ---- a text, line by line

-- the lines from index n on begin with this one
next_is : {X : Type 0} (ls : List X) (n : ℕ) (l : X) (more : List X) → drop n ls ≡ l ∷ more → (slice_get ls n ≡ Some l) × (drop (suc n) ls ≡ more) × (n < length ls)
next_is [] zero l more e = absurd (cc)
next_is [] (suc n) l more e = absurd (cc)
next_is (x ∷ ls) zero l more e = (cc, cc, omega arith)
next_is (x ∷ ls) (suc n) l more e = let h = next_is ls n l more e in (h.0, h.1, omega (arith, h.2))

none_left : {X : Type 0} (ls : List X) (n : ℕ) → drop n ls ≡ [] → length ls ≤ n
none_left [] n e = omega arith
none_left (x ∷ ls) zero e = absurd (cc)
none_left (x ∷ ls) (suc n) e = omega (arith, none_left ls n e)

-- the rest after a line
pub left_more : (text rest after : List ℕ) (n m : ℕ) (l : List ℕ) → drop n (lines text) ≡ lines rest → lines rest ≡ l ∷ lines after → m ≡ n + 1 → drop m (lines text) ≡ lines after
left_more text rest after n m l left e next = (let same : m ≡ suc n = omega arith in ap (λ (k : ℕ). drop k (lines text)) same) ∙ (next_is (lines text) n l (lines after) (left ∙ e)).1

-- the tokens of the next line
pub line_at : (text rest after : List ℕ) (n : ℕ) (l : List ℕ) → drop n (lines text) ≡ lines rest → lines rest ≡ l ∷ lines after → slice_get (token_lines text) n ≡ Some (tokens l)
line_at text rest after n l left e = slice_get-map tokens (lines text) n ∙ ap (option_map tokens) (next_is (lines text) n l (lines after) (left ∙ e)).0

-- if no line is left, all were read
pub all_read : (text rest : List ℕ) (n : ℕ) → drop n (lines text) ≡ lines rest → lines rest ≡ [] → length (token_lines text) ≤ n
all_read text rest n left e = (let few = none_left (lines text) n (left ∙ e) in let same = length_shown tokens (lines text) in omega arith)
