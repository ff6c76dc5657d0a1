-- The first fault of a text; a listing has no fault.
use Rattle.std.proofs.Common.{◌≡◌, ℕ, zero, suc, ◌+◌, ◌-◌, ◌<◌, ◌≤◌, ◌⊎◌, inl, inr, List, [], ◌∷◌, ◌++◌, length, map, drop, get_or, Option, Some, None, Result, Ok, Err, MatchResult, refl, ap, sym, ◌∙◌, subst, arith}
use Rattle.std.specs.Prelude.{slice_get, IfSome, IsSomeAnd}
use Rattle.std.proofs.lemmas.List.{length_push}
use Rattle.std.proofs.lemmas.Option.{slice_get_within, slice_get-get_or}
use Rattle.bpf_check.specs.declared.insn.Insn.{Insn}
use Rattle.bpf_check.specs.declared.listing.ListingFault.{ListingFault}
use Rattle.bpf_check.specs.declared.listing.ListingFault.TheVariants.{BadCount, BadLine, OutOfRange, TooLong, Missing, Extra, NoMemory}
use Rattle.bpf_check.specs.Insn.{InRange}
use Rattle.bpf_check.specs.Accepted.{most_insns}
use Rattle.bpf_check.proofs.ListingNumbers.{lt_or_le}
use Rattle.bpf_check.specs.LineReading.{LineFault, CountFault, NoText, IsFirstText}
use Rattle.bpf_check.specs.Listing.{words, value, Says, SaysAt, fields, IsListing, IsListingFault, NotFour, FourTooLarge, IsTooLarge, FaultIn, HasFault, NoneBefore}

some_same : {A : Type 0} (o : Option A) (x y : A) → o ≡ Some x → o ≡ Some y → x ≡ y
some_same o x y p q = cc

says_one : (l : List ℕ) (m : List ℕ) (ns ms : List ℕ) → l ≡ m → Says l ns → Says m ms → ns ≡ ms
says_one l m ns ms e s t = sym s.values ∙ ap (λ (x : List ℕ). map value (words x)) e ∙ t.values

pub one_said : (ls : List (List ℕ)) (at : ℕ) (ns ms : List ℕ) → SaysAt ls at ns → SaysAt ls at ms → ns ≡ ms
one_said ls at ns ms s t = says_one s.0 t.0 ns ms (some_same (slice_get ls at) s.0 t.0 s.1 t.1) s.2 t.2

head_same : (m n : ℕ) → (let a : List ℕ = m ∷ [] in let b : List ℕ = n ∷ [] in a ≡ b) → m ≡ n
head_same m n e = ap (λ (xs : List ℕ). get_or xs 0 0) e

pub one_count : (ls : List (List ℕ)) (m n : ℕ) → SaysAt ls 0 (m ∷ []) → SaysAt ls 0 (n ∷ []) → m ≡ n
one_count ls m n s t = head_same m n (one_said ls 0 (m ∷ []) (n ∷ []) s t)

pub said_within : (ls : List (List ℕ)) (at : ℕ) (ns : List ℕ) → SaysAt ls at ns → at < length ls
said_within ls at ns s = slice_get_within ls at s.0 s.1

pub none_counted : (ls : List (List ℕ)) (n : ℕ) → SaysAt ls 0 (n ∷ []) → n ≤ most_insns → NoneBefore ls 2
none_counted ls n says short BadCount h = absurd (h n says)
none_counted ls n says short TooLong h = absurd (let e = one_count ls n h.0 says h.1 in omega (arith, h.2))
none_counted ls n says short Missing h = let w = said_within ls 0 (n ∷ []) says in omega arith
none_counted ls n says short (BadLine line) h = h.after
none_counted ls n says short (OutOfRange line) h = h.after
none_counted ls n says short (Extra line) h = omega (arith, h.2)
none_counted ls n says short NoMemory h = absurd h

pub none_too_long : (ls : List (List ℕ)) (n : ℕ) → SaysAt ls 0 (n ∷ []) → NoneBefore ls 1
none_too_long ls n says BadCount h = absurd (h n says)
none_too_long ls n says TooLong h = omega arith
none_too_long ls n says Missing h = omega arith
none_too_long ls n says (BadLine line) h = omega (arith, h.after)
none_too_long ls n says (OutOfRange line) h = omega (arith, h.after)
none_too_long ls n says (Extra line) h = omega (arith, h.2)
none_too_long ls n says NoMemory h = absurd h

differs : (n m next : ℕ) → next ≡ n + 1 → n ≤ m → (m ≡ n → ⊥) → next ≤ m
differs n m next e h ne = omega (arith)

said_as : (ls : List (List ℕ)) (line at : ℕ) (ns : List ℕ) (text : List ℕ) → line ≡ at + 2 → SaysAt ls (at + 1) ns → slice_get ls (line - 1) ≡ Some text → Says text ns
said_as ls line at ns text e says found =
    let place : line - 1 ≡ at + 1 = omega arith in
    let same : slice_get ls (at + 1) ≡ Some text = ap (slice_get ls) (sym place) ∙ found in
    subst (λ (l : List ℕ). Says l ns) (some_same (slice_get ls (at + 1)) says.0 text says.1 same) says.2

not_large : (i : Insn) (a b c d : ℕ) → InRange i → (let xs : List ℕ = a ∷ b ∷ c ∷ d ∷ [] in xs ≡ fields i) → IsTooLarge a b c d → ⊥
not_large i a b c d range e large =
    let ea = ap (λ (xs : List ℕ). get_or xs 0 0) e in
    let eb = ap (λ (xs : List ℕ). get_or xs 1 0) e in
    let ec = ap (λ (xs : List ℕ). get_or xs 2 0) e in
    let ed = ap (λ (xs : List ℕ). get_or xs 3 0) e in
    omega arith

pub fine_line : (ls : List (List ℕ)) (place line : ℕ) (i : Insn) (text : List ℕ) → line ≡ place + 2 → SaysAt ls (place + 1) (fields i) → InRange i → slice_get ls (line - 1) ≡ Some text → NotFour text ⊎ FourTooLarge text → ⊥
fine_line ls place line i text e says range found (inl not) = not i.code i.jt i.jf i.k (said_as ls line place (fields i) text e says found)
fine_line ls place line i text e says range found (inr h) =
    not_large i h.0 h.1 h.2 h.3 range (says_one text text _ (fields i) refl h.4 (said_as ls line place (fields i) text e says found)) h.5

pub none_further : (ls : List (List ℕ)) (count place : ℕ) (i : Insn) → NoneBefore ls (place + 2) → SaysAt ls 0 (count ∷ []) → place < count → SaysAt ls (place + 1) (fields i) → InRange i → NoneBefore ls (place + 1 + 2)
none_further ls count place i none counted below says range BadCount h = absurd (omega (arith, none BadCount h))
none_further ls count place i none counted below says range TooLong h = absurd (omega (arith, none TooLong h))
none_further ls count place i none counted below says range Missing h = let w = said_within ls (place + 1) (fields i) says in omega arith
none_further ls count place i none counted below says range (BadLine line) h =
    let low = none (BadLine line) h in
    differs (place + 2) line (place + 1 + 2) (omega arith) low (λ e. fine_line ls place line i h.text e says range h.found (inl h.fault))
none_further ls count place i none counted below says range (OutOfRange line) h =
    let low = none (OutOfRange line) h in
    differs (place + 2) line (place + 1 + 2) (omega arith) low (λ e. fine_line ls place line i h.text e says range h.found (inr h.fault))
none_further ls count place i none counted below says range (Extra line) h =
    let e = one_count ls count h.0 counted h.1 in omega (arith, h.2)
none_further ls count place i none counted below says range NoMemory h = absurd h

there : (p : List Insn) (n : ℕ) → n < length p → (i : Insn) × (slice_get p n ≡ Some i)
there p n h = let d : Insn = record { code = 0; jt = 0; jf = 0; k = 0 } in (get_or p n d, slice_get-get_or p n d h)

fine_at : (ls : List (List ℕ)) (p : List Insn) (line count : ℕ) (text : List ℕ) → IsListing ls p → SaysAt ls 0 (count ∷ []) → 2 ≤ line → line < count + 2 → slice_get ls (line - 1) ≡ Some text → NotFour text ⊎ FourTooLarge text → ⊥
fine_at ls p line count text is counted after below found fault =
    let e = one_count ls (length p) count is.count counted in
    let inside : line - 2 < length p = omega arith in
    let i = there p (line - 2) inside in
    let s = is.each (line - 2) i.0 i.1 in
    fine_line ls (line - 2) line i.0 text (omega arith) s.0 s.1 found fault

pub no_fault : (ls : List (List ℕ)) (p : List Insn) (fault : ListingFault) → IsListing ls p → HasFault ls fault → ⊥
no_fault ls p BadCount is h = h (length p) is.count
no_fault ls p TooLong is h = let e = one_count ls (length p) h.0 is.count h.1 in omega (arith, h.2, is.short)
no_fault ls p (BadLine line) is h = fine_at ls p line h.count h.text is h.counted h.after h.below h.found (inl h.fault)
no_fault ls p (OutOfRange line) is h = fine_at ls p line h.count h.text is h.counted h.after h.below h.found (inr h.fault)
no_fault ls p Missing is h =
    let e = one_count ls (length p) h.0 is.count h.1 in
    let w = said_within ls 0 _ is.count in
    let inside : length p - 1 < length p = omega (arith, h.2) in
    let i = there p (length p - 1) inside in
    let s = said_within ls (length p - 1 + 1) (fields i.0) (is.each (length p - 1) i.0 i.1).0 in
    omega (arith, h.2)
no_fault ls p (Extra line) is h =
    let e = one_count ls (length p) h.0 is.count h.1 in
    h.5 (is.rest (line - 1) h.3 (omega (arith, h.2)) h.4)
no_fault ls p NoMemory is h = h

same_fields : (i j : Insn) → fields i ≡ fields j → i ≡ j
same_fields i j e =
    let ea = ap (λ (xs : List ℕ). get_or xs 0 0) e in
    let eb = ap (λ (xs : List ℕ). get_or xs 1 0) e in
    let ec = ap (λ (xs : List ℕ). get_or xs 2 0) e in
    let ed = ap (λ (xs : List ℕ). get_or xs 3 0) e in
    λ t. record { code = ea t; jt = eb t; jf = ec t; k = ed t }

same_list : (p q : List Insn) → length p ≡ length q → ((n : ℕ) (i j : Insn) → slice_get p n ≡ Some i → slice_get q n ≡ Some j → i ≡ j) → p ≡ q
same_list [] [] e h = refl
same_list [] (j ∷ q) e h = absurd (omega arith)
same_list (i ∷ p) [] e h = absurd (omega arith)
same_list (i ∷ p) (j ∷ q) e h =
    let first = h 0 i j refl refl in
    let rest = same_list p q (omega arith) (λ n x y. h (suc n) x y) in
    λ t. first t ∷ rest t

pub one_listing : (ls : List (List ℕ)) (p q : List Insn) → IsListing ls p → IsListing ls q → p ≡ q
one_listing ls p q a b =
    same_list p q (one_count ls (length p) (length q) a.count b.count)
    (λ n i j x y. same_fields i j (one_said ls (n + 1) (fields i) (fields j) (a.each n i x).0 (b.each n j y).0))

pub count_answer : (ls : List (List ℕ)) (l : List ℕ) (fault : ListingFault) → slice_get ls 0 ≡ Some l → CountFault l fault → IsListingFault ls fault
count_answer ls l BadCount found h = record {
  has = λ n s. h n (subst (λ (x : List ℕ). Says x (n ∷ [])) (some_same (slice_get ls 0) s.0 l s.1 found) s.2);
  first = λ other has. omega arith;
}
count_answer ls l TooLong found h = record {
  has = (h.0, (l, found, h.1), h.2);
  first = none_too_long ls h.0 (l, found, h.1);
}
count_answer ls l Missing found h = absurd h
count_answer ls l (BadLine line) found h = absurd h
count_answer ls l (OutOfRange line) found h = absurd h
count_answer ls l (Extra line) found h = absurd h
count_answer ls l NoMemory found h = absurd h

line_fault : (ls : List (List ℕ)) (count place line : ℕ) (l : List ℕ) (P : List ℕ → Type 0) → SaysAt ls 0 (count ∷ []) → place < count → slice_get ls (place + 1) ≡ Some l → line ≡ place + 2 → P l → FaultIn ls line P
line_fault ls count place line l P counted below found e h = record {
  count = count;
  counted = counted;
  after = omega arith;
  below = omega arith;
  text = l;
  found = (let same : line - 1 ≡ place + 1 = omega arith in ap (slice_get ls) same ∙ found);
  fault = h;
}

none_at : (ls : List (List ℕ)) (a b : ℕ) → a ≡ b → NoneBefore ls a → NoneBefore ls b
none_at ls a b e none = subst (NoneBefore ls) e none

pub line_answer : (ls : List (List ℕ)) (count place at : ℕ) (l : List ℕ) (fault : ListingFault) → NoneBefore ls (place + 2) → SaysAt ls 0 (count ∷ []) → place < count → slice_get ls (place + 1) ≡ Some l → at ≡ place + 2 → LineFault l at fault → IsListingFault ls fault
line_answer ls count place at l BadCount none counted below found e h = absurd h
line_answer ls count place at l TooLong none counted below found e h = absurd h
line_answer ls count place at l Missing none counted below found e h = absurd h
line_answer ls count place at l (BadLine line) none counted below found e h = record {
  has = line_fault ls count place line l NotFour counted below found (h.0 ∙ e) h.1;
  first = none_at ls (place + 2) line (sym (h.0 ∙ e)) none;
}
line_answer ls count place at l (OutOfRange line) none counted below found e h = record {
  has = line_fault ls count place line l FourTooLarge counted below found (h.0 ∙ e) h.1;
  first = none_at ls (place + 2) line (sym (h.0 ∙ e)) none;
}
line_answer ls count place at l (Extra line) none counted below found e h = absurd h
line_answer ls count place at l NoMemory none counted below found e h = absurd h

pub missing_answer : (ls : List (List ℕ)) (count place : ℕ) → NoneBefore ls (place + 2) → SaysAt ls 0 (count ∷ []) → place < count → length ls ≤ place + 1 → IsListingFault ls Missing
missing_answer ls count place none counted below few = record {
  has = (count, counted, omega arith);
  first = λ other h. (let low = none other h in omega arith);
}

push_cases : (p : List Insn) (new : Insn) (place : ℕ) (i : Insn) → slice_get (p ++ new ∷ []) place ≡ Some i → (slice_get p place ≡ Some i) ⊎ ((place ≡ length p) × (new ≡ i))
push_cases [] new zero i e = inr (refl, cc)
push_cases [] new (suc n) i e = absurd (cc)
push_cases (x ∷ p) new zero i e = inl e
push_cases (x ∷ p) new (suc n) i e = elim (push_cases p new n i e) [ inl h ↦ inl h | inr h ↦ inr (ap suc h.0, h.1) ]

pub each_more : (ls : List (List ℕ)) (p : List Insn) (new : Insn) → ((place : ℕ) (i : Insn) → slice_get p place ≡ Some i → SaysAt ls (place + 1) (fields i) × InRange i) → SaysAt ls (length p + 1) (fields new) → InRange new
    → (place : ℕ) (i : Insn) → slice_get (p ++ new ∷ []) place ≡ Some i → SaysAt ls (place + 1) (fields i) × InRange i
each_more ls p new each says range place i e =
    elim (push_cases p new place i e) [
      | inl h ↦ each place i h
      | inr h ↦ rw h.0 (subst (λ (j : Insn). SaysAt ls (length p + 1) (fields j) × InRange j) h.1 (says, range))
    ]

pub only_memory : (ls : List (List ℕ)) (p : List Insn) (fault : ListingFault) → IsListing ls p → IsListingFault ls fault → fault ≡ NoMemory
only_memory ls p BadCount is a = absurd (no_fault ls p BadCount is a.has)
only_memory ls p TooLong is a = absurd (no_fault ls p TooLong is a.has)
only_memory ls p Missing is a = absurd (no_fault ls p Missing is a.has)
only_memory ls p (BadLine line) is a = absurd (no_fault ls p (BadLine line) is a.has)
only_memory ls p (OutOfRange line) is a = absurd (no_fault ls p (OutOfRange line) is a.has)
only_memory ls p (Extra line) is a = absurd (no_fault ls p (Extra line) is a.has)
only_memory ls p NoMemory is a = refl

pub only_answer : {V : Type 0} (items : V → List Insn) (r : Result V ListingFault) (ls : List (List ℕ)) → MatchResult r (λ v. IsListing ls (items v)) (λ f. IsListingFault ls f) → (p : List Insn) → IsListing ls p → MatchResult r (λ v. items v ≡ p) (λ f. f ≡ NoMemory)
only_answer items (Ok v) ls h p is = one_listing ls (items v) p h is
only_answer items (Err f) ls h p is = only_memory ls p f is h

-- ---- a text, line by line

-- the lines from index n on begin with this one
pub next_is : {X : Type 0} (ls : List X) (n : ℕ) (l : X) (more : List X) → drop n ls ≡ l ∷ more → (slice_get ls n ≡ Some l) × (drop (suc n) ls ≡ more) × (n < length ls)
next_is [] zero l more e = absurd (cc)
next_is [] (suc n) l more e = absurd (cc)
next_is (x ∷ ls) zero l more e = (cc, cc, omega arith)
next_is (x ∷ ls) (suc n) l more e = let h = next_is ls n l more e in (h.0, h.1, omega (arith, h.2))

-- no line is left from index n on
pub none_left : {X : Type 0} (ls : List X) (n : ℕ) → drop n ls ≡ [] → length ls ≤ n
none_left [] n e = omega arith
none_left (x ∷ ls) zero e = absurd (cc)
none_left (x ∷ ls) (suc n) e = omega (arith, none_left ls n e)

from_drop : {X : Type 0} (ls : List X) (n k at : ℕ) → at ≡ n + k → slice_get (drop n ls) k ≡ slice_get ls at
from_drop ls zero k at e = let same : k ≡ at = omega arith in ap (slice_get ls) same
from_drop [] (suc n) k at e = refl
from_drop (x ∷ ls) (suc n) k zero e = absurd (omega arith)
from_drop (x ∷ ls) (suc n) k (suc at) e = from_drop ls n k at (omega arith)

-- the rest after the line
pub left_more : (ls rest after : List (List ℕ)) (n m : ℕ) (l : List ℕ) → drop n ls ≡ rest → rest ≡ l ∷ after → m ≡ suc n → drop m ls ≡ after
left_more ls rest after n m l left e next = ap (λ (k : ℕ). drop k ls) next ∙ (next_is ls n l after (left ∙ e)).1

pub here : (ls rest after : List (List ℕ)) (n : ℕ) (l : List ℕ) → drop n ls ≡ rest → rest ≡ l ∷ after → slice_get ls n ≡ Some l
here ls rest after n l left e = (next_is ls n l after (left ∙ e)).0

pub inside : (ls rest after : List (List ℕ)) (n : ℕ) (l : List ℕ) → drop n ls ≡ rest → rest ≡ l ∷ after → n < length ls
inside ls rest after n l left e = (next_is ls n l after (left ∙ e)).2

lt_cases : (a m : ℕ) → a < m + 1 → (a < m) ⊎ (m ≡ a)
lt_cases a m h = grind arith

-- one more line is blank
pub blank_more : (ls : List (List ℕ)) (m : ℕ) (t : List ℕ) → ((n : ℕ) (l : List ℕ) → n < m → slice_get ls n ≡ Some l → words l ≡ []) → slice_get ls m ≡ Some t → words t ≡ []
    → (n : ℕ) (l : List ℕ) → n < m + 1 → slice_get ls n ≡ Some l → words l ≡ []
blank_more ls m t before found blank n l below has =
    elim (lt_cases n m below) [
      | inl h ↦ before n l h has
      | inr e ↦ ap words (some_same (slice_get ls n) l t has (ap (slice_get ls) (sym e) ∙ found)) ∙ blank
    ]

pub blank_all : (ls : List (List ℕ)) (m : ℕ) → ((n : ℕ) (l : List ℕ) → n < m → slice_get ls n ≡ Some l → words l ≡ []) → drop m ls ≡ [] → NoText ls
blank_all ls m before left n l has =
    let w = slice_get_within ls n l has in
    let e = none_left ls m left in
    before n l (omega arith) has

not_less : (m n : ℕ) → (m < n → ⊥) → n ≤ m
not_less m n h = elim (lt_or_le m n) [ inl l ↦ absurd (h l) | inr l ↦ l ]

-- if a line after the instructions has a word, this is the first fault of the text
pub extra_answer : (ls rest : List (List ℕ)) (count more line : ℕ) → NoneBefore ls (count + 2) → SaysAt ls 0 (count ∷ []) → count < length ls → drop (count + 1) ls ≡ rest → IsFirstText rest more → line ≡ count + 2 + more → IsListingFault ls (Extra line)
extra_answer ls rest count more line none counted inside left text e = record { has = has; first = first }
  where
    at : (k n : ℕ) → n ≡ count + 1 + k → slice_get rest k ≡ slice_get ls n
    at k n same = ap (λ (xs : List (List ℕ)). slice_get xs k) (sym left) ∙ from_drop ls (count + 1) k n same

    has : HasFault ls (Extra line)
    has = (count, counted, omega arith, text.line, sym (at more (line - 1) (omega arith)) ∙ text.found, text.some)

    early : (other : ℕ) (l : List ℕ) → count + 2 ≤ other → slice_get ls (other - 1) ≡ Some l → (words l ≡ [] → ⊥) → other < line → ⊥
    early other l low found some before =
        some (text.before (other - 1 - (count + 1)) l (omega arith) (at (other - 1 - (count + 1)) (other - 1) (omega arith) ∙ found))

    first : NoneBefore ls line
    first BadCount h = absurd (omega (arith, none BadCount h))
    first TooLong h = absurd (omega (arith, none TooLong h))
    first Missing h = let c = one_count ls count h.0 counted h.1 in absurd (omega (arith, h.2))
    first (BadLine n) h = let low = none (BadLine n) h in let c = one_count ls count h.count counted h.counted in absurd (omega (arith, h.below))
    first (OutOfRange n) h = let low = none (OutOfRange n) h in let c = one_count ls count h.count counted h.counted in absurd (omega (arith, h.below))
    first (Extra n) h =
        let low = none (Extra n) h in
        not_less n line (early n h.3 low h.4 h.5)
    first NoMemory h = absurd h

-- if no line after the instructions has a word, the text has no fault
pub memory_answer : (ls rest : List (List ℕ)) (count : ℕ) → NoneBefore ls (count + 2) → SaysAt ls 0 (count ∷ []) → count ≤ most_insns → count < length ls → drop (count + 1) ls ≡ rest → NoText rest → IsListingFault ls NoMemory
memory_answer ls rest count none counted short inside left blank BadCount h = h count counted
memory_answer ls rest count none counted short inside left blank TooLong h = let c = one_count ls count h.0 counted h.1 in omega (arith, h.2)
memory_answer ls rest count none counted short inside left blank Missing h = let c = one_count ls count h.0 counted h.1 in omega (arith, h.2)
memory_answer ls rest count none counted short inside left blank (BadLine n) h = let low = none (BadLine n) h in let c = one_count ls count h.count counted h.counted in omega (arith, h.below)
memory_answer ls rest count none counted short inside left blank (OutOfRange n) h = let low = none (OutOfRange n) h in let c = one_count ls count h.count counted h.counted in omega (arith, h.below)
memory_answer ls rest count none counted short inside left blank (Extra n) h =
    let low = none (Extra n) h in
    h.5 (blank (n - 1 - (count + 1)) h.3 (ap (λ (xs : List (List ℕ)). slice_get xs (n - 1 - (count + 1))) (sym left) ∙ from_drop ls (count + 1) (n - 1 - (count + 1)) (n - 1) (omega arith) ∙ h.4))
memory_answer ls rest count none counted short inside left blank NoMemory h = h

-- the instructions of the lines are those of a listing
pub finished : (ls rest : List (List ℕ)) (count : ℕ) (p : List Insn) → SaysAt ls 0 (count ∷ []) → count ≤ most_insns → count ≡ length p
    → ((place : ℕ) (i : Insn) → slice_get p place ≡ Some i → SaysAt ls (place + 1) (fields i) × InRange i) → drop (count + 1) ls ≡ rest → NoText rest → IsListing ls p
finished ls rest count p counted short long each left blank = record {
  count = subst (λ (n : ℕ). SaysAt ls 0 (n ∷ [])) long counted;
  short = omega arith;
  each = each;
  rest = λ at l after found. blank (at - (count + 1)) l (ap (λ (xs : List (List ℕ)). slice_get xs (at - (count + 1))) (sym left) ∙ from_drop ls (count + 1) (at - (count + 1)) at (omega arith) ∙ found);
}

-- one more instruction is kept
pub kept_more : {V : Type 0} (items : V → List Insn) (old new : Option V) (ls : List (List ℕ)) (place : ℕ) (i : Insn) → IfSome new (λ v. IsSomeAnd old (λ u. items v ≡ items u ++ i ∷ []))
    → IfSome old (λ u. (length (items u) ≡ place) × ((at : ℕ) (j : Insn) → slice_get (items u) at ≡ Some j → SaysAt ls (at + 1) (fields j) × InRange j)) → SaysAt ls (place + 1) (fields i) → InRange i
    → IfSome new (λ v. (length (items v) ≡ place + 1) × ((at : ℕ) (j : Insn) → slice_get (items v) at ≡ Some j → SaysAt ls (at + 1) (fields j) × InRange j))
kept_more items old None ls place i pushed before says range = tt
kept_more items None (Some v) ls place i pushed before says range = absurd pushed
kept_more items (Some u) (Some v) ls place i pushed before says range = (
  ap length pushed ∙ length_push (items u) i ∙ ap (λ (n : ℕ). n + 1) before.0,
  rw pushed (each_more ls (items u) i before.1 (rw before.0 says) range),
)
