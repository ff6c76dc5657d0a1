-- Options that are collected one after another.
use Rattle.std.proofs.Common.{◌≡◌, ℕ, suc, ◌+◌, ◌<◌, ◌≤◌, List, [], ◌∷◌, ◌++◌, Option, Some, length, take, drop, bytes_eq, ◌==◌, not, Bool, true, false, cond, ◌||◌, Vec, refl, sym, ap, ◌∙◌, arith}
use Rattle.std.specs.BTreeSet.{BTreeSet, insert_key}
use Rattle.std.specs.Cmp.Lexicographic.{slice_cmp}
use Rattle.std.specs.declared.cmp.Ordering.{Ordering}
use Rattle.std.specs.declared.cmp.Ordering.TheVariants.{Less, Equal, Greater}
use Rattle.std.specs.Ordering.{is_eq, nat_cmp, match_ordering}
use Rattle.std.specs.List.{list_any, position_or_len, slice_split, onto_first}
use Rattle.std.proofs.lemmas.List.Splits.{slice_split_first}
use Rattle.std.proofs.lemmas.Map.Text.{is_eq-slice_cmp}
use Rattle.std.proofs.lemmas.Slice.Eq.{bytes_eq-Decides}
use Rattle.http_rules.specs.Forwarding.{option_of}
use Rattle.http_rules.specs.Options.{has_name, parts_left, options_left, unless_empty}
use Rattle.http_rules.proofs.Equal.{bytes_eq-swapped}

twice : (a b : Bool) → (a || b) ≡ (a || (a || b))
twice true b = refl
twice false b = refl

swapped : (a b c : Bool) → (a || (b || c)) ≡ (b || (a || c))
swapped true true c = refl
swapped true false c = refl
swapped false b c = refl

-- a key that is put in passes a test, or one that was there before
any_inserted : {K : Type 0} (cmp : K → K → Ordering) (test : K → Bool) → ((x y : K) → is_eq (cmp x y) ≡ true → test x ≡ test y)
    → (key : K) (keys : List K) → list_any test (insert_key cmp keys key) ≡ (test key || list_any test keys)
any_inserted cmp test same key [] = refl
any_inserted cmp test same key (x ∷ xs) = by (cmp key x) (same key x) (any_inserted cmp test same key xs)
  where
    by : (r : Ordering) → (is_eq r ≡ true → test key ≡ test x) → list_any test (insert_key cmp xs key) ≡ (test key || list_any test xs)
        → list_any test (match_ordering r (key ∷ x ∷ xs) (x ∷ xs) (x ∷ insert_key cmp xs key)) ≡ (test key || (test x || list_any test xs))
    by Less e ih = refl
    by Equal e ih = rw (e refl) (twice (test x) (list_any test xs))
    by Greater e ih = ap (λ (b : Bool). test x || b) ih ∙ swapped (test x) (test key) (list_any test xs)

-- a set has a name that is put in, and those that it had before
pub name_put : {Z : Type 0} (old new : BTreeSet (Vec ℕ Z)) (key : Vec ℕ Z) (name : List ℕ)
    → new.keys ≡ insert_key (λ (x y : Vec ℕ Z). slice_cmp nat_cmp x.items y.items) old.keys key
    → has_name new name ≡ (bytes_eq key.items name || has_name old name)
name_put {Z} old new key name e =
    let test : Vec ℕ Z → Bool = λ k. is_eq (slice_cmp nat_cmp name k.items) in
    let same : (x y : Vec ℕ Z) → is_eq (slice_cmp nat_cmp x.items y.items) ≡ true → test x ≡ test y
    = λ x y h. ap (λ (xs : List ℕ). is_eq (slice_cmp nat_cmp name xs)) ((bytes_eq-Decides x.items y.items).0 (sym (is_eq-slice_cmp x.items y.items) ∙ h)) in
    ap (list_any test) e
    ∙ any_inserted (λ (x y : Vec ℕ Z). slice_cmp nat_cmp x.items y.items) test same key old.keys
    ∙ ap (λ (b : Bool). b || has_name old name) (is_eq-slice_cmp name key.items ∙ bytes_eq-swapped name key.items)

-- a name that is put in is found from then on
pub name_step : (name option : List ℕ) (rest whole : List (List ℕ)) (found now : Bool)
    → list_any (bytes_eq name) whole ≡ (found || list_any (bytes_eq name) (option ∷ rest)) → now ≡ (bytes_eq option name || found)
    → list_any (bytes_eq name) whole ≡ (now || list_any (bytes_eq name) rest)
name_step name option rest whole found now h e = h ∙ by found (bytes_eq name option) (list_any (bytes_eq name) rest) now (e ∙ ap (λ (b : Bool). b || found) (bytes_eq-swapped option name))
  where
    by : (f b r n : Bool) → n ≡ (b || f) → (f || (b || r)) ≡ (n || r)
    by true true r n k = rw k refl
    by true false r n k = rw k refl
    by false true r n k = rw k refl
    by false false r n k = rw k refl

-- a text that is one element
abbrev Whole : List ℕ → Type 0
Whole text = length text ≤ position_or_len (λ c. c == 44) text → slice_split (λ c. c == 44) text ≡ text ∷ []

parts_whole : (text : List ℕ) → Whole text
parts_whole [] = λ h. refl
parts_whole (c ∷ cs) = by (c == 44) (parts_whole cs)
  where
    by : (b : Bool) → Whole cs → suc (length cs) ≤ cond (not b) (1 + position_or_len (λ c. c == 44) cs) 0
        → cond b ([] ∷ slice_split (λ c. c == 44) cs) (onto_first c (slice_split (λ c. c == 44) cs)) ≡ (c ∷ cs) ∷ []
    by true ih k = absurd (omega arith)
    by false ih k = ap (onto_first c) (ih (omega arith))

pub first_part : (text : List ℕ) (n : ℕ) → n ≡ position_or_len (λ c. c == 44) text → n < length text
    → slice_split (λ c. c == 44) text ≡ take n text ∷ slice_split (λ c. c == 44) (drop (n + 1) text)
first_part text n e h = rw e (slice_split_first (λ c. c == 44) text 0 (rw e at h))

pub only_part : (text : List ℕ) (n : ℕ) → n ≡ position_or_len (λ c. c == 44) text → length text ≤ n → slice_split (λ c. c == 44) text ≡ text ∷ []
only_part text n e h = parts_whole text (rw e at h)

-- the options of a text are that of its first element, unless it is empty, and those after it
pub next_part : (text part : List ℕ) (others : Option (List ℕ)) (rest : List (List ℕ)) → slice_split (λ c. c == 44) text ≡ part ∷ parts_left others
    → (options_left (Some text) ++ rest) ≡ unless_empty (option_of part) (options_left others ++ rest)
next_part text part others rest e = rw e (by (length (option_of part) == 0))
  where
    by : (b : Bool) → (cond (not b) (option_of part ∷ options_left others) (options_left others) ++ rest)
        ≡ cond b (options_left others ++ rest) (option_of part ∷ (options_left others ++ rest))
    by true = refl
    by false = refl
