-- Sorted clients: the result of a binary search, insertion, removal, and filtering.
use Rattle.std.proofs.Common.{◌≡◌, ℕ, zero, suc, ◌+◌, ◌-◌, ◌<◌, ◌≤◌, ◌≢◌, Bool, true, false, not, eqb, nat_lt, ◌&&◌, ◌||◌, ◌==◌, List, [], ◌∷◌, ◌++◌, length, take, drop, filter, get_or, refl, ap, sym, ◌∙◌, subst, arith, if◌then◌else◌, Some, None, Option, Result, Ok, Err, IfOk, IfErr}
use Rattle.std.specs.List.{insert, list_all, list_any}
use Rattle.std.specs.List.Sorted.{IsSearchInRange, IsBinarySearchResult, IsNonDecreasingBy}
use Rattle.std.specs.Ordering.{nat_cmp, ordering_index}
use Rattle.std.proofs.lemmas.Cmp.{ranked}
use Rattle.std.proofs.lemmas.List.Sorted.{IsNonDecreasingBy-from_default}
use Rattle.std.proofs.lemmas.Bool.Decides.{nat_tests}
use Rattle.std.proofs.lemmas.List.{get_or_default, length-append}
use Rattle.pending_fetch.specs.Indexes.{Waiting, number_beside, is_number, is_sorted, client_at, IsAt, IsGapFor}

-- what holds of all holds at an index, and conversely
all_at : (p : ℕ × ℕ → Bool) (l : Waiting) (i : ℕ) → list_all p l ≡ true → i < length l → p (get_or l i (0, 0)) ≡ true
all_at p [] i h k = absurd (omega arith)
all_at p (x ∷ l) zero h k = let here : p x ≡ true = grind arith in here
all_at p (x ∷ l) (suc i) h k = let there : list_all p l ≡ true = grind arith in all_at p l i there (omega arith)

all_from : (p : ℕ × ℕ → Bool) (l : Waiting) → ((i : ℕ) → i < length l → p (get_or l i (0, 0)) ≡ true) → list_all p l ≡ true
all_from p [] h = refl
all_from p (x ∷ l) h = rw (h 0 (omega arith), all_from p l (λ i k. h (suc i) (omega arith))) refl

-- by index
rising : (l : Waiting) (i j : ℕ) → is_sorted l ≡ true → i < j → j < length l → client_at l i < client_at l j
rising [] i j h u k = absurd (omega arith)
rising (x ∷ l) i zero h u k = absurd (omega arith)
rising (x ∷ l) zero (suc j) h u k =
    let above : list_all (λ (other : ℕ × ℕ). nat_lt x.0 other.0) l ≡ true = grind arith in
    let under : nat_lt x.0 (client_at l j) ≡ true = all_at (λ (other : ℕ × ℕ). nat_lt x.0 other.0) l j above (omega arith) in
    grind (arith, nat_tests)
rising (x ∷ l) (suc i) (suc j) h u k = let rest : is_sorted l ≡ true = grind arith in rising l i j rest (omega arith) (omega arith)

-- this client is not before an index
abbrev pub NoneBefore : Waiting → ℕ → ℕ → Type 0
NoneBefore l client i = (j : ℕ) → j < i → client_at l j ≢ client

none_before_tail : (x : ℕ × ℕ) (l : Waiting) (client i : ℕ) → NoneBefore (x ∷ l) client (suc i) → NoneBefore l client i
none_before_tail x l client i none j lt = none (suc j) (omega arith)

is_at_tail : (x : ℕ × ℕ) (l : Waiting) (client i : ℕ) → IsAt (x ∷ l) client (suc i) → IsAt l client i
is_at_tail x l client i at = record { in_range = omega (arith, at.in_range); has_client = at.has_client }

pub beside_absent : (l : Waiting) (client : ℕ) → NoneBefore l client (length l) → number_beside l client ≡ None
beside_absent [] client none = refl
beside_absent (x ∷ l) client none = grind (arith, nat_tests, none 0 (omega arith), beside_absent l client (none_before_tail x l client _ none))

beside_present : (l : Waiting) (client i : ℕ) → IsAt l client i → NoneBefore l client i → number_beside l client ≡ Some (get_or l i (0, 0)).1
beside_present [] client i at none = absurd (omega (arith, at.in_range))
beside_present (x ∷ l) client zero at none = grind (arith, nat_tests, at.has_client)
beside_present (x ∷ l) client (suc i) at none =
    grind (arith, nat_tests, none 0 (omega arith), beside_present l client i (is_at_tail x l client i at) (none_before_tail x l client i none))

beside-insert : (l : Waiting) (client number i : ℕ) → NoneBefore l client i →
    (other : ℕ) → number_beside (insert l i (client, number)) other ≡ (if eqb client other then Some number else number_beside l other)
beside-insert l client number zero none other = refl
beside-insert [] client number (suc i) none other = refl
beside-insert (x ∷ l) client number (suc i) none other =
    grind (arith, nat_tests, none 0 (omega arith), beside-insert l client number i (none_before_tail x l client i none) other)

none_at_all : (l : Waiting) (client : ℕ) → list_all (λ (other : ℕ × ℕ). nat_lt client other.0) l ≡ true → number_beside l client ≡ None
none_at_all [] client h = refl
none_at_all (x ∷ l) client h =
    let here : nat_lt client x.0 ≡ true = grind arith in
    let rest : list_all (λ (other : ℕ × ℕ). nat_lt client other.0) l ≡ true = grind arith in
    grind (arith, nat_tests, none_at_all l client rest)

-- a binary search
module _ (l : Waiting) (sorted : is_sorted l ≡ true) (client : ℕ) where
  comparisons_rise : IsNonDecreasingBy (λ (pair : ℕ × ℕ). ordering_index (nat_cmp pair.0 client)) l
  comparisons_rise = IsNonDecreasingBy-from_default (λ (pair : ℕ × ℕ). ordering_index (nat_cmp pair.0 client)) l (0, 0) (λ i j le in_range.
      let rise : client_at l i ≤ client_at l j = grind (arith, rising l i j sorted, λ (same : i ≡ j). ap (client_at l) same) in
      grind (arith, nat_tests))

  pub searched : (r : Result ℕ ℕ) → IsSearchInRange r (length l) → IsBinarySearchResult (λ (pair : ℕ × ℕ). nat_cmp pair.0 client) l r → record { found : IfOk r (IsAt l client); absent : IfErr r (IsGapFor l client) }
  searched (Ok at) in_range equal = record { found = record { in_range = in_range; has_client = ranked _ client _ (sym (equal (0, 0))) }; absent = tt }
  searched (Err at) in_range parted = record {
    found = tt;
    absent = record {
      in_range = in_range;
      smaller_before = λ j lt. ranked _ client _ (sym ((parted comparisons_rise).0 j (0, 0) (omega arith) lt));
      greater_after = λ j le lt. ranked _ client _ (sym ((parted comparisons_rise).1 j (0, 0) le lt));
    };
  }

-- a client greater than all
pub gap_none : (l : Waiting) (client : ℕ) → length l ≡ 0 → IsGapFor l client (length l)
gap_none l client e = record {
  in_range = omega arith;
  smaller_before = λ j lt. absurd (omega (arith, lt, e));
  greater_after = λ j le lt. absurd (omega (arith, le, lt));
}

pub gap_past : (l : Waiting) (client n : ℕ) (last : ℕ × ℕ) → is_sorted l ≡ true → n ≡ length l → n ≢ 0 → last ≡ get_or l (n - 1) last → nat_lt last.0 client ≡ true → IsGapFor l client (length l)
gap_past l client n last sorted e some read under = record {
  in_range = omega arith;
  smaller_before = λ j lt.
      let i : ℕ = n - 1 in
      let at_end : i + 1 ≡ length l = omega (arith, some, e) in
      let same : client_at l i ≡ last.0 = ap (λ (pair : ℕ × ℕ). pair.0) (sym (read ∙ get_or_default l i last (0, 0) (omega (arith, at_end)))) in
      let rise : client_at l j ≤ client_at l i = grind (arith, rising l j i sorted, λ (at : j ≡ i). ap (client_at l) at) in
      let above : last.0 < client = grind (arith, nat_tests) in
      omega (arith, rise, same, above);
  greater_after = λ j le lt. absurd (omega (arith, le, lt));
}

-- at the end
pub insert_last : (l : Waiting) (i : ℕ) (x : ℕ × ℕ) → i ≡ length l → l ++ x ∷ [] ≡ insert l i x
insert_last [] zero x e = refl
insert_last [] (suc i) x e = absurd (omega (arith, e))
insert_last (y ∷ l) zero x e = absurd (omega (arith, e))
insert_last (y ∷ l) (suc i) x e = ap (λ k. y ∷ k) (insert_last l i x (omega (arith, e)))

-- two lists, one after the other
all_front : (p : ℕ × ℕ → Bool) (a b : Waiting) → list_all p (a ++ b) ≡ true → list_all p a ≡ true
all_front p [] b h = refl
all_front p (x ∷ a) b h =
    let here : p x ≡ true = grind arith in
    let rest : list_all p (a ++ b) ≡ true = grind arith in
    rw (here, all_front p a b rest) refl

pub sorted_front : (a b : Waiting) → is_sorted (a ++ b) ≡ true → is_sorted a ≡ true
sorted_front [] b h = refl
sorted_front (x ∷ a) b h =
    let above : list_all (λ (other : ℕ × ℕ). nat_lt x.0 other.0) (a ++ b) ≡ true = grind arith in
    let rest : is_sorted (a ++ b) ≡ true = grind arith in
    rw (all_front (λ (other : ℕ × ℕ). nat_lt x.0 other.0) a b above, sorted_front a b rest) refl

pub sorted_back : (a b : Waiting) → is_sorted (a ++ b) ≡ true → is_sorted b ≡ true
sorted_back [] b h = h
sorted_back (x ∷ a) b h = let rest : is_sorted (a ++ b) ≡ true = grind arith in sorted_back a b rest

at_front : (a b : Waiting) (j : ℕ) → j < length a → client_at (a ++ b) j ≡ client_at a j
at_front [] b j k = absurd (omega (arith, k))
at_front (x ∷ a) b zero k = refl
at_front (x ∷ a) b (suc j) k = at_front a b j (omega (arith, k))

at_back : (a b : Waiting) (i n : ℕ) → n ≡ length a + i → client_at (a ++ b) n ≡ client_at b i
at_back [] b i n e = let same : n ≡ i = omega (arith, e) in ap (client_at b) same
at_back (x ∷ a) b i zero e = absurd (omega (arith, e))
at_back (x ∷ a) b i (suc n) e = at_back a b i n (omega (arith, e))

rising_from_first : (l : Waiting) (i : ℕ) → is_sorted l ≡ true → i < length l → client_at l 0 ≤ client_at l i
rising_from_first l zero sorted k = omega arith
rising_from_first l (suc i) sorted k = omega (arith, rising l 0 (suc i) sorted (omega arith) k)

pub found_front : (a b : Waiting) (client i : ℕ) → IsAt a client i → IsAt (a ++ b) client i
found_front a b client i at = record { in_range = omega (arith, at.in_range, length-append a b); has_client = at_front a b i at.in_range ∙ at.has_client }

pub found_back : (a b : Waiting) (client i n : ℕ) → n ≡ length a + i → IsAt b client i → IsAt (a ++ b) client n
found_back a b client i n e at = record { in_range = omega (arith, e, at.in_range, length-append a b); has_client = at_back a b i n e ∙ at.has_client }

pub gap_front : (a b : Waiting) (client i : ℕ) → is_sorted (a ++ b) ≡ true → (0 < length b → client < client_at b 0) → IsGapFor a client i → IsGapFor (a ++ b) client i
gap_front a b client i sorted before gap = record {
  in_range = omega (arith, gap.in_range, length-append a b);
  smaller_before = λ j lt. omega (arith, at_front a b j (omega (arith, lt, gap.in_range)), gap.smaller_before j lt);
  greater_after = λ j le lt.
      elim (nat_lt j (length a)) as (λ v. nat_lt j (length a) ≡ v → client < client_at (a ++ b) j) [
        | true ↦ λ t. let inside : j < length a = grind arith in omega (arith, at_front a b j inside, gap.greater_after j le inside)
        | false ↦ λ t.
            let past : length a ≤ j = grind arith in
            let split : j ≡ length a + (j - length a) = omega (arith, past) in
            let inside : j - length a < length b = omega (arith, past, lt, length-append a b) in
            omega (arith, at_back a b (j - length a) j split, rising_from_first b (j - length a) (sorted_back a b sorted) inside, before (omega (arith, inside)))
      ] refl;
}

pub absent_front : (a b : Waiting) (client : ℕ) (r : Result ℕ ℕ) → is_sorted (a ++ b) ≡ true → (0 < length b → client < client_at b 0) → IfErr r (IsGapFor a client) → IfErr r (IsGapFor (a ++ b) client)
absent_front a b client (Ok i) sorted before h = tt
absent_front a b client (Err i) sorted before h = gap_front a b client i sorted before h

pub gap_back : (a b : Waiting) (client i n : ℕ) → is_sorted (a ++ b) ≡ true → (0 < length b) × (client_at b 0 ≤ client) → n ≡ length a + i → IsGapFor b client i → IsGapFor (a ++ b) client n
gap_back a b client i n sorted reached e gap = record {
  in_range = omega (arith, e, gap.in_range, length-append a b);
  smaller_before = λ j lt.
      elim (nat_lt j (length a)) as (λ v. nat_lt j (length a) ≡ v → client_at (a ++ b) j < client) [
        | true ↦ λ t.
            let inside : j < length a = grind arith in
            omega (arith, rising (a ++ b) j (length a) sorted inside (omega (arith, reached.0, length-append a b)), at_back a b 0 (length a) (omega arith), reached.1)
        | false ↦ λ t.
            let past : length a ≤ j = grind arith in
            let split : j ≡ length a + (j - length a) = omega (arith, past) in
            omega (arith, at_back a b (j - length a) j split, gap.smaller_before (j - length a) (omega (arith, past, lt, e)))
      ] refl;
  greater_after = λ j le lt.
      let split : j ≡ length a + (j - length a) = omega (arith, le, e) in
      omega (arith, at_back a b (j - length a) j split, gap.greater_after (j - length a) (omega (arith, le, e)) (omega (arith, le, e, lt, length-append a b)));
}

none_before_at : (l : Waiting) (client i : ℕ) → is_sorted l ≡ true → IsAt l client i → NoneBefore l client i
none_before_at l client i sorted at j lt same = omega (arith, rising l j i sorted lt at.in_range, at.has_client)

pub beside_at : (l : Waiting) (client i : ℕ) → is_sorted l ≡ true → IsAt l client i → number_beside l client ≡ Some (get_or l i (0, 0)).1
beside_at l client i sorted at = beside_present l client i at (none_before_at l client i sorted at)

pub beside_gap : (l : Waiting) (client i : ℕ) → IsGapFor l client i → number_beside l client ≡ None
beside_gap l client i gap = beside_absent l client (λ j lt same. grind (arith, gap.smaller_before j, gap.greater_after j))

-- insertion
all-insert : (p : ℕ × ℕ → Bool) (l : Waiting) (i : ℕ) (x : ℕ × ℕ) → list_all p l ≡ true → p x ≡ true → list_all p (insert l i x) ≡ true
all-insert p l zero x h k = rw (k, h) refl
all-insert p [] (suc i) x h k = rw k refl
all-insert p (y ∷ l) (suc i) x h k =
    let here : p y ≡ true = grind arith in
    let rest : list_all p l ≡ true = grind arith in
    rw (here, all-insert p l i x rest k) refl

gap_tail : (x : ℕ × ℕ) (l : Waiting) (client i : ℕ) → IsGapFor (x ∷ l) client (suc i) → IsGapFor l client i
gap_tail x l client i gap = record {
  in_range = omega (arith, gap.in_range);
  smaller_before = λ j lt. gap.smaller_before (suc j) (omega arith);
  greater_after = λ j le lt. gap.greater_after (suc j) (omega arith) (omega arith);
}

pub sorted-insert : (l : Waiting) (client number i : ℕ) → is_sorted l ≡ true → IsGapFor l client i → is_sorted (insert l i (client, number)) ≡ true
sorted-insert l client number zero h gap =
    let above : list_all (λ (other : ℕ × ℕ). nat_lt client other.0) l ≡ true =
    all_from (λ (other : ℕ × ℕ). nat_lt client other.0) l (λ j k. let g : client < client_at l j = gap.greater_after j (omega arith) k in grind (arith, nat_tests)) in
    rw (above, h) refl
sorted-insert [] client number (suc i) h gap = refl
sorted-insert (x ∷ l) client number (suc i) h gap =
    let above : list_all (λ (other : ℕ × ℕ). nat_lt x.0 other.0) l ≡ true = grind arith in
    let rest : is_sorted l ≡ true = grind arith in
    let first : x.0 < client = gap.smaller_before 0 (omega arith) in
    let under : nat_lt x.0 client ≡ true = grind (arith, nat_tests) in
    rw (all-insert (λ (other : ℕ × ℕ). nat_lt x.0 other.0) l i (client, number) above under, sorted-insert l client number i rest (gap_tail x l client i gap)) refl

pub beside_joined : (l : Waiting) (client number i : ℕ) → IsGapFor l client i →
    (other : ℕ) → number_beside (insert l i (client, number)) other ≡ (if eqb client other then Some number else number_beside l other)
beside_joined l client number i gap = beside-insert l client number i (λ j lt same. omega (arith, gap.smaller_before j lt))

-- removal
all_drop : (p : ℕ × ℕ → Bool) (l : Waiting) (n : ℕ) → list_all p l ≡ true → list_all p (drop n l) ≡ true
all_drop p l zero h = h
all_drop p [] (suc n) h = refl
all_drop p (x ∷ l) (suc n) h = let rest : list_all p l ≡ true = grind arith in all_drop p l n rest

all_less : (p : ℕ × ℕ → Bool) (l : Waiting) (i n : ℕ) → i ≤ n → list_all p l ≡ true → list_all p (take i l ++ drop n l) ≡ true
all_less p l zero n le h = all_drop p l n h
all_less p l (suc i) zero le h = absurd (omega arith)
all_less p [] (suc i) (suc n) le h = refl
all_less p (x ∷ l) (suc i) (suc n) le h =
    let here : p x ≡ true = grind arith in
    let rest : list_all p l ≡ true = grind arith in
    rw (here, all_less p l i n (omega arith) rest) refl

sorted-drop : (l : Waiting) (n : ℕ) → is_sorted l ≡ true → is_sorted (drop n l) ≡ true
sorted-drop l zero h = h
sorted-drop [] (suc n) h = refl
sorted-drop (x ∷ l) (suc n) h = let rest : is_sorted l ≡ true = grind arith in sorted-drop l n rest

sorted_less : (l : Waiting) (i n : ℕ) → i ≤ n → is_sorted l ≡ true → is_sorted (take i l ++ drop n l) ≡ true
sorted_less l zero n le h = sorted-drop l n h
sorted_less l (suc i) zero le h = absurd (omega arith)
sorted_less [] (suc i) (suc n) le h = refl
sorted_less (x ∷ l) (suc i) (suc n) le h =
    let above : list_all (λ (other : ℕ × ℕ). nat_lt x.0 other.0) l ≡ true = grind arith in
    let rest : is_sorted l ≡ true = grind arith in
    rw (all_less (λ (other : ℕ × ℕ). nat_lt x.0 other.0) l i n (omega arith) above, sorted_less l i n (omega arith) rest) refl

pub sorted-cut : (l : Waiting) (i : ℕ) → is_sorted l ≡ true → is_sorted (take i l ++ drop (i + 1) l) ≡ true
sorted-cut l i h = sorted_less l i (i + 1) (omega arith) h

left_at : (l : Waiting) (client i n : ℕ) → n ≡ suc i → is_sorted l ≡ true → IsAt l client i →
    (other : ℕ) → number_beside (take i l ++ drop n l) other ≡ (if eqb client other then None else number_beside l other)
left_at l client i zero e h at other = absurd (omega arith)
left_at [] client i (suc n) e h at other = absurd (omega (arith, at.in_range))
left_at (x ∷ l) client zero (suc n) e h at other =
    let above : list_all (λ (another : ℕ × ℕ). nat_lt x.0 another.0) l ≡ true = grind arith in
    let same : x.0 ≡ client = at.has_client in
    let none : number_beside l x.0 ≡ None = none_at_all l x.0 above in
    let all : number_beside (drop n l) other ≡ number_beside l other = ap (λ k. number_beside (drop k l) other) (let z : n ≡ 0 = omega arith in z) in
    all ∙ ap (λ c. number_beside l other) same ∙ first_gone x.0 client x.1 l other same none
  where
    first_gone : (a c v : ℕ) (l : Waiting) (other : ℕ) → a ≡ c → number_beside l a ≡ None → number_beside l other ≡ (if eqb c other then None else (if eqb a other then Some v else number_beside l other))
    first_gone a c v l other same none =
        elim (eqb c other) as (λ w. eqb c other ≡ w → number_beside l other ≡ (if w then None else (if eqb a other then Some v else number_beside l other))) [
          | true ↦ λ w. let all : a ≡ other = grind (arith, nat_tests) in ap (number_beside l) (sym all) ∙ none
          | false ↦ λ w. let apart : eqb a other ≡ false = grind (arith, nat_tests) in sym (ap (λ b. if b then Some v else number_beside l other) apart)
        ] refl
left_at (x ∷ l) client (suc i) (suc n) e h at other =
    let rest : is_sorted l ≡ true = grind arith in
    let lower : x.0 < client_at l i = rising (x ∷ l) 0 (suc i) h (omega arith) at.in_range in
    let under : x.0 < client = omega (arith, lower, at.has_client) in
    let step : number_beside (take i l ++ drop n l) other ≡ (if eqb client other then None else number_beside l other) = left_at l client i n (omega arith) rest (is_at_tail x l client i at) other in
    ap (λ o. if eqb x.0 other then Some x.1 else o) step ∙ swapped x.0 client x.1 l other under
  where
    swapped : (a c v : ℕ) (l : Waiting) (other : ℕ) → a < c → (if eqb a other then Some v else (if eqb c other then None else number_beside l other)) ≡ (if eqb c other then None else (if eqb a other then Some v else number_beside l other))
    swapped a c v l other u =
        elim (eqb a other) as (λ w. eqb a other ≡ w → (if w then Some v else (if eqb c other then None else number_beside l other)) ≡ (if eqb c other then None else (if w then Some v else number_beside l other))) [
          | true ↦ λ w. let apart : eqb c other ≡ false = grind (arith, nat_tests) in sym (ap (λ b. if b then None else Some v) apart)
          | false ↦ λ w. refl
        ] refl

pub beside_left : (l : Waiting) (client i : ℕ) → is_sorted l ≡ true → IsAt l client i →
    (other : ℕ) → number_beside (take i l ++ drop (i + 1) l) other ≡ (if eqb client other then None else number_beside l other)
beside_left l client i h at other = left_at l client i (i + 1) (omega arith) h at other

-- the clients of other fetches
all-filter : (p q : ℕ × ℕ → Bool) (l : Waiting) → list_all p l ≡ true → list_all p (filter q l) ≡ true
all-filter p q [] h = refl
all-filter p q (x ∷ l) h =
    let here : p x ≡ true = grind arith in
    let rest : list_all p l ≡ true = grind arith in
    elim (q x) as (λ v. list_all p (if v then x ∷ filter q l else filter q l) ≡ true) [
      | true ↦ rw (here, all-filter p q l rest) refl
      | false ↦ all-filter p q l rest
    ]

pub sorted-filter : (q : ℕ × ℕ → Bool) (l : Waiting) → is_sorted l ≡ true → is_sorted (filter q l) ≡ true
sorted-filter q [] h = refl
sorted-filter q (x ∷ l) h =
    let above : list_all (λ (other : ℕ × ℕ). nat_lt x.0 other.0) l ≡ true = grind arith in
    let rest : is_sorted l ≡ true = grind arith in
    elim (q x) as (λ v. is_sorted (if v then x ∷ filter q l else filter q l) ≡ true) [
      | true ↦ rw (all-filter (λ (other : ℕ × ℕ). nat_lt x.0 other.0) q l above, sorted-filter q l rest) refl
      | false ↦ sorted-filter q l rest
    ]

-- the entries with another number
abbrev kept_numbers : ℕ → ℕ × ℕ → Bool
kept_numbers number pair = not (pair.1 == number)

pub beside_forgotten : (number : ℕ) (l : Waiting) → is_sorted l ≡ true →
    (other : ℕ) → number_beside (filter (kept_numbers number) l) other ≡ (if is_number number (number_beside l other) then None else number_beside l other)
beside_forgotten number [] h other = refl
beside_forgotten number (x ∷ l) h other =
    let above : list_all (λ (another : ℕ × ℕ). nat_lt x.0 another.0) l ≡ true = grind arith in
    let rest : is_sorted l ≡ true = grind arith in
    elim (eqb x.1 number) as (λ v. eqb x.1 number ≡ v → number_beside (if not v then x ∷ filter (kept_numbers number) l else filter (kept_numbers number) l) other
    ≡ (if is_number number (if eqb x.0 other then Some x.1 else number_beside l other) then None else (if eqb x.0 other then Some x.1 else number_beside l other))) [
      | true ↦ λ e.
          elim (eqb x.0 other) as (λ w. eqb x.0 other ≡ w → number_beside (filter (kept_numbers number) l) other ≡ (if is_number number (if w then Some x.1 else number_beside l other) then None else (if w then Some x.1 else number_beside l other))) [
            | true ↦ λ u.
                let same : x.0 ≡ other = grind (arith, nat_tests) in
                none_at_all (filter (kept_numbers number) l) other (ap (λ c. list_all (λ (another : ℕ × ℕ). nat_lt c another.0) (filter (kept_numbers number) l)) (sym same) ∙ all-filter (λ (another : ℕ × ℕ). nat_lt x.0 another.0) (kept_numbers number) l above)
                ∙ sym (ap (λ b. if b then None else Some x.1) e)
            | false ↦ λ u. beside_forgotten number l rest other
          ] refl
      | false ↦ λ e.
          elim (eqb x.0 other) as (λ w. eqb x.0 other ≡ w → (if w then Some x.1 else number_beside (filter (kept_numbers number) l) other) ≡ (if is_number number (if w then Some x.1 else number_beside l other) then None else (if w then Some x.1 else number_beside l other))) [
            | true ↦ λ u. sym (ap (λ b. if b then None else Some x.1) e)
            | false ↦ λ u. beside_forgotten number l rest other
          ] refl
    ] refl

-- one after another
pub left_more : (c : ℕ) (xs : List ℕ) (x : ℕ) (o : Option ℕ) → (if eqb x c then None else (if list_any (λ w. w == c) xs then None else o)) ≡ (if list_any (λ w. w == c) (xs ++ x ∷ []) then None else o)
left_more c [] x o = elim (eqb x c) as (λ v. (if v then None else o) ≡ (if v || false then None else o)) [ true ↦ refl | false ↦ refl ]
left_more c (y ∷ xs) x o =
    elim (eqb y c) as (λ v. (if eqb x c then None else (if v || list_any (λ w. w == c) xs then None else o)) ≡ (if v || list_any (λ w. w == c) (xs ++ x ∷ []) then None else o)) [
      | true ↦ elim (eqb x c) as (λ u. (if u then None else None) ≡ (let n : Option ℕ = None in n)) [ true ↦ refl | false ↦ refl ]
      | false ↦ left_more c xs x o
    ]

-- read at what is seen
abbrev pub beside_view : Waiting → ℕ → ℕ → Option ℕ → Option ℕ
beside_view l client other value = if eqb client other then value else number_beside l other

pub sorted_seen : (l v : Waiting) → l ≡ v → is_sorted l ≡ true → is_sorted v ≡ true
sorted_seen l v e h = sym (ap is_sorted e) ∙ h

pub gap_seen : (l v : Waiting) (client i : ℕ) → l ≡ v → IsGapFor v client i → IsGapFor l client i
gap_seen l v client i e h = let P : Waiting → Type 0 = λ w. IsGapFor w client i in subst P (sym e) h

pub at_seen : (l v : Waiting) (client i : ℕ) → l ≡ v → IsAt v client i → IsAt l client i
at_seen l v client i e h = let P : Waiting → Type 0 = λ w. IsAt w client i in subst P (sym e) h

pub found_not_absent : (l : Waiting) (client i number : ℕ) → is_sorted l ≡ true → IsAt l client i → number_beside l client ≡ None →
    (other : ℕ) → number_beside l other ≡ (if eqb client other then Some number else number_beside l other)
found_not_absent l client i number h at none other = let there = beside_at l client i h at in absurd cc

pub beside_gone : (l : Waiting) (client i : ℕ) → IsGapFor l client i → (other : ℕ) → number_beside l other ≡ (if eqb client other then None else number_beside l other)
beside_gone l client i gap other =
    elim (eqb client other) as (λ w. eqb client other ≡ w → number_beside l other ≡ (if w then None else number_beside l other)) [
      | true ↦ λ w. let same : client ≡ other = grind (arith, nat_tests) in ap (number_beside l) (sym same) ∙ beside_gap l client i gap
      | false ↦ λ w. refl
    ] refl
