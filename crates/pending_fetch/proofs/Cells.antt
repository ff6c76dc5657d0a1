-- The fetches in their cells after one is appended, changed or removed.
use Rattle.std.proofs.Common.{◌≡◌, ◌≢◌, ℕ, zero, suc, ◌+◌, ◌<◌, Bool, true, false, eqb, List, [], ◌∷◌, ◌++◌, length, map, take, drop, set, get_or, Option, Some, None, is_some, refl, ap, sym, ◌∙◌, subst, arith, nat_eq, ◌==◌, ◌&&◌, inl, inr, cond, count_by}
use Rattle.std.specs.Prelude.{IsSome}
use Rattle.std.specs.List.{list_any, list_all, IsDistinct, AllByRecursion}
use Rattle.std.proofs.lemmas.Bool.{cases_eq}
use Rattle.std.proofs.lemmas.Bool.Decides.{nat_tests}
use Rattle.std.proofs.lemmas.List.{map-append, get_or-map, length-map, get_or_default, take-map, drop-map}
use Rattle.std.proofs.lemmas.List.Sums.{sum_by-cons}
use Rattle.slab.proofs.SlabLemmas.{Updates-with_value}
use Rattle.slab.specs.Slab.{Slab, get, slab_len, Updates, with_value, ContainsKey}
use Rattle.pending_fetch.specs.Fetches.{PendingFetch}
use Rattle.pending_fetch.specs.Cells.{nothing, fetch_in, fetches_at, IsInCells}

-- a cell that is none of the list
abbrev pub IsOther : ℕ → List ℕ → Type 0
IsOther cell cells = AllByRecursion (λ other. nat_eq cell other ≡ false) cells

differs : (a b : ℕ) → nat_eq a b ≡ false → b ≢ a
differs a b h = λ e. absurd (grind (arith, nat_tests))

-- a map that changes at one cell alone
map_other : (f g : ℕ → PendingFetch) (cell : ℕ) (cells : List ℕ) → IsOther cell cells → ((other : ℕ) → other ≢ cell → g other ≡ f other) → map g cells ≡ map f cells
map_other f g cell [] h same = refl
map_other f g cell (x ∷ xs) h same = rw (same x (differs cell x h.0), map_other f g cell xs h.1 same) refl

other_at : (cell : ℕ) (cells : List ℕ) (i : ℕ) → i < length cells → IsOther cell cells → nat_eq cell (get_or cells i 0) ≡ false
other_at cell [] i l h = absurd (omega (arith, l))
other_at cell (x ∷ xs) zero l h = h.0
other_at cell (x ∷ xs) (suc i) l h = other_at cell xs i (omega (arith, l)) h.1

turned : (a b : ℕ) → nat_eq a b ≡ false → nat_eq b a ≡ false
turned a b h = grind (arith, nat_tests)

pub map_set : (f g : ℕ → PendingFetch) (cells : List ℕ) (i : ℕ) (new : PendingFetch) → i < length cells → IsDistinct nat_eq cells → g (get_or cells i 0) ≡ new →
    ((other : ℕ) → other ≢ get_or cells i 0 → g other ≡ f other) → map g cells ≡ set (map f cells) i new
unfolding IsDistinct
map_set f g [] i new l h here same = absurd (omega (arith, l))
map_set f g (x ∷ xs) zero new l h here same = rw (here, map_other f g x xs h.0 same) refl
map_set f g (x ∷ xs) (suc i) new l h here same =
    let apart : nat_eq x (get_or xs i 0) ≡ false = other_at x xs i (omega (arith, l)) h.0 in
    rw (same x (differs (get_or xs i 0) x (turned x (get_or xs i 0) apart)), map_set f g xs i new (omega (arith, l)) h.1 here same) refl

-- the cells without the i-th
abbrev cut : ℕ → List ℕ → List ℕ
cut i [] = []
cut zero (x ∷ xs) = xs
cut (suc i) (x ∷ xs) = x ∷ cut i xs

cut_next : (cells : List ℕ) (i : ℕ) → take i cells ++ drop (suc i) cells ≡ cut i cells
cut_next [] zero = refl
cut_next [] (suc i) = refl
cut_next (x ∷ xs) zero = refl
cut_next (x ∷ xs) (suc i) = ap (λ l. x ∷ l) (cut_next xs i)

cut_is : (cells : List ℕ) (i : ℕ) → take i cells ++ drop (i + 1) cells ≡ cut i cells
cut_is cells i =
    let next : i + 1 ≡ suc i = omega arith in
    ap (λ n. take i cells ++ drop n cells) next ∙ cut_next cells i

cut_other : (cell : ℕ) (cells : List ℕ) (i : ℕ) → IsOther cell cells → IsOther cell (cut i cells)
cut_other cell [] i h = tt
cut_other cell (x ∷ xs) zero h = h.1
cut_other cell (x ∷ xs) (suc i) h = (h.0, cut_other cell xs i h.1)

cut_without : (cells : List ℕ) (i : ℕ) → i < length cells → IsDistinct nat_eq cells → IsOther (get_or cells i 0) (cut i cells)
unfolding IsDistinct
cut_without [] i l h = absurd (omega (arith, l))
cut_without (x ∷ xs) zero l h = h.0
cut_without (x ∷ xs) (suc i) l h = (turned x (get_or xs i 0) (other_at x xs i (omega (arith, l)) h.0), cut_without xs i (omega (arith, l)) h.1)

cut_apart : (cells : List ℕ) (i : ℕ) → IsDistinct nat_eq cells → IsDistinct nat_eq (cut i cells)
unfolding IsDistinct
cut_apart [] i h = tt
cut_apart (x ∷ xs) zero h = h.1
cut_apart (x ∷ xs) (suc i) h = (cut_other x xs i h.0, cut_apart xs i h.1)

length_cut : (cells : List ℕ) (i : ℕ) → i < length cells → length (cut i cells) + 1 ≡ length cells
length_cut [] i l = absurd (omega (arith, l))
length_cut (x ∷ xs) zero l = omega arith
length_cut (x ∷ xs) (suc i) l = omega (arith, length_cut xs i (omega (arith, l)))

map_cut : (f : ℕ → PendingFetch) (cells : List ℕ) (i n : ℕ) → map f (take i cells ++ drop n cells) ≡ take i (map f cells) ++ drop n (map f cells)
map_cut f cells i n =
    map-append f (take i cells) (drop n cells) ∙ ap (λ l. l ++ map f (drop n cells)) (sym (take-map f i cells)) ∙ ap (λ l. take i (map f cells) ++ l) (sym (drop-map f n cells))

-- which cells have a fetch
filled_at : (test : ℕ → Bool) (cells : List ℕ) (i : ℕ) → i < length cells → list_all test cells ≡ true → test (get_or cells i 0) ≡ true
filled_at test [] i l h = absurd (omega (arith, l))
filled_at test (x ∷ xs) zero l h = grind arith
filled_at test (x ∷ xs) (suc i) l h =
    let rest : list_all test xs ≡ true = grind arith in
    filled_at test xs i (omega (arith, l)) rest

all_still : (p q : ℕ → Bool) (cells : List ℕ) → ((x : ℕ) → p x ≡ true → q x ≡ true) → list_all p cells ≡ true → list_all q cells ≡ true
all_still p q [] still h = refl
all_still p q (x ∷ xs) still h =
    let here : p x ≡ true = grind arith in
    let rest : list_all p xs ≡ true = grind arith in
    rw (still x here, all_still p q xs still rest) refl

all_other : (p q : ℕ → Bool) (cell : ℕ) (cells : List ℕ) → IsOther cell cells → ((x : ℕ) → x ≢ cell → q x ≡ p x) → list_all p cells ≡ true → list_all q cells ≡ true
all_other p q cell [] o same h = refl
all_other p q cell (x ∷ xs) o same h =
    let here : p x ≡ true = grind arith in
    let rest : list_all p xs ≡ true = grind arith in
    rw (same x (differs cell x o.0) ∙ here, all_other p q cell xs o.1 same rest) refl

all_cut : (p : ℕ → Bool) (cells : List ℕ) (i : ℕ) → list_all p cells ≡ true → list_all p (cut i cells) ≡ true
all_cut p [] i h = refl
all_cut p (x ∷ xs) zero h = grind arith
all_cut p (x ∷ xs) (suc i) h =
    let here : p x ≡ true = grind arith in
    let rest : list_all p xs ≡ true = grind arith in
    rw (here, all_cut p xs i rest) refl

-- a cell that fails the test is none of those that pass
passes_not : (p : ℕ → Bool) (cell : ℕ) (cells : List ℕ) → p cell ≡ false → list_all p cells ≡ true → IsOther cell cells
passes_not p cell [] lacks h = tt
passes_not p cell (x ∷ xs) lacks h =
    let here : p x ≡ true = grind arith in
    let rest : list_all p xs ≡ true = grind arith in
    let apart : nat_eq cell x ≡ false = elim (nat_eq cell x) as (λ v. nat_eq cell x ≡ v → v ≡ false) [
      | true ↦ λ t. let same : cell ≡ x = grind (arith, nat_tests) in absurd cc
      | false ↦ λ t. refl
    ] refl in
    (apart, passes_not p cell xs lacks rest)

push_other : (x cell : ℕ) (cells : List ℕ) → nat_eq x cell ≡ false → IsOther x cells → IsOther x (cells ++ cell ∷ [])
push_other x cell [] d h = (d, tt)
push_other x cell (y ∷ ys) d h = (h.0, push_other x cell ys d h.1)

push_apart : (cell : ℕ) (cells : List ℕ) → IsOther cell cells → IsDistinct nat_eq cells → IsDistinct nat_eq (cells ++ cell ∷ [])
unfolding IsDistinct
push_apart cell [] o h = (tt, tt)
push_apart cell (x ∷ xs) o h = (push_other x cell xs (turned cell x o.0) h.0, push_apart cell xs o.1 h.1)

all_push : (p : ℕ → Bool) (cell : ℕ) (cells : List ℕ) → p cell ≡ true → list_all p cells ≡ true → list_all p (cells ++ cell ∷ []) ≡ true
all_push p cell [] last h = rw last refl
all_push p cell (x ∷ xs) last h =
    let here : p x ≡ true = grind arith in
    let rest : list_all p xs ≡ true = grind arith in
    rw (here, all_push p cell xs last rest) refl

length_push : (cell : ℕ) (cells : List ℕ) → length (cells ++ cell ∷ []) ≡ length cells + 1
length_push cell [] = refl
length_push cell (x ∷ xs) = omega (arith, length_push cell xs)

-- the tests and maps of a slab
abbrev has : Slab PendingFetch → ℕ → Bool
has slab cell = is_some (get slab cell)

abbrev fetch_of_cell : Slab PendingFetch → ℕ → PendingFetch
fetch_of_cell slab cell = fetch_in (get slab cell)

is_there : (o : Option PendingFetch) → is_some o ≡ true → IsSome o
is_there None h = absurd cc
is_there (Some f) h = refl

pub occupied : (slab : Slab PendingFetch) (cells : List ℕ) (i : ℕ) → i < length cells → IsInCells slab cells → ContainsKey slab (get_or cells i 0)
occupied slab cells i l h = is_there (get slab (get_or cells i 0)) (filled_at (has slab) cells i l h.filled)

pub length_fetches : (slab : Slab PendingFetch) (cells : List ℕ) → length (fetches_at slab cells) ≡ length cells
length_fetches slab cells = length-map cells (fetch_of_cell slab)

-- the fetch at an index
pub fetch_read : (slab : Slab PendingFetch) (cells : List ℕ) (i : ℕ) (f : PendingFetch) → i < length cells → get slab (get_or cells i 0) ≡ Some f → f ≡ get_or (fetches_at slab cells) i nothing
fetch_read slab cells i f l e = sym (get_or-map (fetch_of_cell slab) cells i 0 nothing l ∙ ap fetch_in e)

-- one more
pub pushed_list : (old new : Slab PendingFetch) (cells : List ℕ) (cell : ℕ) (f : PendingFetch) → IsInCells old cells → get old cell ≡ None → Updates old new cell (Some f) →
    fetches_at new (cells ++ cell ∷ []) ≡ fetches_at old cells ++ f ∷ []
pushed_list old new cells cell f h vacant u =
    let other : IsOther cell cells = passes_not (has old) cell cells (ap is_some vacant) h.filled in
    map-append (fetch_of_cell new) cells (cell ∷ [])
    ∙ ap (λ l. l ++ fetch_of_cell new cell ∷ []) (map_other (fetch_of_cell old) (fetch_of_cell new) cell cells other (λ x d. ap fetch_in (u.others x d)))
    ∙ ap (λ g. fetches_at old cells ++ g ∷ []) (ap fetch_in u.changed)

pub pushed : (old new : Slab PendingFetch) (cells : List ℕ) (cell : ℕ) (f : PendingFetch) → IsInCells old cells → get old cell ≡ None → Updates old new cell (Some f) → slab_len new ≡ slab_len old + 1 →
    IsInCells new (cells ++ cell ∷ [])
pushed old new cells cell f h vacant u len =
    let other : IsOther cell cells = passes_not (has old) cell cells (ap is_some vacant) h.filled in
    record {
      filled = all_push (has new) cell cells (ap is_some u.changed) (all_other (has old) (has new) cell cells other (λ x d. ap is_some (u.others x d)) h.filled);
      apart = push_apart cell cells other h.apart;
      whole = omega (arith, len, h.whole, length_push cell cells);
    }

-- one less
pub removed_list : (old new : Slab PendingFetch) (cells : List ℕ) (i : ℕ) → i < length cells → IsInCells old cells → Updates old new (get_or cells i 0) None →
    fetches_at new (take i cells ++ drop (i + 1) cells) ≡ take i (fetches_at old cells) ++ drop (i + 1) (fetches_at old cells)
removed_list old new cells i l h u =
    let P : List ℕ → Type 0 = λ w. IsOther (get_or cells i 0) w in
    let other = subst P (sym (cut_is cells i)) (cut_without cells i l h.apart) in
    map_other (fetch_of_cell old) (fetch_of_cell new) (get_or cells i 0) (take i cells ++ drop (i + 1) cells) other (λ x d. ap fetch_in (u.others x d))
    ∙ map_cut (fetch_of_cell old) cells i (i + 1)

pub removed : (old new : Slab PendingFetch) (cells : List ℕ) (i : ℕ) → i < length cells → IsInCells old cells → Updates old new (get_or cells i 0) None → slab_len new + 1 ≡ slab_len old →
    IsInCells new (take i cells ++ drop (i + 1) cells)
removed old new cells i l h u len =
    let P : List ℕ → Type 0 = λ w. IsInCells new w in
    subst P (sym (cut_is cells i)) (record {
      filled = all_other (has old) (has new) (get_or cells i 0) (cut i cells) (cut_without cells i l h.apart) (λ x d. ap is_some (u.others x d)) (all_cut (has old) cells i h.filled);
      apart = cut_apart cells i h.apart;
      whole = omega (arith, len, h.whole, length_cut cells i l);
    })

-- one changed
count_set : (slots : List (Option PendingFetch)) (cell : ℕ) (f : PendingFetch) → is_some (get_or slots cell None) ≡ true → count_by is_some (set slots cell (Some f)) ≡ count_by is_some slots
count_set [] cell f h = absurd cc
count_set (None ∷ rest) zero f h = absurd cc
count_set (Some g ∷ rest) zero f h = omega (arith, sum_by-cons (λ o. cond (is_some o) 1 0) (Some f) rest, sum_by-cons (λ o. cond (is_some o) 1 0) (Some g) rest)
count_set (o ∷ rest) (suc cell) f h =
    omega (arith, count_set rest cell f h, sum_by-cons (λ o. cond (is_some o) 1 0) o (set rest cell (Some f)), sum_by-cons (λ o. cond (is_some o) 1 0) o rest)

pub changed_list : (slab : Slab PendingFetch) (cells : List ℕ) (i : ℕ) (f : PendingFetch) → i < length cells → IsInCells slab cells →
    fetches_at (with_value slab (get_or cells i 0) f) cells ≡ set (fetches_at slab cells) i f
changed_list slab cells i f l h =
    let u = Updates-with_value slab (get_or cells i 0) f (occupied slab cells i l h) in
    map_set (fetch_of_cell slab) (fetch_of_cell (with_value slab (get_or cells i 0) f)) cells i f l h.apart (ap fetch_in u.changed) (λ x d. ap fetch_in (u.others x d))

pub changed_cells : (slab : Slab PendingFetch) (cells : List ℕ) (i : ℕ) (f : PendingFetch) → i < length cells → IsInCells slab cells →
    IsInCells (with_value slab (get_or cells i 0) f) cells
changed_cells slab cells i f l h =
    let u = Updates-with_value slab (get_or cells i 0) f (occupied slab cells i l h) in
    record {
      filled = all_still (has slab) (has (with_value slab (get_or cells i 0) f)) cells
          (λ x t. elim (cases_eq x (get_or cells i 0)) [
            | inl same ↦ ap is_some (ap (get (with_value slab (get_or cells i 0) f)) same ∙ u.changed)
            | inr d ↦ ap is_some (u.others x d) ∙ t
          ])
          h.filled;
      apart = h.apart;
      whole = count_set slab.slots (get_or cells i 0) f (filled_at (has slab) cells i l h.filled) ∙ h.whole;
    }

pub no_cells : (slab : Slab PendingFetch) (cells : List ℕ) → slab.slots ≡ [] → cells ≡ [] → IsInCells slab cells
unfolding IsDistinct
no_cells slab cells e f =
    let P : List ℕ → Type 0 = λ l. IsInCells slab l in
    subst P (sym f) (record { filled = refl; apart = tt; whole = ap (count_by is_some) e })

-- more room in the slab changes no cell
pub same_cells : (old new : Slab PendingFetch) (cells more : List ℕ) → new.slots ≡ old.slots → more ≡ cells → IsInCells old cells → IsInCells new more
same_cells old new cells more s e h =
    let P : List ℕ → Type 0 = λ l. IsInCells new l in
    subst P (sym e) (record {
      filled = ap (λ slots. list_all (λ cell. is_some (get_or slots cell None)) cells) s ∙ h.filled;
      apart = h.apart;
      whole = ap (count_by is_some) s ∙ h.whole;
    })

pub same_list : (old new : Slab PendingFetch) (cells more : List ℕ) → new.slots ≡ old.slots → more ≡ cells → fetches_at new more ≡ fetches_at old cells
same_list old new cells more s e = ap (fetches_at new) e ∙ ap (λ slots. map (λ cell. fetch_in (get_or slots cell None)) cells) s

-- the same at the cell that the code read, and at the list as contracts see it
within : (slab : Slab PendingFetch) (cells : List ℕ) (i : ℕ) (v : List PendingFetch) → fetches_at slab cells ≡ v → i < length v → i < length cells
within slab cells i v e l = omega (arith, l, ap length e, length_fetches slab cells)

cell_is : (cells : List ℕ) (cell i : ℕ) → i < length cells → cell ≡ get_or cells i cell → cell ≡ get_or cells i 0
cell_is cells cell i l e = e ∙ get_or_default cells i cell 0 l

pub occupied_at : (slab : Slab PendingFetch) (cells : List ℕ) (cell i : ℕ) (v : List PendingFetch) → fetches_at slab cells ≡ v → IsInCells slab cells → i < length v → cell ≡ get_or cells i cell → ContainsKey slab cell
occupied_at slab cells cell i v e h l is =
    let inside = within slab cells i v e l in
    let P : ℕ → Type 0 = λ k. ContainsKey slab k in
    subst P (sym (cell_is cells cell i inside is)) (occupied slab cells i inside h)

pub read_at : (slab : Slab PendingFetch) (cells : List ℕ) (cell i : ℕ) (f : PendingFetch) (v : List PendingFetch) → fetches_at slab cells ≡ v → i < length v → cell ≡ get_or cells i cell → get slab cell ≡ Some f →
    f ≡ get_or v i nothing
read_at slab cells cell i f v e l is found =
    let inside = within slab cells i v e l in
    fetch_read slab cells i f inside (ap (get slab) (sym (cell_is cells cell i inside is)) ∙ found) ∙ ap (λ w. get_or w i nothing) e

pub changed_at : (change : PendingFetch → PendingFetch) (slab : Slab PendingFetch) (cells : List ℕ) (cell i : ℕ) (f g : PendingFetch) (v : List PendingFetch) → fetches_at slab cells ≡ v → IsInCells slab cells →
    i < length v → cell ≡ get_or cells i cell → get slab cell ≡ Some f → g ≡ change f → fetches_at (with_value slab cell g) cells ≡ set v i (change (get_or v i nothing))
changed_at change slab cells cell i f g v e h l is found new =
    let inside = within slab cells i v e l in
    ap (λ k. fetches_at (with_value slab k g) cells) (cell_is cells cell i inside is) ∙ changed_list slab cells i g inside h ∙ ap (λ w. set w i g) e
    ∙ ap (set v i) (new ∙ ap change (read_at slab cells cell i f v e l is found))

pub changed_in : (slab : Slab PendingFetch) (cells : List ℕ) (cell i : ℕ) (g : PendingFetch) (v : List PendingFetch) → fetches_at slab cells ≡ v → IsInCells slab cells → i < length v → cell ≡ get_or cells i cell →
    IsInCells (with_value slab cell g) cells
changed_in slab cells cell i g v e h l is =
    let inside = within slab cells i v e l in
    let P : ℕ → Type 0 = λ k. IsInCells (with_value slab k g) cells in
    subst P (sym (cell_is cells cell i inside is)) (changed_cells slab cells i g inside h)

-- one more, after room was made for it
pub pushed_in : (old room new : Slab PendingFetch) (cells kept more : List ℕ) (cell : ℕ) (f : PendingFetch) → IsInCells old cells → room.slots ≡ old.slots → kept ≡ cells → get room cell ≡ None → Updates room new cell (Some f) →
    slab_len new ≡ slab_len room + 1 → more ≡ kept ++ cell ∷ [] → IsInCells new more
pushed_in old room new cells kept more cell f h s e vacant u len is =
    let P : List ℕ → Type 0 = λ l. IsInCells new l in
    subst P (sym is) (pushed room new kept cell f (same_cells old room cells kept s e h) vacant u len)

pub pushed_at : (old room new : Slab PendingFetch) (cells kept more : List ℕ) (cell : ℕ) (f : PendingFetch) (v : List PendingFetch) → fetches_at old cells ≡ v → IsInCells old cells → room.slots ≡ old.slots → kept ≡ cells →
    get room cell ≡ None → Updates room new cell (Some f) → more ≡ kept ++ cell ∷ [] → fetches_at new more ≡ v ++ f ∷ []
pushed_at old room new cells kept more cell f v view h s e vacant u is =
    ap (fetches_at new) is ∙ pushed_list room new kept cell f (same_cells old room cells kept s e h) vacant u
    ∙ ap (λ l. l ++ f ∷ []) (same_list old room cells kept s e ∙ view)

pub removed_in : (slab new : Slab PendingFetch) (cells more : List ℕ) (cell i : ℕ) (v : List PendingFetch) → fetches_at slab cells ≡ v → IsInCells slab cells → i < length v → cell ≡ get_or cells i cell →
    Updates slab new cell None → slab_len new + 1 ≡ slab_len slab → more ≡ take i cells ++ drop (i + 1) cells → IsInCells new more
removed_in slab new cells more cell i v e h l is u len left =
    let inside = within slab cells i v e l in
    let P : ℕ → Type 0 = λ k. Updates slab new k None in
    let Q : List ℕ → Type 0 = λ w. IsInCells new w in
    subst Q (sym left) (removed slab new cells i inside h (subst P (cell_is cells cell i inside is) u) len)

pub removed_at : (slab new : Slab PendingFetch) (cells more : List ℕ) (cell i : ℕ) (v : List PendingFetch) → fetches_at slab cells ≡ v → IsInCells slab cells → i < length v → cell ≡ get_or cells i cell →
    Updates slab new cell None → more ≡ take i cells ++ drop (i + 1) cells → fetches_at new more ≡ take i v ++ drop (i + 1) v
removed_at slab new cells more cell i v e h l is u left =
    let inside = within slab cells i v e l in
    let P : ℕ → Type 0 = λ k. Updates slab new k None in
    ap (fetches_at new) left ∙ removed_list slab new cells i inside h (subst P (cell_is cells cell i inside is) u) ∙ ap (λ w. take i w ++ drop (i + 1) w) e
