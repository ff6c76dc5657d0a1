-- Chains of entries in one bucket.
use Rattle.std.proofs.Common.{◌≡◌, ◌≢◌, ℕ, zero, suc, ◌+◌, ◌<◌, ◌≤◌, ◌⊎◌, inl, inr, List, [], ◌∷◌, ◌++◌, length, map, get_or, Option, Some, None, refl, sym, ap, ◌∙◌, subst, arith, rules, length-append}
use Rattle.std.specs.Prelude.{slice_get, slice_set, replicate, IsTrue, false}
use Rattle.std.specs.Option.{option_map}
use Rattle.std.proofs.lemmas.List.{get_or_push, get_or_append_left, get_or-set_same, get_or-set_other}
use Rattle.std.proofs.lemmas.Option.{slice_get_within, slice_get-map, slice_get-get_or}
use Rattle.node_terms.specs.declared.ends.End.{End}
use Rattle.node_terms.specs.declared.ends.Socket.{Socket}
use Rattle.filter_slots.specs.declared.senders.Sender.{Sender}
use Rattle.filter_slots.specs.Filters.{AreNeighbours}
use Rattle.filter_slots.specs.Senders.{pair_of, bucket_of, buckets, IsLast, AreChained}

below_or_at : (m n : ℕ) → m < n + 1 → (m < n) ⊎ (m ≡ n)
below_or_at m n lt = grind arith

-- appending an element keeps the earlier ones
slice_get-before : {A : Type 0} (xs : List A) (x : A) (m : ℕ) → m < length xs → slice_get (xs ++ x ∷ []) m ≡ slice_get xs m
slice_get-before [] x m lt = absurd (omega arith)
slice_get-before (y ∷ xs) x zero lt = refl
slice_get-before (y ∷ xs) x (suc m) lt = slice_get-before xs x m (omega arith)

-- and puts it last
slice_get-last : {A : Type 0} (xs : List A) (x : A) → slice_get (xs ++ x ∷ []) (length xs) ≡ Some x
slice_get-last [] x = refl
slice_get-last (y ∷ xs) x = slice_get-last xs x

map-push : {A B : Type 0} (f : A → B) (xs : List A) (x : A) → map f (xs ++ x ∷ []) ≡ map f xs ++ f x ∷ []
map-push f [] x = refl
map-push f (y ∷ xs) x = ap (λ ys. f y ∷ ys) (map-push f xs x)

length-map' : {A B : Type 0} (f : A → B) (xs : List A) → length (map f xs) ≡ length xs
length-map' f [] = refl
length-map' f (x ∷ xs) = ap suc (length-map' f xs)

-- the bucket of an entry
bucket_at : (senders : List Sender) (n : ℕ) (sender : Sender) → slice_get senders n ≡ Some sender → get_or (buckets senders) n 256 ≡ bucket_of sender.end
bucket_at [] n sender is = let no : ⊥ = cc in absurd no
bucket_at (x ∷ senders) zero sender is = let e : x ≡ sender = cc in ap (λ (s : Sender). bucket_of s.end) e
bucket_at (x ∷ senders) (suc n) sender is = bucket_at senders n sender is

-- the bucket of an entry with this pair
pub bucket_at_pair : (senders : List Sender) (n : ℕ) (pair : Socket × End) → slice_get (map pair_of senders) n ≡ Some pair → get_or (buckets senders) n 256 ≡ bucket_of pair.1
bucket_at_pair [] n pair is = let no : ⊥ = cc in absurd no
bucket_at_pair (x ∷ senders) zero pair is = let e : pair_of x ≡ pair = cc in ap (λ (p : Socket × End). bucket_of p.1) e
bucket_at_pair (x ∷ senders) (suc n) pair is = bucket_at_pair senders n pair is

-- a new entry does not change the last one before a limit
last-longer : (xs : List ℕ) (x limit bucket : ℕ) (link : Option ℕ) → limit ≤ length xs → IsLast xs limit bucket link → IsLast (xs ++ x ∷ []) limit bucket link
last-longer xs x limit bucket None fits last =
    λ m before is. last m before (sym (get_or_append_left xs (x ∷ []) 256 m (omega arith)) ∙ is)
last-longer xs x limit bucket (Some n) fits last = (
  last.0,
  get_or_append_left xs (x ∷ []) 256 n (let lt = last.0 in omega arith) ∙ last.1,
  λ m after before is. last.2 m after before (sym (get_or_append_left xs (x ∷ []) 256 m (omega arith)) ∙ is),
)

-- a new entry of another bucket does not change the last one of this bucket
last-other : (xs : List ℕ) (x bucket : ℕ) (link : Option ℕ) → x ≢ bucket → IsLast xs (length xs) bucket link → IsLast (xs ++ x ∷ []) (length xs + 1) bucket link
last-other xs x bucket None differs last =
    λ m before is. elim (below_or_at m (length xs) before) [
      | inl lt ↦ last m lt (sym (get_or_append_left xs (x ∷ []) 256 m lt) ∙ is)
      | inr e ↦ differs (sym (get_or_push xs x 256 m (sym e)) ∙ is)
    ]
last-other xs x bucket (Some n) differs last = (
  (let lt = last.0 in omega arith),
  get_or_append_left xs (x ∷ []) 256 n last.0 ∙ last.1,
  λ m after before is. elim (below_or_at m (length xs) before) [
    | inl lt ↦ last.2 m after lt (sym (get_or_append_left xs (x ∷ []) 256 m lt) ∙ is)
    | inr e ↦ differs (sym (get_or_push xs x 256 m (sym e)) ∙ is)
  ],
)

-- a new entry is the last one of its bucket
last-same : (xs : List ℕ) (x n : ℕ) → n ≡ length xs → IsLast (xs ++ x ∷ []) (length xs + 1) x (Some n)
last-same xs x n e = (omega arith, get_or_push xs x 256 n (sym e), λ m after before is. omega arith)

-- the appended element
pushed : {A : Type 0} (xs : List A) (x y : A) (n : ℕ) → n ≡ length xs → slice_get (xs ++ x ∷ []) n ≡ Some y → y ≡ x
pushed xs x y n e at = let q = sym at ∙ ap (slice_get (xs ++ x ∷ [])) e ∙ slice_get-last xs x in cc

-- an earlier element
kept_at : {A : Type 0} (xs : List A) (x y : A) (n : ℕ) → n < length xs → slice_get (xs ++ x ∷ []) n ≡ Some y → slice_get xs n ≡ Some y
kept_at xs x y n lt at = sym (slice_get-before xs x n lt) ∙ at

-- an index of the longer list is an earlier index or the new one
index_in_appended : {A : Type 0} (xs : List A) (x y : A) (n : ℕ) → slice_get (xs ++ x ∷ []) n ≡ Some y → (n < length xs) ⊎ (n ≡ length xs)
index_in_appended xs x y n at =
    let below = slice_get_within (xs ++ x ∷ []) n y at in
    let lt : n < length xs + 1 = rw (sym (length-append xs (x ∷ []))) below in
    below_or_at n (length xs) lt

apart-push : (pairs : List (Socket × End)) (pair : Socket × End) → ((n : ℕ) → slice_get pairs n ≡ Some pair → ⊥) → AreNeighbours pairs
    → (m n : ℕ) (p : Socket × End) → slice_get (pairs ++ pair ∷ []) m ≡ Some p → slice_get (pairs ++ pair ∷ []) n ≡ Some p → m ≡ n
apart-push pairs pair absent old m n p at_m at_n = elim (index_in_appended pairs pair p m at_m) [
  | inl m_in ↦ (elim (index_in_appended pairs pair p n at_n) [
    | inl n_in ↦ old.apart m n p (kept_at pairs pair p m m_in at_m) (kept_at pairs pair p n n_in at_n)
    | inr n_is ↦ absurd (absent m (kept_at pairs pair p m m_in at_m ∙ ap Some (pushed pairs pair p n n_is at_n)))
  ])
  | inr m_is ↦ (elim (index_in_appended pairs pair p n at_n) [
    | inl n_in ↦ absurd (absent n (kept_at pairs pair p n n_in at_n ∙ ap Some (pushed pairs pair p m m_is at_m)))
    | inr n_is ↦ m_is ∙ sym n_is
  ])
]

-- a new neighbour that the list does not have
neighbours-push : (pairs : List (Socket × End)) (pair : Socket × End) → length pairs < 64 → ((n : ℕ) → slice_get pairs n ≡ Some pair → ⊥) → AreNeighbours pairs → AreNeighbours (pairs ++ pair ∷ [])
neighbours-push pairs pair room absent old = record {
  few = rw (length-append pairs (pair ∷ [])) (omega arith);
  apart = apart-push pairs pair absent old;
}

-- a neighbour cannot be added twice
pub repeated : (pairs : List (Socket × End)) (pair : Socket × End) (n : ℕ) → slice_get pairs n ≡ Some pair → AreNeighbours (pairs ++ pair ∷ []) → ⊥
repeated pairs pair n at all =
    let lt = slice_get_within pairs n pair at in
    let e : n ≡ length pairs = all.apart n (length pairs) pair (slice_get-before pairs pair n lt ∙ at) (slice_get-last pairs pair) in
    omega arith

pub too_many : (pairs : List (Socket × End)) (pair : Socket × End) → 64 ≤ length pairs → AreNeighbours (pairs ++ pair ∷ []) → ⊥
too_many pairs pair full all = let few = all.few in let fits = rw (length-append pairs (pair ∷ [])) at few in omega arith

lasts-push : (senders : List Sender) (last : List (Option ℕ)) (sender : Sender) (n : ℕ) → length last ≡ 256 → n ≡ length senders → AreChained senders last
    → (bucket : ℕ) → bucket < 256 → IsLast (buckets senders ++ bucket_of sender.end ∷ []) (length (buckets senders) + 1) bucket (get_or (slice_set last (bucket_of sender.end) (Some n)) bucket None)
lasts-push senders last sender n long is old bucket lt =
    let here : ℕ = bucket_of sender.end in
    let cases : (here ≡ bucket) ⊎ (here ≢ bucket) = grind arith in
    let count = length-map' (λ (s : Sender). bucket_of s.end) senders in
    elim cases [
      | inl e ↦
          subst (λ b. IsLast (buckets senders ++ here ∷ []) (length (buckets senders) + 1) b (get_or (slice_set last here (Some n)) b None)) e
          (subst (IsLast (buckets senders ++ here ∷ []) (length (buckets senders) + 1) here)
          (sym (get_or-set_same last here (Some n) None (omega arith))) (last-same (buckets senders) here n (is ∙ sym count)))
      | inr differs ↦
          subst (IsLast (buckets senders ++ here ∷ []) (length (buckets senders) + 1) bucket)
          (sym (get_or-set_other last here bucket (Some n) None (λ e. differs (sym e))))
          (last-other (buckets senders) here bucket _ differs
          (subst (λ k. IsLast (buckets senders) k bucket (get_or last bucket None)) (sym count) (old.lasts bucket lt)))
    ]

befores-push : (senders : List Sender) (last : List (Option ℕ)) (sender : Sender) → bucket_of sender.end < 256 → sender.before ≡ get_or last (bucket_of sender.end) None → AreChained senders last
    → (n : ℕ) (one : Sender) → slice_get (senders ++ sender ∷ []) n ≡ Some one → IsLast (buckets senders ++ bucket_of sender.end ∷ []) n (bucket_of one.end) one.before
befores-push senders last sender within is old n one at =
    let here : ℕ = bucket_of sender.end in
    let count = length-map' (λ (s : Sender). bucket_of s.end) senders in
    elim (index_in_appended senders sender one n at) [
      | inl inside ↦ last-longer (buckets senders) here n (bucket_of one.end) one.before (omega arith) (old.befores n one (kept_at senders sender one n inside at))
      | inr e ↦
          subst (λ (s : Sender). IsLast (buckets senders ++ here ∷ []) n (bucket_of s.end) s.before) (sym (pushed senders sender one n e at))
          (last-longer (buckets senders) here n here sender.before (omega arith)
          (subst (IsLast (buckets senders) n here) (sym is) (subst (λ k. IsLast (buckets senders) k here (get_or last here None)) (sym e) (old.lasts here within))))
    ]

-- one more sender, at the end of its bucket's chain
chained-pushed : (senders : List Sender) (last : List (Option ℕ)) (sender : Sender) (n : ℕ) → length last ≡ 256 → bucket_of sender.end < 256
    → sender.before ≡ get_or last (bucket_of sender.end) None → n ≡ length senders → length senders < 64
    → ((m : ℕ) → slice_get (map pair_of senders) m ≡ Some (pair_of sender) → ⊥) → AreChained senders last
    → AreChained (senders ++ sender ∷ []) (slice_set last (bucket_of sender.end) (Some n))
chained-pushed senders last sender n long within before is room absent old =
    let bucket : Sender → ℕ = λ s. bucket_of s.end in
    let more : buckets (senders ++ sender ∷ []) ≡ buckets senders ++ bucket_of sender.end ∷ [] = map-push bucket senders sender in
    let count : length (senders ++ sender ∷ []) ≡ length (buckets senders) + 1 = length-append senders (sender ∷ []) ∙ ap (λ k. k + 1) (sym (length-map' bucket senders)) in
    record {
      neighbours =
          subst AreNeighbours (sym (map-push pair_of senders sender))
          (neighbours-push (map pair_of senders) (pair_of sender) (rw (length-map' pair_of senders) room) absent old.neighbours);
      lasts = λ b lt. rw (more, count) (lasts-push senders last sender n long is old b lt);
      befores = λ m one at. rw more (befores-push senders last sender within before old m one at);
    }

-- the same, with the values given by equations
pub chained-push : (senders after : List Sender) (pairs : List (Socket × End)) (last : List (Option ℕ)) (sender : Sender) (bucket n : ℕ)
    → after ≡ senders ++ sender ∷ [] → pairs ≡ map pair_of senders → bucket ≡ bucket_of sender.end
    → length last ≡ 256 → bucket < 256 → sender.before ≡ get_or last bucket None → n ≡ length senders → length pairs < 64
    → ((m : ℕ) → slice_get pairs m ≡ Some (pair_of sender) → ⊥) → AreChained senders last
    → AreChained after (slice_set last bucket (Some n))
chained-push senders after pairs last sender bucket n e f g long within before is room absent old =
    rw (e, g)
    (chained-pushed senders last sender n long (rw g at within) (rw g at before) is
    (rw (f, length-map' pair_of senders) at room) (λ m at. absent m (ap (λ ps. slice_get ps m) f ∙ at)) old)

get_or-none : (n b : ℕ) → get_or (replicate {A = Option ℕ} n None) b None ≡ None
get_or-none zero b = refl
get_or-none (suc n) zero = refl
get_or-none (suc n) (suc b) = get_or-none n b

-- no senders
pub chained-none : (senders : List Sender) (last : List (Option ℕ)) → senders ≡ [] → last ≡ replicate 256 None → AreChained senders last
chained-none senders last e f =
    rw (e, f)
    (record {
      neighbours = record { few = omega arith; apart = λ m n p at_m at_n. let no : ⊥ = cc in absurd no };
      lasts = λ bucket lt. subst (IsLast [] 0 bucket) (sym (get_or-none 256 bucket)) (λ m before is. omega arith);
      befores = λ n sender at. let no : ⊥ = cc in absurd no;
    })

-- a pair that is not the last entry of its bucket is before it
pub later-step : (senders : List Sender) (limit n : ℕ) (pair : Socket × End) → ((m : ℕ) → slice_get (map pair_of senders) m ≡ Some pair → m < limit)
    → IsLast (buckets senders) limit (bucket_of pair.1) (Some n) → (slice_get (map pair_of senders) n ≡ Some pair → ⊥)
    → (m : ℕ) → slice_get (map pair_of senders) m ≡ Some pair → m < n
later-step senders limit n pair later last differs m at =
    let cases : (m < n) ⊎ ((m ≡ n) ⊎ (n < m)) = grind arith in
    elim cases [
      | inl lt ↦ lt
      | inr rest ↦ (elim rest [
        | inl e ↦ absurd (differs (ap (slice_get (map pair_of senders)) (sym e) ∙ at))
        | inr gt ↦ absurd (last.2 m gt (later m at) (bucket_at_pair senders m pair at))
      ])
    ]

-- and the link of that entry leads to the last one before it
pub last-step : (senders : List Sender) (last : List (Option ℕ)) (limit n bucket : ℕ) (sender : Sender) → AreChained senders last
    → slice_get senders n ≡ Some sender → IsLast (buckets senders) limit bucket (Some n) → IsLast (buckets senders) n bucket sender.before
last-step senders last limit n bucket sender chained at is =
    subst (λ b. IsLast (buckets senders) n b sender.before) (sym (bucket_at senders n sender at) ∙ is.1) (chained.befores n sender at)

-- the pair of an entry
pub pair_at : (senders : List Sender) (n : ℕ) (sender : Sender) → slice_get senders n ≡ Some sender → slice_get (map pair_of senders) n ≡ Some (pair_of sender)
pair_at senders n sender at = slice_get-map pair_of senders n ∙ ap (option_map pair_of) at

some-injective : {A : Type 0} (x y : A) → Some x ≡ Some y → x ≡ y
some-injective x y e = cc

-- a step along a chain: the link of an entry leads to the last one before it
pub walk-last : (senders seen : List Sender) (last : List (Option ℕ)) (limit n bucket : ℕ) (link : Option ℕ) (d : Sender) → AreChained senders last
    → seen ≡ senders → limit ≤ length senders → link ≡ Some n → IsLast (buckets senders) limit bucket link → IsLast (buckets senders) n bucket (get_or seen n d).before
walk-last senders seen last limit n bucket link d chained e within f is =
    let at_some : IsLast (buckets senders) limit bucket (Some n) = subst (IsLast (buckets senders) limit bucket) f is in
    let lt = at_some.0 in
    let at : slice_get senders n ≡ Some (get_or seen n d) = slice_get-get_or senders n d (omega arith) ∙ ap (λ (xs : List Sender). Some (get_or xs n d)) (sym e) in
    last-step senders last limit n bucket (get_or seen n d) chained at at_some

-- and a pair that is not this entry is before it
pub walk-later : (senders seen : List Sender) (limit n : ℕ) (pair : Socket × End) (link : Option ℕ) (d : Sender)
    → seen ≡ senders → limit ≤ length senders → link ≡ Some n → IsLast (buckets senders) limit (bucket_of pair.1) link → (pair_of (get_or seen n d) ≡ pair → IsTrue false)
    → ((m : ℕ) → slice_get (map pair_of senders) m ≡ Some pair → m < limit)
    → (m : ℕ) → slice_get (map pair_of senders) m ≡ Some pair → m < n
walk-later senders seen limit n pair link d e within f is differs later =
    let at_some : IsLast (buckets senders) limit (bucket_of pair.1) (Some n) = subst (IsLast (buckets senders) limit (bucket_of pair.1)) f is in
    let lt = at_some.0 in
    let at : slice_get senders n ≡ Some (get_or seen n d) = slice_get-get_or senders n d (omega arith) ∙ ap (λ (xs : List Sender). Some (get_or xs n d)) (sym e) in
    later-step senders limit n pair later at_some (λ is_there. let q = sym (pair_at senders n (get_or seen n d) at) ∙ is_there in let no = differs (some-injective (pair_of (get_or seen n d)) pair q) in cc)

-- the indices of a chain are in range
pub walk-within : (bs : List ℕ) (limit n bucket : ℕ) (link : Option ℕ) → link ≡ Some n → IsLast bs limit bucket link → n < limit
walk-within bs limit n bucket link f is =
    let at_some : IsLast bs limit bucket (Some n) = subst (IsLast bs limit bucket) f is in at_some.0

-- if the chain ends, the table does not have the pair
pub walk-end : (senders : List Sender) (limit : ℕ) (pair : Socket × End) (link : Option ℕ) → link ≡ None → IsLast (buckets senders) limit (bucket_of pair.1) link
    → ((m : ℕ) → slice_get (map pair_of senders) m ≡ Some pair → m < limit)
    → (m : ℕ) → slice_get (map pair_of senders) m ≡ Some pair → ⊥
walk-end senders limit pair link f is later m at =
    let at_none : IsLast (buckets senders) limit (bucket_of pair.1) None = subst (IsLast (buckets senders) limit (bucket_of pair.1)) f is in
    at_none m (later m at) (bucket_at_pair senders m pair at)

-- an upper bound of the remaining steps
abbrev pub places_left : Option ℕ → ℕ
places_left None = 0
places_left (Some n) = n + 1

-- it decreases
walk-fewer : (bs : List ℕ) (n bucket : ℕ) (link : Option ℕ) → IsLast bs n bucket link → places_left link < n + 1
walk-fewer bs n bucket None is = omega arith
walk-fewer bs n bucket (Some m) is = let lt = is.0 in omega arith

pub walk-smaller : (bs : List ℕ) (n bucket : ℕ) (link next : Option ℕ) → link ≡ Some n → IsLast bs n bucket next → places_left next < places_left link
walk-smaller bs n bucket link next f is = rw f (walk-fewer bs n bucket next is)

-- an empty bucket has no pair
pub empty-bucket : (senders : List Sender) (last : List (Option ℕ)) (pair : Socket × End) (link : Option ℕ) → AreChained senders last
    → bucket_of pair.1 < 256 → get_or last (bucket_of pair.1) None ≡ link → link ≡ None
    → (m : ℕ) → slice_get (map pair_of senders) m ≡ Some pair → ⊥
empty-bucket senders last pair link chained within there none m at =
    walk-end senders (length senders) pair (get_or last (bucket_of pair.1) None) (there ∙ none) (chained.lasts (bucket_of pair.1) within)
    (λ k is. let below = slice_get_within (map pair_of senders) k pair is in rw (length-map' pair_of senders) at below) m at
