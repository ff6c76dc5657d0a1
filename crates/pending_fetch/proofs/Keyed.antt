-- The index by key: how each change of the list affects the fetch number of a key, if no two shared fetches have the same key.
use Rattle.std.proofs.Common.{◌≡◌, ℕ, zero, suc, ◌+◌, ◌<◌, Bool, true, false, not, eqb, List, [], ◌∷◌, ◌++◌, length, take, get_or, refl, ap, sym, ◌∙◌, arith, ◌==◌, ◌||◌, ◌&&◌, if◌then◌else◌, Some, None, Option, is_none}
use Rattle.std.proofs.lemmas.List.{take_more}
use Rattle.std.proofs.lemmas.List.Folds.{list_any-append}
use Rattle.std.specs.Cmp.Lexicographic.{bytes_decides}
use Rattle.std.specs.List.{list_any, find}
use Rattle.std.specs.Option.{option_map}
use Rattle.std.specs.Str.{bytes_eq}
use Rattle.pending_fetch.specs.Fetches.{PendingFetch, is_shared, shares, shared_number, changed}
use Rattle.pending_fetch.specs.Indexes.{is_alone}
use Rattle.pending_fetch.proofs.Words.{find-seam, find-none}

abbrev number_in : Option PendingFetch → Option ℕ
number_in o = option_map (λ (f : PendingFetch). f.number) o

same_key : (a b : List ℕ) → bytes_eq a b ≡ true → a ≡ b
same_key a b h = (bytes_decides a b).0 h

key_same : (a b : List ℕ) → a ≡ b → bytes_eq a b ≡ true
key_same a b e = (bytes_decides a b).1 e

both : (a b : Bool) → (a && b) ≡ true → (a ≡ true) × (b ≡ true)
both true true h = (refl, refl)
both true false h = absurd cc
both false b h = absurd cc

-- two shared fetches with the same key: each has the other's
turned : (x f : PendingFetch) → shares f.key x ≡ true → is_shared f ≡ true → (is_shared x ≡ true) × (shares x.key f ≡ true)
turned x f h s =
    let parts = both (is_shared x) (bytes_eq x.key f.key) h in
    (parts.0, ap (λ v. v && bytes_eq f.key x.key) s ∙ key_same f.key x.key (sym (same_key x.key f.key parts.1)))

any_mid : (t : PendingFetch → Bool) (a : List PendingFetch) (f : PendingFetch) (b : List PendingFetch) → t f ≡ true → list_any t (a ++ f ∷ b) ≡ true
any_mid t [] f b h = rw h refl
any_mid t (x ∷ a) f b h = ap (λ v. t x || v) (any_mid t a f b h) ∙ or_true (t x)
  where
    or_true : (v : Bool) → (v || true) ≡ true
    or_true true = refl
    or_true false = refl

-- parts of a list in which no two shared fetches have the same key
first_alone : (x : PendingFetch) (list : List PendingFetch) → is_alone (x ∷ list) ≡ true → (is_shared x ≡ true → list_any (shares x.key) list ≡ false) × (is_alone list ≡ true)
first_alone x list h =
    let parts = both (not (is_shared x && list_any (shares x.key) list)) (is_alone list) h in
    ((λ s. unmade (is_shared x) (list_any (shares x.key) list) parts.0 s), parts.1)
  where
    unmade : (a b : Bool) → not (a && b) ≡ true → a ≡ true → b ≡ false
    unmade true true h s = absurd cc
    unmade true false h s = refl
    unmade false b h s = absurd cc

alone_made : (x : PendingFetch) (list : List PendingFetch) → (is_shared x ≡ true → list_any (shares x.key) list ≡ false) → is_alone list ≡ true → is_alone (x ∷ list) ≡ true
alone_made x list h k =
    elim (is_shared x) as (λ v. is_shared x ≡ v → (not (v && list_any (shares x.key) list) && is_alone list) ≡ true) [
      | true ↦ λ s. ap (λ v. not v && is_alone list) (h s) ∙ k
      | false ↦ λ s. k
    ] refl

pub alone_front : (a : List PendingFetch) (f : PendingFetch) (b : List PendingFetch) → is_alone (a ++ f ∷ b) ≡ true → is_shared f ≡ true → list_any (shares f.key) a ≡ false
alone_front [] f b h s = refl
alone_front (x ∷ a) f b h s =
    let parts = first_alone x (a ++ f ∷ b) h in
    elim (shares f.key x) as (λ v. shares f.key x ≡ v → (v || list_any (shares f.key) a) ≡ false) [
      | true ↦ λ e.
          let other = turned x f e s in
          let none : list_any (shares x.key) (a ++ f ∷ b) ≡ false = parts.0 other.0 in
          let some : list_any (shares x.key) (a ++ f ∷ b) ≡ true = any_mid (shares x.key) a f b other.1 in
          absurd cc
      | false ↦ λ e. alone_front a f b parts.1 s
    ] refl

pub alone_back : (a : List PendingFetch) (f : PendingFetch) (b : List PendingFetch) → is_alone (a ++ f ∷ b) ≡ true → is_shared f ≡ true → list_any (shares f.key) b ≡ false
alone_back [] f b h s = (first_alone f b h).0 s
alone_back (x ∷ a) f b h s = alone_back a f b (first_alone x (a ++ f ∷ b) h).1 s

any_parts : (t : PendingFetch → Bool) (a : List PendingFetch) (f : PendingFetch) (b : List PendingFetch) → list_any t (a ++ f ∷ b) ≡ false → list_any t (a ++ b) ≡ false
any_parts t [] f b h = or_right (t f) (list_any t b) h
  where
    or_right : (u v : Bool) → (u || v) ≡ false → v ≡ false
    or_right true v h = absurd cc
    or_right false v h = h
any_parts t (x ∷ a) f b h =
    elim (t x) as (λ v. (v || list_any t (a ++ f ∷ b)) ≡ false → (v || list_any t (a ++ b)) ≡ false) [
      | true ↦ λ e. absurd cc
      | false ↦ λ e. any_parts t a f b e
    ] h

pub alone_cut : (a : List PendingFetch) (f : PendingFetch) (b : List PendingFetch) → is_alone (a ++ f ∷ b) ≡ true → is_alone (a ++ b) ≡ true
alone_cut [] f b h = (first_alone f b h).1
alone_cut (x ∷ a) f b h =
    let parts = first_alone x (a ++ f ∷ b) h in
    alone_made x (a ++ b) (λ s. any_parts (shares x.key) a f b (parts.0 s)) (alone_cut a f b parts.1)

pub alone_push : (list : List PendingFetch) (f : PendingFetch) → is_alone list ≡ true → (is_shared f ≡ true → list_any (shares f.key) list ≡ false) → is_alone (list ++ f ∷ []) ≡ true
alone_push [] f h k = alone_made f [] (λ s. refl) refl
alone_push (x ∷ list) f h k =
    let parts = first_alone x list h in
    alone_made x (list ++ f ∷ []) (λ s. none_more s) (alone_push list f parts.1 (λ s. or_right (shares f.key x) (list_any (shares f.key) list) (k s)))
  where
    or_right : (u v : Bool) → (u || v) ≡ false → v ≡ false
    or_right true v h = absurd cc
    or_right false v h = h

    none_more : is_shared x ≡ true → list_any (shares x.key) (list ++ f ∷ []) ≡ false
    none_more s =
        elim (shares x.key f) as (λ v. shares x.key f ≡ v → list_any (shares x.key) (list ++ f ∷ []) ≡ false) [
          | true ↦ λ e.
              let other = turned f x e s in
              let none : list_any (shares f.key) (x ∷ list) ≡ false = k other.0 in
              let some : list_any (shares f.key) (x ∷ list) ≡ true = any_mid (shares f.key) [] x list other.1 in
              absurd cc
          | false ↦ λ e. list_any-append (shares x.key) list (f ∷ []) ∙ ap (λ v. v || (shares x.key f || false)) ((first_alone x list h).0 s) ∙ ap (λ v. v || false) e
        ] refl

alone_take : (list : List PendingFetch) (n : ℕ) → is_alone list ≡ true → is_alone (take n list) ≡ true
alone_take list zero h = refl
alone_take [] (suc n) h = refl
alone_take (x ∷ list) (suc n) h =
    let parts = first_alone x list h in
    alone_made x (take n list) (λ s. any_take (shares x.key) list n (parts.0 s)) (alone_take list n parts.1)
  where
    any_take : (t : PendingFetch → Bool) (l : List PendingFetch) (n : ℕ) → list_any t l ≡ false → list_any t (take n l) ≡ false
    any_take t l zero h = refl
    any_take t [] (suc n) h = refl
    any_take t (y ∷ l) (suc n) h =
        elim (t y) as (λ v. (v || list_any t l) ≡ false → (v || list_any t (take n l)) ≡ false) [
          | true ↦ λ e. absurd cc
          | false ↦ λ e. any_take t l n e
        ] h

-- the number of a key
pub none_shared : (key : List ℕ) (list : List PendingFetch) → shared_number key list ≡ None → list_any (shares key) list ≡ false
none_shared key [] h = refl
none_shared key (x ∷ list) h =
    elim (shares key x) as (λ v. number_in (if v then Some x else find (shares key) list) ≡ None → (v || list_any (shares key) list) ≡ false) [
      | true ↦ λ e. absurd cc
      | false ↦ λ e. none_shared key list e
    ] h

pub shared_none : (key : List ℕ) (list : List PendingFetch) → list_any (shares key) list ≡ false → shared_number key list ≡ None
shared_none key list h = ap number_in (find-none (shares key) list h)

found_last : (t : PendingFetch → Bool) (list : List PendingFetch) (f : PendingFetch) → t f ≡ false → find t (list ++ f ∷ []) ≡ find t list
found_last t [] f h = rw h refl
found_last t (x ∷ list) f h =
    elim (t x) as (λ v. (if v then Some x else find t (list ++ f ∷ [])) ≡ (if v then Some x else find t list)) [
      | true ↦ refl
      | false ↦ found_last t list f h
    ]

found_cut : (t : PendingFetch → Bool) (a : List PendingFetch) (f : PendingFetch) (b : List PendingFetch) → t f ≡ false → find t (a ++ f ∷ b) ≡ find t (a ++ b)
found_cut t [] f b h = rw h refl
found_cut t (x ∷ a) f b h =
    elim (t x) as (λ v. (if v then Some x else find t (a ++ f ∷ b)) ≡ (if v then Some x else find t (a ++ b))) [
      | true ↦ refl
      | false ↦ found_cut t a f b h
    ]

-- a fetch of the key of another that is shared
of_key : (key : List ℕ) (f : PendingFetch) → shares key f ≡ true → (is_shared f ≡ true) × (f.key ≡ key)
of_key key f h = let parts = both (is_shared f) (bytes_eq f.key key) h in (parts.0, same_key f.key key parts.1)

-- one more fetch
pub keyed_push : (list : List PendingFetch) (f : PendingFetch) → (is_shared f ≡ true → list_any (shares f.key) list ≡ false) →
    (key : List ℕ) → (if shares key f then Some f.number else shared_number key list) ≡ shared_number key (list ++ f ∷ [])
keyed_push list f h key =
    elim (shares key f) as (λ v. shares key f ≡ v → (if v then Some f.number else shared_number key list) ≡ shared_number key (list ++ f ∷ [])) [
      | true ↦ λ e.
          let is = of_key key f e in
          let none : list_any (shares key) list ≡ false = sym (ap (λ k. list_any (shares k) list) is.1) ∙ h is.0 in
          sym (ap number_in (find-seam (shares key) list f [] none e))
      | false ↦ λ e. sym (ap number_in (found_last (shares key) list f e))
    ] refl

-- one fetch fewer
pub keyed_cut : (a : List PendingFetch) (f : PendingFetch) (b : List PendingFetch) → is_alone (a ++ f ∷ b) ≡ true →
    (key : List ℕ) → (if shares key f then None else shared_number key (a ++ f ∷ b)) ≡ shared_number key (a ++ b)
keyed_cut a f b h key =
    elim (shares key f) as (λ v. shares key f ≡ v → (if v then None else shared_number key (a ++ f ∷ b)) ≡ shared_number key (a ++ b)) [
      | true ↦ λ e.
          let is = of_key key f e in
          let front : list_any (shares key) a ≡ false = sym (ap (λ k. list_any (shares k) a) is.1) ∙ alone_front a f b h is.0 in
          let back : list_any (shares key) b ≡ false = sym (ap (λ k. list_any (shares k) b) is.1) ∙ alone_back a f b h is.0 in
          sym (shared_none key (a ++ b) (list_any-append (shares key) a b ∙ ap (λ v. v || list_any (shares key) b) front ∙ back))
      | false ↦ λ e. ap number_in (found_cut (shares key) a f b e)
    ] refl

-- a change that keeps number, key and owner
pub record KeepsKey (change : PendingFetch → PendingFetch) : Type 0 where
  pub number : (f : PendingFetch) → (change f).number ≡ f.number
  pub key : (f : PendingFetch) → (change f).key ≡ f.key
  pub owner : (f : PendingFetch) → (change f).owner ≡ f.owner

shares_kept : (change : PendingFetch → PendingFetch) → KeepsKey change → (key : List ℕ) (f : PendingFetch) → shares key (change f) ≡ shares key f
shares_kept change k key f = ap (λ o. is_none o && bytes_eq (change f).key key) (k.owner f) ∙ ap (λ l. is_none f.owner && bytes_eq l key) (k.key f)

pub shared-changed : (change : PendingFetch → PendingFetch) → KeepsKey change → (number : ℕ) (list : List PendingFetch) (key : List ℕ) → shared_number key (changed change number list) ≡ shared_number key list
shared-changed change k number [] key = refl
shared-changed change k number (f ∷ list) key =
    elim (eqb f.number number) as (λ v. shared_number key (if v then change f ∷ list else f ∷ changed change number list) ≡ shared_number key (f ∷ list)) [
      | true ↦
          ap (λ v. number_in (if v then Some (change f) else find (shares key) list)) (shares_kept change k key f)
          ∙ elim (shares key f) as (λ v. number_in (if v then Some (change f) else find (shares key) list) ≡ number_in (if v then Some f else find (shares key) list)) [
            | true ↦ ap (λ n. Some n) (k.number f)
            | false ↦ refl
          ]
      | false ↦ elim (shares key f) as (λ v. number_in (if v then Some f else find (shares key) (changed change number list)) ≡ number_in (if v then Some f else find (shares key) list)) [
        | true ↦ refl
        | false ↦ shared-changed change k number list key
      ]
    ]

any-changed : (change : PendingFetch → PendingFetch) → KeepsKey change → (number : ℕ) (list : List PendingFetch) (key : List ℕ) → list_any (shares key) (changed change number list) ≡ list_any (shares key) list
any-changed change k number [] key = refl
any-changed change k number (f ∷ list) key =
    elim (eqb f.number number) as (λ v. list_any (shares key) (if v then change f ∷ list else f ∷ changed change number list) ≡ (shares key f || list_any (shares key) list)) [
      | true ↦ ap (λ v. v || list_any (shares key) list) (shares_kept change k key f)
      | false ↦ ap (λ v. shares key f || v) (any-changed change k number list key)
    ]

pub alone-changed : (change : PendingFetch → PendingFetch) → KeepsKey change → (number : ℕ) (list : List PendingFetch) → is_alone (changed change number list) ≡ is_alone list
alone-changed change k number [] = refl
alone-changed change k number (f ∷ list) =
    elim (eqb f.number number) as (λ v. is_alone (if v then change f ∷ list else f ∷ changed change number list) ≡ (not (is_shared f && list_any (shares f.key) list) && is_alone list)) [
      | true ↦ ap (λ o. not (is_none o && list_any (shares (change f).key) list) && is_alone list) (k.owner f)
          ∙ ap (λ l. not (is_shared f && list_any (shares l) list) && is_alone list) (k.key f)
      | false ↦ ap (λ v. not (is_shared f && v) && is_alone (changed change number list)) (any-changed change k number list f.key)
          ∙ ap (λ v. not (is_shared f && list_any (shares f.key) list) && v) (alone-changed change k number list)
    ]

-- the next of a list
pub keyed_more : (list : List PendingFetch) (i : ℕ) (f : PendingFetch) → is_alone list ≡ true → i < length list → f ≡ get_or list i f →
    (key : List ℕ) (o : Option ℕ) → o ≡ shared_number key (take i list) → (if shares key f then Some f.number else o) ≡ shared_number key (take (i + 1) list)
keyed_more list i f h l is key o e =
    let more : take (i + 1) list ≡ take i list ++ f ∷ [] = take_more list i f l ∙ ap (λ g. take i list ++ g ∷ []) (sym is) in
    let alone : is_alone (take i list ++ f ∷ []) ≡ true = sym (ap is_alone more) ∙ alone_take list (i + 1) h in
    ap (λ p. if shares key f then Some f.number else p) e
    ∙ keyed_push (take i list) f (λ s. alone_front (take i list) f [] alone s) key ∙ ap (shared_number key) (sym more)
