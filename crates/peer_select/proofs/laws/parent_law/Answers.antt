use Rattle.std.proofs.Common.{◌≡◌, ℕ, ◌≤◌, ◌*◌, if◌then◌else◌, Bool, true, false, not, List, [], ◌∷◌, refl, ap, sym, ◌∙◌, arith, nat_eq, Some, None, inl, inr, Contains, eq-eqb}
use Rattle.std.specs.List.{list_any, IsDistinct, AllByRecursion, filter, find, fold}
use Rattle.std.proofs.lemmas.Map.Keys.{IsDistinct-head, IsDistinct-tail}
use Rattle.neighbours.specs.Rank.{before}
use Rattle.neighbours.specs.declared.rank.Ranked.{Ranked}
use Rattle.peer_select.specs.declared.reply.Reply.{Reply}
use Rattle.peer_select.specs.Poll.{Poll, IsPoll}
use Rattle.peer_select.specs.Choice.{first_of, parent_of, is_parent_miss, reply_before, ranked, peer_at, IsFirstParent}
use Rattle.peer_select.specs.Best.{better}
use Rattle.peer_select.proofs.Firsts.{IsOrder, first_of-fold}
use Rattle.peer_select.proofs.Orders.{order_of}
use Rattle.peer_select.proofs.Polls.{places}
use Rattle.peer_select.proofs.Members.{contains_cases, contains_none, finds, keeps, kept_is, passes_none, none_passes, found_is}
use Rattle.peer_select.proofs.laws.parent_law.Goals as goal

apart : (n : ℕ) (xs : List Reply) → AllByRecursion (λ y. nat_eq n y ≡ false) (places xs) → (b : Reply) → Contains xs b → nat_eq n b.n ≡ false
apart n [] h b k = absurd (contains_none b k)
apart n (x ∷ xs) h b k = elim (contains_cases x xs b k) [ inl e ↦ ap (λ (r : Reply). nat_eq n r.n) (sym e) ∙ h.0 | inr m ↦ apart n xs h.1 b m ]

-- two replies of one peer are equal
same_place : (xs : List Reply) (p b : Reply) → IsDistinct nat_eq (places xs) → Contains xs p → Contains xs b → p.n ≡ b.n → p ≡ b
same_place [] p b h k m e = absurd (contains_none p k)
same_place (x ∷ xs) p b h k m e =
    let head : AllByRecursion (λ y. nat_eq x.n y ≡ false) (places xs) = IsDistinct-head nat_eq x.n (places xs) h in
    elim (contains_cases x xs p k) [
      | inl xp ↦ elim (contains_cases x xs b m) [
        | inl xb ↦ sym xp ∙ xb
        | inr mb ↦ absurd (let off : nat_eq x.n b.n ≡ false = apart x.n xs head b mb in let on : nat_eq x.n b.n ≡ true = eq-eqb x.n b.n (ap (λ (r : Reply). r.n) xp ∙ e) in cc)
      ]
      | inr mp ↦ elim (contains_cases x xs b m) [
        | inl xb ↦ absurd (let off : nat_eq x.n p.n ≡ false = apart x.n xs head p mp in let on : nat_eq x.n p.n ≡ true = eq-eqb x.n p.n (ap (λ (r : Reply). r.n) xb ∙ sym e) in cc)
        | inr mb ↦ same_place xs p b (IsDistinct-tail nat_eq x.n (places xs) h) mp mb e
      ]
    ]

-- no reply of the list precedes p
abbrev free : (Reply → Reply → Bool) → List Reply → Reply → Bool
free less list p = not (list_any (λ other. less other p) list)

chosen_first : (poll : Poll) (p : Reply) → parent_of poll.peers poll.replies ≡ Some p → IsFirstParent poll p
chosen_first poll p e =
    let misses : List Reply = filter (is_parent_miss poll.peers) poll.replies in
    let found : (free (reply_before poll.peers) misses p ≡ true) × Contains misses p = found_is (free (reply_before poll.peers) misses) misses p e in
    let kept : Contains poll.replies p × (is_parent_miss poll.peers p ≡ true) = kept_is (is_parent_miss poll.peers) poll.replies p found.1 in
    let none : list_any (λ other. reply_before poll.peers other p) misses ≡ false = grind arith in
    record {
      listed = kept.0;
      parent = kept.1;
      unbeaten = λ q m t. none_passes (λ other. reply_before poll.peers other p) misses none q (keeps (is_parent_miss poll.peers) poll.replies q m t);
    }

denied : (a : Ranked) (u : ℕ) (b : Ranked) (v : ℕ) → before a u b v ≡ false → (b.s * u ≤ a.s * v) × (a.s * v ≡ b.s * u → b.n ≤ a.n)
denied a u b v h = (grind arith, grind arith)

-- if neither precedes the other, the peers are equal
one_place : (a : Ranked) (u : ℕ) (b : Ranked) (v : ℕ) → before a u b v ≡ false → before b v a u ≡ false → a.n ≡ b.n
one_place a u b v h k =
    let left : (b.s * u ≤ a.s * v) × (a.s * v ≡ b.s * u → b.n ≤ a.n) = denied a u b v h in
    let right : (a.s * v ≤ b.s * u) × (b.s * u ≡ a.s * v → a.n ≤ b.n) = denied b v a u k in
    let same : a.s * v ≡ b.s * u = omega arith in
    let one : b.n ≤ a.n = left.1 same in
    let two : a.n ≤ b.n = right.1 (sym same) in
    omega arith

first_chosen : (poll : Poll) (p : Reply) → IsPoll poll → IsFirstParent poll p → parent_of poll.peers poll.replies ≡ Some p
first_chosen poll p h first =
    let misses : List Reply = filter (is_parent_miss poll.peers) poll.replies in
    let less : Reply → Reply → Bool = reply_before poll.peers in
    let none : list_any (λ other. less other p) misses ≡ false =
    passes_none (λ other. less other p) misses (λ q m. let kept = kept_is (is_parent_miss poll.peers) poll.replies q m in first.unbeaten q kept.0 kept.1) in
    let found : (b : Reply) × (find (free less misses) misses ≡ Some b) =
    finds (free less misses) misses p (keeps (is_parent_miss poll.peers) poll.replies p first.listed first.parent) (rw none refl) in
    let other : IsFirstParent poll found.0 = chosen_first poll found.0 found.1 in
    let back : less p found.0 ≡ false = other.unbeaten p first.listed first.parent in
    let forth : less found.0 p ≡ false = first.unbeaten found.0 other.listed other.parent in
    let place : p.n ≡ found.0.n = one_place (ranked p) (peer_at poll.peers p.n).weight (ranked found.0) (peer_at poll.peers found.0.n).weight back forth in
    found.1 ∙ ap (λ r. Some r) (sym (same_place poll.replies p found.0 h.once first.listed other.listed place))

some_stays : (less : Reply → Reply → Bool) (rest : List Reply) (b : Reply) → fold (better less) (Some b) rest ≡ None → ⊥
some_stays less [] b e = cc
some_stays less (r ∷ rest) b e =
    elim (less r b) as (λ v. fold (better less) (if v then Some r else Some b) rest ≡ None → ⊥) [
      | true ↦ λ k. some_stays less rest r k
      | false ↦ λ k. some_stays less rest b k
    ] e

none_left : (less : Reply → Reply → Bool) → IsOrder less → (xs : List Reply) → first_of less xs ≡ None → xs ≡ []
none_left less order [] e = refl
none_left less order (x ∷ xs) e = absurd (some_stays less xs x (first_of-fold less order (x ∷ xs) ∙ e))

pub returns : goal.returns
returns c = record {
  some = λ poll p h. (chosen_first poll p, first_chosen poll p h);
  none = λ poll h e. none_left (reply_before poll.peers)
      (order_of poll.peers h.weights c.one_way_law.ensures c.through_law.ensures)
      (filter (is_parent_miss poll.peers) poll.replies) e;
}
