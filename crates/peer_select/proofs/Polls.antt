-- The invariant of a round is kept.
use Rattle.std.proofs.Common.{◌≡◌, ℕ, zero, suc, ◌+◌, ◌<◌, ◌≤◌, Bool, true, false, List, [], ◌∷◌, ◌++◌, length, map, refl, ap, sym, ◌∙◌, arith, nat_lt, nat_eq, ◌||◌, take, drop, set, add-one, slice_get, Some, length-append, append_assoc, subst}
use Rattle.std.specs.List.{list_any, list_all, IsDistinct}
use Rattle.std.specs.Cmp.{nat_eq_equiv}
use Rattle.std.proofs.lemmas.Map.Keys.{IsDistinct-push}
use Rattle.std.proofs.lemmas.Map.Steps.{length-le_from_distinct_below}
use Rattle.std.proofs.lemmas.List.Folds.{list_all-append}
use Rattle.std.proofs.lemmas.List.{length-take-le}
use Rattle.std.proofs.Math.Seq.{take-suc-set}
use Rattle.std.proofs.Math.ListN.{length-set}
use Rattle.neighbours.specs.Rows.{Rows, mark_at, is_up}
use Rattle.neighbours.specs.Faults.{is_weight}
use Rattle.neighbours.specs.declared.neighbour.Neighbour.{Neighbour}
use Rattle.peer_select.specs.declared.reply.Peer.{Peer}
use Rattle.peer_select.specs.declared.reply.Reply.{Reply}
use Rattle.peer_select.specs.Poll.{Poll, IsPoll, IsHeld, peers_of, has_reply, peers_from}

-- the indices of the peers that have replied
abbrev pub places : List Reply → List ℕ
places replies = map (λ reply. reply.n) replies

absent : (replies : List Reply) (n : ℕ) → has_reply replies n ≡ false → list_any (nat_eq n) (places replies) ≡ false
absent [] n h = refl
absent (r ∷ replies) n h =
    let here : nat_eq n r.n ≡ false = nat_eq_equiv.symm n r.n ∙ grind arith in
    let there : has_reply replies n ≡ false = grind arith in
    rw (here, absent replies n there) refl

places-append : (replies : List Reply) (r : Reply) → places (replies ++ r ∷ []) ≡ places replies ++ r.n ∷ []
places-append [] r = refl
places-append (x ∷ replies) r = ap (λ l. x.n ∷ l) (places-append replies r)

below : (replies : List Reply) (count : ℕ) → list_all (λ reply. nat_lt reply.n count) replies ≡ true →
    (q : ℕ) → list_any (nat_eq q) (places replies) ≡ true → q < count
below [] count h q k = absurd (grind arith)
below (r ∷ replies) count h q k =
    let here : r.n < count = grind arith in
    let there : list_all (λ reply. nat_lt reply.n count) replies ≡ true = grind arith in
    elim (nat_eq q r.n) as (λ v. nat_eq q r.n ≡ v → (v || list_any (nat_eq q) (places replies)) ≡ true → q < count) [
      | true ↦ λ e _. grind arith
      | false ↦ λ e m. below replies count there q m
    ] refl k

length-places : (replies : List Reply) → length (places replies) ≡ length replies
length-places [] = refl
length-places (r ∷ replies) = ap suc (length-places replies)

-- one more reply
pub IsPoll-push : (poll : Poll) (r : Reply) → IsPoll poll → r.n < length poll.peers → has_reply poll.replies r.n ≡ false →
    IsPoll (record poll { replies = poll.replies ++ r ∷ [] })
IsPoll-push poll r h known fresh = record {
  count = h.count;
  weights = h.weights;
  known = list_all-append (λ reply. nat_lt reply.n (length poll.peers)) poll.replies (r ∷ []) ∙ grind (arith, h.known);
  once = let P : List ℕ → Type 0 = λ l. IsDistinct nat_eq l in
      subst P (sym (places-append poll.replies r)) (IsDistinct-push nat_eq_equiv (places poll.replies) r.n h.once (absent poll.replies r.n fresh));
}

-- there are no more replies than peers
pub replies_within : (poll : Poll) → IsPoll poll → length poll.replies ≤ length poll.peers
replies_within poll h =
    let few : length (places poll.replies) ≤ length poll.peers =
    length-le_from_distinct_below (places poll.replies) (length poll.peers) h.once (below poll.replies (length poll.peers) h.known) in
    let same : length (places poll.replies) ≡ length poll.replies = length-places poll.replies in
    omega arith

-- there is room for one more
pub room : (poll : Poll) (r : Reply) → IsPoll poll → r.n < length poll.peers → has_reply poll.replies r.n ≡ false → length poll.replies < 64
room poll r h known fresh =
    let more : length (poll.replies ++ r ∷ []) ≤ length poll.peers = replies_within (record poll { replies = poll.replies ++ r ∷ [] }) (IsPoll-push poll r h known fresh) in
    let grown : length (poll.replies ++ r ∷ []) ≡ length poll.replies + 1 = length-append poll.replies (r ∷ []) in
    let count : length poll.peers ≤ 64 = h.count in
    omega arith

pub length-peers_from : (rows : Rows) (n : ℕ) (ns : List Neighbour) → length (peers_from rows n ns) ≡ length ns
length-peers_from rows n [] = refl
length-peers_from rows n (x ∷ ns) = ap suc (length-peers_from rows (n + 1) ns)

pub weights_from : (rows : Rows) (n : ℕ) (ns : List Neighbour) → list_all (λ neighbour. is_weight neighbour.weight) ns ≡ true →
    list_all (λ peer. nat_lt 0 peer.weight) (peers_from rows n ns) ≡ true
weights_from rows n [] h = refl
weights_from rows n (x ∷ ns) h =
    let here : nat_lt 0 x.weight ≡ true = grind arith in
    let there : list_all (λ neighbour. is_weight neighbour.weight) ns ≡ true = grind arith in
    rw (here, weights_from rows (n + 1) ns there) refl

-- a new round
pub IsPoll-begun : (start : ℕ) (asked : Bool) (expired : Bool) (peers : List Peer) → length peers ≤ 64 →
    list_all (λ peer. nat_lt 0 peer.weight) peers ≡ true →
    IsPoll (record { start = start; asked = asked; peers = peers; replies = []; expired = expired })
unfolding IsDistinct
IsPoll-begun start asked expired peers few weights = record { count = few; weights = weights; known = refl; once = tt }

-- the neighbour at an index, and those after it
after_place : (ns : List Neighbour) (n : ℕ) → n < length ns → (x : Neighbour) × (slice_get ns n ≡ Some x) × (drop n ns ≡ x ∷ drop (suc n) ns)
after_place [] n h = absurd (omega arith)
after_place (x ∷ ns) zero h = (x, refl, refl)
after_place (x ∷ ns) (suc n) h = after_place ns n (omega arith)

at_place : (ns : List Neighbour) (n : ℕ) → n < length ns → (x : Neighbour) × (slice_get ns n ≡ Some x) × (drop n ns ≡ x ∷ drop (n + 1) ns)
at_place ns n h = rw add-one (after_place ns n h)

-- a round as represented by its arrays
abbrev pub held : ℕ → Bool → List Peer → List Reply → Bool → Poll
held start asked peers replies expired = record { start = start; asked = asked; peers = peers; replies = replies; expired = expired }

pub taken_more : (replies : List Reply) (len : ℕ) (r : Reply) → len < length replies → take (len + 1) (set replies len r) ≡ take len replies ++ r ∷ []
taken_more replies len r h = rw add-one (take-suc-set replies len r h)

pub held_room : (start : ℕ) (asked expired : Bool) (count len : ℕ) (peers : List Peer) (replies : List Reply) (r : Reply) →
    IsHeld count len peers replies (held start asked (take count peers) (take len replies) expired) →
    r.n < length (take count peers) → has_reply (take len replies) r.n ≡ false → len < 64
held_room start asked expired count len peers replies r h known fresh =
    let below : length (take len replies) < 64 = room (held start asked (take count peers) (take len replies) expired) r h.legal known fresh in
    let fits : len ≤ length replies = omega (arith, h.len_fits, h.replies_length) in
    let same : length (take len replies) ≡ len = length-take-le len replies fits in
    omega arith

pub held_push : (start : ℕ) (asked expired : Bool) (count len : ℕ) (peers : List Peer) (replies : List Reply) (r : Reply) →
    IsHeld count len peers replies (held start asked (take count peers) (take len replies) expired) →
    r.n < length (take count peers) → has_reply (take len replies) r.n ≡ false →
    IsHeld count (len + 1) peers (set replies len r) (held start asked (take count peers) (take (len + 1) (set replies len r)) expired)
held_push start asked expired count len peers replies r h known fresh =
    let below : len < 64 = held_room start asked expired count len peers replies r h known fresh in
    let inside : len < length replies = omega (arith, h.replies_length) in
    let P : List Reply → Type 0 = λ l. IsPoll (held start asked (take count peers) l expired) in
    record {
      count_fits = h.count_fits;
      len_fits = omega arith;
      peers_length = h.peers_length;
      replies_length = length-set replies len r ∙ h.replies_length;
      legal = subst P (sym (taken_more replies len r inside))
          (IsPoll-push (held start asked (take count peers) (take len replies) expired) r h.legal known fresh);
    }

pub held_begun : (rows : Rows) (start : ℕ) (asked expired : Bool) (count : ℕ) (peers : List Peer) (replies : List Reply) →
    count ≡ length rows.neighbours → length rows.neighbours ≤ 64 → length peers ≡ 64 → length replies ≡ 64 →
    take (length rows.neighbours) peers ≡ peers_of rows → list_all (λ neighbour. is_weight neighbour.weight) rows.neighbours ≡ true →
    IsHeld count 0 peers replies (held start asked (take count peers) [] expired)
held_begun rows start asked expired count peers replies e few p q same weights =
    let P : List Peer → Type 0 = λ l. IsPoll (held start asked l [] expired) in
    let long : length (peers_of rows) ≤ 64 = omega (arith, length-peers_from rows 0 rows.neighbours) in
    record {
      count_fits = omega arith;
      len_fits = omega arith;
      peers_length = p;
      replies_length = q;
      legal = subst P (sym (ap (λ k. take k peers) e ∙ same)) (IsPoll-begun start asked expired (peers_of rows) long (weights_from rows 0 rows.neighbours weights));
    }

pub step : (rows : Rows) (n : ℕ) (peers : List Peer) (p : Peer) → n < length rows.neighbours → n < length peers →
    ((x : Neighbour) → slice_get rows.neighbours n ≡ Some x →
    p ≡ record { weight = x.weight; role = x.kind; up = is_up (mark_at rows.marks n) }) →
    take n peers ++ peers_from rows n (drop n rows.neighbours) ≡ peers_of rows →
    take (n + 1) (set peers n p) ++ peers_from rows (n + 1) (drop (n + 1) rows.neighbours) ≡ peers_of rows
step rows n peers p inside room is before =
    let found : (x : Neighbour) × (slice_get rows.neighbours n ≡ Some x) × (drop n rows.neighbours ≡ x ∷ drop (n + 1) rows.neighbours) = at_place rows.neighbours n inside in
    let now : take (n + 1) (set peers n p) ≡ take n peers ++ p ∷ [] = rw add-one (take-suc-set peers n p room) in
    let here : p ≡ record { weight = found.0.weight; role = found.0.kind; up = is_up (mark_at rows.marks n) } = is found.0 found.1 in
    ap (λ l. l ++ peers_from rows (n + 1) (drop (n + 1) rows.neighbours)) now
    ∙ append_assoc (take n peers) (p ∷ []) (peers_from rows (n + 1) (drop (n + 1) rows.neighbours))
    ∙ ap (λ q. take n peers ++ q ∷ peers_from rows (n + 1) (drop (n + 1) rows.neighbours)) here
    ∙ ap (λ l. take n peers ++ peers_from rows n l) (sym found.2)
    ∙ before
