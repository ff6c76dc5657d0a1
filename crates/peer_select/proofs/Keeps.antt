-- The cached fields of a round after a reply, and the results computed from them.
use Rattle.std.proofs.Common.{◌≡◌, ℕ, zero, suc, ◌+◌, ◌<◌, ◌≤◌, Bool, true, false, not, List, [], ◌∷◌, ◌++◌, length, refl, ap, sym, ◌∙◌, subst, arith, nat_eq, nat_lt, ◌==◌, ◌&&◌, ◌||◌, ◌↔◌, IsTrue, Some, None, get_or, if◌then◌else◌, take, set}
use Rattle.std.specs.Prelude.{Option, is_some}
use Rattle.std.specs.Option.{option_or}
use Rattle.std.specs.List.{list_any, list_all, filter, find}
use Rattle.std.proofs.lemmas.List.{append-nil, length-take-le}
use Rattle.std.proofs.lemmas.List.Elements.{filter-append}
use Rattle.std.proofs.lemmas.List.Folds.{find-append, list_any-append}
use Rattle.std.proofs.lemmas.List.Sums.{fold-append}
use Rattle.peer_select.specs.declared.reply.Peer.{Peer}
use Rattle.peer_select.specs.declared.reply.Reply.{Reply}
use Rattle.peer_select.specs.declared.set.PeerSet.{PeerSet}
use Rattle.peer_select.specs.Best.{better}
use Rattle.peer_select.specs.Choice.{first_of, hit_of, parent_of, is_parent_miss, is_refused, reply_before, has_refused, peer_at, parents_left}
use Rattle.peer_select.specs.Kept.{has, IsKept, left_by}
use Rattle.peer_select.specs.Poll.{Poll, IsPoll, IsHeld, is_hit, has_reply, all_replied, decided}
use Rattle.peer_select.proofs.Firsts.{IsOrder, first_of-fold}
use Rattle.peer_select.proofs.Polls.{held, taken_more}

-- ---- one more reply
hit_cases : (hit : Option Reply) (r : Reply) →
    option_or hit (find (λ reply. is_hit reply.kind) (r ∷ [])) ≡ (if is_some hit || not (is_hit r.kind) then hit else Some r)
hit_cases (Some h) r = refl
hit_cases None r = elim (is_hit r.kind) as (λ v. option_or None (if v then Some r else None) ≡ (if false || not v then None else Some r)) [ true ↦ refl | false ↦ refl ]

hit-push : (replies : List Reply) (r : Reply) →
    hit_of (replies ++ r ∷ []) ≡ (if is_some (hit_of replies) || not (is_hit r.kind) then hit_of replies else Some r)
hit-push replies r = find-append (λ reply. is_hit reply.kind) replies (r ∷ []) ∙ hit_cases (hit_of replies) r

first_of-push : (less : Reply → Reply → Bool) → IsOrder less → (xs : List Reply) (r : Reply) → first_of less (xs ++ r ∷ []) ≡ better less (first_of less xs) r
first_of-push less order xs r =
    sym (first_of-fold less order (xs ++ r ∷ []))
    ∙ fold-append (better less) None xs (r ∷ [])
    ∙ ap (λ b. better less b r) (first_of-fold less order xs)

parent-push : (peers : List Peer) (replies : List Reply) (r : Reply) → IsOrder (reply_before peers) →
    parent_of peers (replies ++ r ∷ []) ≡ (if is_parent_miss peers r then better (reply_before peers) (parent_of peers replies) r else parent_of peers replies)
parent-push peers replies r order =
    ap (first_of (reply_before peers)) (filter-append (is_parent_miss peers) replies (r ∷ []))
    ∙ elim (is_parent_miss peers r) as (λ v. first_of (reply_before peers) (filter (is_parent_miss peers) replies ++ (if v then r ∷ [] else [])) ≡ (if v then better (reply_before peers) (parent_of peers replies) r else parent_of peers replies)) [
      | true ↦ first_of-push (reply_before peers) order (filter (is_parent_miss peers) replies) r
      | false ↦ ap (first_of (reply_before peers)) (append-nil (filter (is_parent_miss peers) replies))
    ]

or_last : (a b : Bool) → (a || (b || false)) ≡ (a || b)
or_last true b = refl
or_last false true = refl
or_last false false = refl

or_turned : (a b : Bool) → (a || b) ≡ (b || a)
or_turned true true = refl
or_turned true false = refl
or_turned false true = refl
or_turned false false = refl

has_reply-push : (replies : List Reply) (r : Reply) (n : ℕ) → has_reply (replies ++ r ∷ []) n ≡ (has_reply replies n || (r.n == n))
has_reply-push replies r n = list_any-append (λ reply. reply.n == n) replies (r ∷ []) ∙ or_last (has_reply replies n) (r.n == n)

has_refused-push : (replies : List Reply) (r : Reply) (n : ℕ) → has_refused (replies ++ r ∷ []) n ≡ (has_refused replies n || ((r.n == n) && is_refused r.kind))
has_refused-push replies r n =
    list_any-append (λ reply. (reply.n == n) && is_refused reply.kind) replies (r ∷ []) ∙ or_last (has_refused replies n) ((r.n == n) && is_refused r.kind)

-- the cached fields after one more reply
pub kept_push : (hit parent more best : Option Reply) (up replied refused replied_new refused_new : PeerSet) (poll : Poll) (r : Reply) →
    IsOrder (reply_before poll.peers) → IsKept hit parent up replied refused poll →
    more ≡ (if is_some hit || not (is_hit r.kind) then hit else Some r) →
    best ≡ (if is_parent_miss poll.peers r then better (reply_before poll.peers) parent r else parent) →
    ((n : ℕ) → has replied_new n ≡ (nat_eq r.n n || has replied n)) →
    ((n : ℕ) → has refused_new n ≡ (has refused n || ((r.n == n) && is_refused r.kind))) →
    IsKept more best up replied_new refused_new (record poll { replies = poll.replies ++ r ∷ [] })
kept_push hit parent more best up replied refused replied_new refused_new poll r order h m b p q = record {
  hit_is = m ∙ ap (λ o. if is_some o || not (is_hit r.kind) then o else Some r) h.hit_is ∙ sym (hit-push poll.replies r);
  parent_is = b ∙ ap (λ o. if is_parent_miss poll.peers r then better (reply_before poll.peers) o r else o) h.parent_is ∙ sym (parent-push poll.peers poll.replies r order);
  up_is = h.up_is;
  replied_is = λ n. p n ∙ ap (λ v. nat_eq r.n n || v) (h.replied_is n) ∙ or_turned (nat_eq r.n n) (has_reply poll.replies n) ∙ sym (has_reply-push poll.replies r n);
  refused_is = λ n. q n ∙ ap (λ v. v || ((r.n == n) && is_refused r.kind)) (h.refused_is n) ∙ sym (has_refused-push poll.replies r n);
}

-- ---- whether it is decided
any-find : (replies : List Reply) → is_some (hit_of replies) ≡ list_any (λ reply. is_hit reply.kind) replies
any-find [] = refl
any-find (r ∷ replies) = elim (is_hit r.kind) as (λ v. is_some (if v then Some r else hit_of replies) ≡ (v || list_any (λ reply. is_hit reply.kind) replies)) [ true ↦ refl | false ↦ any-find replies ]

all_from : (replies : List Reply) (n : ℕ) (peers : List Peer) → ((k : ℕ) → (peer_at peers k).up ≡ true → has_reply replies (n + k) ≡ true) → all_replied replies n peers ≡ true
all_from replies n [] h = refl
all_from replies n (peer ∷ peers) h =
    let here : peer.up ≡ true → has_reply replies n ≡ true = λ e. ap (has_reply replies) (omega arith) ∙ h zero e in
    let rest : all_replied replies (n + 1) peers ≡ true = all_from replies (n + 1) peers (λ k e. ap (has_reply replies) (omega arith) ∙ h (suc k) e) in
    elim peer.up as (λ v. (v ≡ true → has_reply replies n ≡ true) → ((not v || has_reply replies n) && all_replied replies (n + 1) peers) ≡ true) [
      | true ↦ λ f. rw (f refl, rest) refl
      | false ↦ λ f. rest
    ] here

from_all : (replies : List Reply) (n : ℕ) (peers : List Peer) → all_replied replies n peers ≡ true → (k : ℕ) → (peer_at peers k).up ≡ true → has_reply replies (n + k) ≡ true
from_all replies n [] h k e = absurd cc
from_all replies n (peer ∷ peers) h zero e =
    let both : ((not true || has_reply replies n) && all_replied replies (n + 1) peers) ≡ true = ap (λ v. (not v || has_reply replies n) && all_replied replies (n + 1) peers) (sym e) ∙ h in
    let here : has_reply replies n ≡ true = grind arith in
    ap (has_reply replies) (omega arith) ∙ here
from_all replies n (peer ∷ peers) h (suc k) e =
    let rest : all_replied replies (n + 1) peers ≡ true = grind arith in
    ap (has_reply replies) (omega arith) ∙ from_all replies (n + 1) peers rest k e

up_inside : (peers : List Peer) (n : ℕ) → (peer_at peers n).up ≡ true → n < length peers
up_inside [] n h = absurd cc
up_inside (peer ∷ peers) zero h = omega arith
up_inside (peer ∷ peers) (suc n) h = let rest : n < length peers = up_inside peers n h in omega arith

-- decided by the sets of peers that were up and that have replied
pub within_is : (hit parent : Option Reply) (up replied refused : PeerSet) (poll : Poll) (within : Bool) → IsPoll poll → IsKept hit parent up replied refused poll →
    IsTrue within ↔ ((n : ℕ) → n < 64 → has up n ≡ true → has replied n ≡ true) → within ≡ all_replied poll.replies 0 poll.peers
within_is hit parent up replied refused poll within legal h w =
    elim within as (λ v. (IsTrue v ↔ ((n : ℕ) → n < 64 → has up n ≡ true → has replied n ≡ true)) → v ≡ all_replied poll.replies 0 poll.peers) [
      | true ↦ λ i. sym (all_from poll.replies 0 poll.peers (λ k e.
          let inside : k < length poll.peers = up_inside poll.peers k e in
          let few : length poll.peers ≤ 64 = legal.count in
          let small : k < 64 = omega arith in
          ap (has_reply poll.replies) (omega arith) ∙ sym (h.replied_is k) ∙ i.0 refl k small (h.up_is k ∙ e)))
      | false ↦ λ i. elim (all_replied poll.replies 0 poll.peers) as (λ v. all_replied poll.replies 0 poll.peers ≡ v → false ≡ v) [
        | true ↦ λ e. i.1 (λ n small u. h.replied_is n ∙ ap (has_reply poll.replies) (omega arith) ∙ from_all poll.replies 0 poll.peers e n (sym (h.up_is n) ∙ u))
        | false ↦ λ e. refl
      ] refl
    ] w

pub hit_found : (hit parent : Option Reply) (up replied refused : PeerSet) (poll : Poll) → IsKept hit parent up replied refused poll →
    is_some hit ≡ list_any (λ reply. is_hit reply.kind) poll.replies
hit_found hit parent up replied refused poll h = ap (λ o. is_some o) h.hit_is ∙ any-find poll.replies

-- ---- whether a peer has replied
none_beyond : (replies : List Reply) (count n : ℕ) → list_all (λ reply. nat_lt reply.n count) replies ≡ true → count ≤ n → has_reply replies n ≡ false
none_beyond [] count n h k = refl
none_beyond (r ∷ replies) count n h k =
    let inside : r.n < count = grind arith in
    let rest : list_all (λ reply. nat_lt reply.n count) replies ≡ true = grind arith in
    let here : nat_eq r.n n ≡ false = grind arith in
    rw (here, none_beyond replies count n rest k) refl

pub beyond : (poll : Poll) (n : ℕ) → IsPoll poll → length poll.peers ≤ n → has_reply poll.replies n ≡ false
beyond poll n legal k = none_beyond poll.replies (length poll.peers) n legal.known k

-- ---- the remaining parents
pub left-is : (refused : PeerSet) (replies : List Reply) (hit parent : Option Reply) → ((n : ℕ) → has refused n ≡ has_refused replies n) →
    (n : ℕ) (peers : List Peer) → left_by refused hit parent n peers ≡ parents_left replies hit parent n peers
left-is refused replies hit parent same n [] = refl
left-is refused replies hit parent same n (peer ∷ peers) =
    rw (same n, left-is refused replies hit parent same (n + 1) peers) refl

-- ---- decided by the cached fields, if it asked and has not expired
pub decided_hit : (hit parent : Option Reply) (up replied refused : PeerSet) (poll : Poll) → IsKept hit parent up replied refused poll →
    is_some hit ≡ true → true ≡ decided poll
decided_hit hit parent up replied refused poll h some =
    let any : list_any (λ reply. is_hit reply.kind) poll.replies ≡ true = sym (hit_found hit parent up replied refused poll h) ∙ some in
    elim poll.asked as (λ a. true ≡ (not a || (poll.expired || (list_any (λ reply. is_hit reply.kind) poll.replies || all_replied poll.replies 0 poll.peers)))) [
      | true ↦ elim poll.expired as (λ e. true ≡ (e || (list_any (λ reply. is_hit reply.kind) poll.replies || all_replied poll.replies 0 poll.peers))) [
        | true ↦ refl
        | false ↦ rw any refl
      ]
      | false ↦ refl
    ]

pub decided_within : (hit parent : Option Reply) (up replied refused : PeerSet) (poll : Poll) (within : Bool) → IsPoll poll → IsKept hit parent up replied refused poll →
    poll.asked ≡ true → poll.expired ≡ false → is_some hit ≡ false →
    IsTrue within ↔ ((n : ℕ) → n < 64 → has up n ≡ true → has replied n ≡ true) → within ≡ decided poll
decided_within hit parent up replied refused poll within legal h asked expired none w =
    let any : list_any (λ reply. is_hit reply.kind) poll.replies ≡ false = sym (hit_found hit parent up replied refused poll h) ∙ none in
    let all : within ≡ all_replied poll.replies 0 poll.peers = within_is hit parent up replied refused poll within legal h w in
    rw (asked, expired, any) all

-- ---- the peers that were up
and_false : (b : Bool) → (b && false) ≡ false
and_false true = refl
and_false false = refl

or_none : (b : Bool) → (b || false) ≡ b
or_none true = refl
or_none false = refl

up_step : (n k : ℕ) (a b : Bool) → (n ≡ k → a ≡ b) → ((nat_lt k n && b) || (nat_eq n k && a)) ≡ (nat_lt k (n + 1) && b)
up_step n k a b same =
    elim (nat_eq n k) as (λ v. nat_eq n k ≡ v → ((nat_lt k n && b) || (v && a)) ≡ (nat_lt k (n + 1) && b)) [
      | true ↦ λ e.
          let one : n ≡ k = grind arith in
          let apart : nat_lt k n ≡ false = grind arith in
          let inside : nat_lt k (n + 1) ≡ true = grind arith in
          rw (apart, inside) (same one)
      | false ↦ λ e. elim (nat_lt k n) as (λ v. nat_lt k n ≡ v → ((v && b) || false) ≡ (nat_lt k (n + 1) && b)) [
        | true ↦ λ l. let inside : nat_lt k (n + 1) ≡ true = grind arith in rw inside (or_none b)
        | false ↦ λ l. let outside : nat_lt k (n + 1) ≡ false = grind arith in rw outside refl
      ] refl
    ] refl

pub up_more : (up more : PeerSet) (peers : List Peer) (n : ℕ) (holds : Bool) → ((k : ℕ) → has up k ≡ (nat_lt k n && (peer_at peers k).up)) →
    ((k : ℕ) → has more k ≡ (has up k || (nat_eq n k && holds))) → holds ≡ (peer_at peers n).up → (k : ℕ) → has more k ≡ (nat_lt k (n + 1) && (peer_at peers k).up)
up_more up more peers n holds before step is k =
    step k ∙ ap (λ v. v || (nat_eq n k && holds)) (before k)
    ∙ up_step n k holds (peer_at peers k).up (λ e. is ∙ ap (λ i. (peer_at peers i).up) e)

pub up_whole : (up : PeerSet) (peers : List Peer) (n : ℕ) → n ≡ length peers → ((k : ℕ) → has up k ≡ (nat_lt k n && (peer_at peers k).up)) → (k : ℕ) → has up k ≡ (peer_at peers k).up
up_whole up peers n all h k =
    h k ∙ elim (peer_at peers k).up as (λ v. (peer_at peers k).up ≡ v → (nat_lt k n && v) ≡ v) [
      | true ↦ λ e. let inside : k < length peers = up_inside peers k e in let small : nat_lt k n ≡ true = grind arith in rw small refl
      | false ↦ λ e. and_false (nat_lt k n)
    ] refl

-- ---- the representation by two arrays
pub held_kept : (start : ℕ) (asked expired : Bool) (count len : ℕ) (peers : List Peer) (replies : List Reply) (r : Reply) (hit parent more best : Option Reply)
    (up replied refused replied_new refused_new : PeerSet) → len < length replies → IsOrder (reply_before (take count peers)) →
    IsKept hit parent up replied refused (held start asked (take count peers) (take len replies) expired) →
    more ≡ (if is_some hit || not (is_hit r.kind) then hit else Some r) →
    best ≡ (if is_parent_miss (take count peers) r then better (reply_before (take count peers)) parent r else parent) →
    ((n : ℕ) → has replied_new n ≡ (nat_eq r.n n || has replied n)) →
    ((n : ℕ) → has refused_new n ≡ (has refused n || ((r.n == n) && is_refused r.kind))) →
    IsKept more best up replied_new refused_new (held start asked (take count peers) (take (len + 1) (set replies len r)) expired)
held_kept start asked expired count len peers replies r hit parent more best up replied refused replied_new refused_new inside order h m b p q =
    let P : List Reply → Type 0 = λ l. IsKept more best up replied_new refused_new (held start asked (take count peers) l expired) in
    subst P (sym (taken_more replies len r inside))
    (kept_push hit parent more best up replied refused replied_new refused_new (held start asked (take count peers) (take len replies) expired) r order h m b p q)

pub beyond_held : (start : ℕ) (asked expired : Bool) (count len : ℕ) (peers : List Peer) (replies : List Reply) (n : ℕ) →
    IsHeld count len peers replies (held start asked (take count peers) (take len replies) expired) → count ≤ n → false ≡ has_reply (take len replies) n
beyond_held start asked expired count len peers replies n h k =
    let fits : count ≤ length peers = omega (arith, h.count_fits, h.peers_length) in
    let long : length (take count peers) ≡ count = length-take-le count peers fits in
    sym (beyond (held start asked (take count peers) (take len replies) expired) n h.legal (omega arith))

pub up_at : (peers : List Peer) (n : ℕ) (d : Peer) → n < length peers → (get_or peers n d).up ≡ (peer_at peers n).up
up_at [] n d h = absurd (omega arith)
up_at (peer ∷ peers) zero d h = refl
up_at (peer ∷ peers) (suc n) d h = up_at peers n d (omega arith)
