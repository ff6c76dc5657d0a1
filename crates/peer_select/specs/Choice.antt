-- The sources to fetch an object from, one per attempt, as a function of the whole list of replies.
use Rattle.std.specs.Prelude.{◌≡◌, ℕ, ◌+◌, Bool, true, false, not, ◌==◌, ◌&&◌, List, [], ◌∷◌, ◌++◌, filter, find, Contains, Option, Some, None, unwrap_or, slice_get, if◌then◌else◌}
use Rattle.std.specs.List.{list_any}
use Rattle.neighbours.specs.Rank.{before}
use Rattle.neighbours.specs.declared.neighbour.Role.{Role}
use Rattle.neighbours.specs.declared.neighbour.Role.TheVariants.{Sibling, Parent}
use Rattle.neighbours.specs.declared.rank.Ranked.{Ranked}
use Rattle.peer_select.specs.declared.reply.Kind.{Kind}
use Rattle.peer_select.specs.declared.reply.Kind.TheVariants.{Hit, Miss, Refused}
use Rattle.peer_select.specs.declared.reply.Peer.{Peer}
use Rattle.peer_select.specs.declared.reply.Reply.{Reply}
use Rattle.peer_select.specs.declared.reply.Source.{Source}
use Rattle.peer_select.specs.declared.reply.Source.TheVariants as source
use Rattle.peer_select.specs.Poll.{Poll, is_hit}

-- tests of roles and kinds of replies
abbrev pub is_parent : Role → Bool
is_parent Sibling = false
is_parent Parent = true

abbrev pub is_miss : Kind → Bool
is_miss Hit = false
is_miss Miss = true
is_miss Refused = false

abbrev pub is_refused : Kind → Bool
is_refused Hit = false
is_refused Miss = false
is_refused Refused = true

-- the default for an index without a peer
abbrev pub nobody : Peer
nobody = record { weight = 1; role = Sibling; up = false }

-- the peer at an index
abbrev pub peer_at : List Peer → ℕ → Peer
peer_at peers n = unwrap_or (slice_get peers n) nobody

-- index and time of a reply, as the order of peers compares them
abbrev pub ranked : Reply → Ranked
ranked reply = record { n = reply.n; s = reply.s }

-- whether the peer of the first reply precedes that of the second
abbrev pub reply_before : List Peer → Reply → Reply → Bool
reply_before peers a b = before (ranked a) (peer_at peers a.n).weight (ranked b) (peer_at peers b.n).weight

-- whether the reply is the Miss of a parent
abbrev pub is_parent_miss : List Peer → Reply → Bool
is_parent_miss peers reply = is_miss reply.kind && is_parent (peer_at peers reply.n).role

-- the first reply of the list that no other precedes
abbrev pub first_of : (Reply → Reply → Bool) → List Reply → Option Reply
first_of less list = find (λ one. not (list_any (λ other. less other one) list)) list

-- the first Hit
abbrev pub hit_of : List Reply → Option Reply
hit_of replies = find (λ reply. is_hit reply.kind) replies

-- the Miss of the best parent
abbrev pub parent_of : List Peer → List Reply → Option Reply
parent_of peers replies = first_of (reply_before peers) (filter (is_parent_miss peers) replies)

-- whether the reply, if any, is of the peer at this index
abbrev pub is_at : Option Reply → ℕ → Bool
is_at None n = false
is_at (Some reply) n = reply.n == n

-- whether the peer at this index replied Refused
abbrev pub has_refused : List Reply → ℕ → Bool
has_refused replies n = list_any (λ reply. (reply.n == n) && is_refused reply.kind) replies

-- whether the peer at this index is a parent that is neither listed already nor Refused
abbrev pub is_left : List Reply → Option Reply → Option Reply → ℕ → Peer → Bool
is_left replies hit parent n peer =
    is_parent peer.role && (not (is_at hit n) && (not (is_at parent n) && not (has_refused replies n)))

-- the remaining parents of a list of peers whose first has index n, in order
abbrev pub parents_left : List Reply → Option Reply → Option Reply → ℕ → List Peer → List Source
parents_left replies hit parent n [] = []
parents_left replies hit parent n (peer ∷ peers) =
    if is_left replies hit parent n peer then source.Peer n ∷ parents_left replies hit parent (n + 1) peers
    else parents_left replies hit parent (n + 1) peers

-- the peer of the reply, if any
abbrev pub listed : Option Reply → List Source
listed None = []
listed (Some reply) = source.Peer reply.n ∷ []

-- the origin if it is allowed, otherwise the remaining parents
abbrev pub last_sources : Poll → Option Reply → Option Reply → Bool → List Source
last_sources poll hit parent true = source.Origin ∷ []
last_sources poll hit parent false = parents_left poll.replies hit parent 0 poll.peers

-- the sources, given the first Hit and the best parent
abbrev pub sources_by : Poll → Option Reply → Option Reply → Bool → List Source
sources_by poll hit parent origin = listed hit ++ (listed parent ++ last_sources poll hit parent origin)

-- all sources in order: the peer of the first Hit, the best parent with a Miss, then the origin or the remaining parents
abbrev pub sources : Poll → Bool → List Source
sources poll origin = sources_by poll (hit_of poll.replies) (parent_of poll.peers poll.replies) origin

-- p is the Miss of a parent, and no other parent with a Miss precedes it
pub record IsFirstParent (poll : Poll) (p : Reply) : Type 0 where
  pub listed : Contains poll.replies p
  pub parent : is_parent_miss poll.peers p ≡ true
  pub unbeaten : (q : Reply) → Contains poll.replies q → is_parent_miss poll.peers q ≡ true → reply_before poll.peers q p ≡ false
