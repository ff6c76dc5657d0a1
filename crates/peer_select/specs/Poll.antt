-- A query round as its start, its peers and all replies in order: when it is decided, and the effect of a reply and of a
-- timeout.
use Rattle.std.specs.Prelude.{◌≡◌, ℕ, ◌+◌, ◌≤◌, Bool, true, false, not, nat_lt, nat_eq, ◌==◌, ◌&&◌, ◌||◌, List, [], ◌∷◌, ◌++◌, length, map, if◌then◌else◌}
use Rattle.std.specs.List.{list_any, list_all, IsDistinct}
use Rattle.neighbours.specs.declared.neighbour.Neighbour.{Neighbour}
use Rattle.neighbours.specs.declared.neighbour.Role.{Role}
use Rattle.neighbours.specs.declared.neighbour.Role.TheVariants.{Sibling, Parent}
use Rattle.neighbours.specs.Rows.{Rows, mark_at, is_up}
use Rattle.peer_select.specs.declared.reply.Kind.{Kind}
use Rattle.peer_select.specs.declared.reply.Kind.TheVariants.{Hit, Miss, Refused}
use Rattle.peer_select.specs.declared.reply.Peer.{Peer}
use Rattle.peer_select.specs.declared.reply.Reply.{Reply}

-- a round: its start, whether it asked its peers, the peers as of the start, all replies in order, and whether it expired
pub record Poll : Type 0 where
  pub start : ℕ
  pub asked : Bool
  pub peers : List Peer
  pub replies : List Reply
  pub expired : Bool

-- the neighbours of a list as peers; the first has index n in the table
abbrev pub peers_from : Rows → ℕ → List Neighbour → List Peer
peers_from rows n [] = []
peers_from rows n (first ∷ others) =
    record { weight = first.weight; role = first.kind; up = is_up (mark_at rows.marks n) } ∷ peers_from rows (n + 1) others

-- the neighbours of a table as peers
abbrev pub peers_of : Rows → List Peer
peers_of rows = peers_from rows 0 rows.neighbours

-- a new round
abbrev pub begun : Rows → Bool → ℕ → Poll
begun rows asked start = record { start = start; asked = asked; peers = peers_of rows; replies = []; expired = false }

-- whether a reply is a Hit
abbrev pub is_hit : Kind → Bool
is_hit Hit = true
is_hit Miss = false
is_hit Refused = false

-- whether the peer at an index has replied
abbrev pub has_reply : List Reply → ℕ → Bool
has_reply replies n = list_any (λ reply. reply.n == n) replies

-- whether each peer of the list that was up has replied; the first has index n
abbrev pub all_replied : List Reply → ℕ → List Peer → Bool
all_replied replies n [] = true
all_replied replies n (peer ∷ peers) = (not peer.up || has_reply replies n) && all_replied replies (n + 1) peers

-- a round is decided if it asked nobody, has expired, has a Hit, or each peer that was up at the start has replied
abbrev pub decided : Poll → Bool
decided poll =
    not poll.asked || (poll.expired || (list_any (λ reply. is_hit reply.kind) poll.replies || all_replied poll.replies 0 poll.peers))

-- adds a reply if the round is undecided and has none of this peer; otherwise unchanged
abbrev pub reply_added : Poll → Reply → Poll
reply_added poll reply =
    if decided poll || has_reply poll.replies reply.n then poll
    else record poll { replies = poll.replies ++ reply ∷ [] }

-- expires an undecided round; a decided one is unchanged
abbrev pub ended : Poll → Poll
ended poll = if decided poll then poll else record poll { expired = true }

-- equality of roles
abbrev pub same_role : Role → Role → Bool
same_role Sibling Sibling = true
same_role Sibling Parent = false
same_role Parent Sibling = false
same_role Parent Parent = true

-- whether the peers of a round have the roles and weights of these neighbours
abbrev pub matches : List Neighbour → List Peer → Bool
matches [] [] = true
matches [] (peer ∷ peers) = false
matches (neighbour ∷ neighbours) [] = false
matches (neighbour ∷ neighbours) (peer ∷ peers) =
    same_role neighbour.kind peer.role && ((neighbour.weight == peer.weight) && matches neighbours peers)

-- the invariant of a round: at most 64 peers, weights above 0, and at most one reply of each peer and of no one else
pub record IsPoll (poll : Poll) : Type 0 where
  pub count : length poll.peers ≤ 64
  pub weights : list_all (λ peer. nat_lt 0 peer.weight) poll.peers ≡ true
  pub known : list_all (λ reply. nat_lt reply.n (length poll.peers)) poll.replies ≡ true
  pub once : IsDistinct nat_eq (map (λ reply. reply.n) poll.replies)

-- the representation of a round by two arrays of 64 elements
pub record IsHeld (count len : ℕ) (peers : List Peer) (replies : List Reply) (poll : Poll) : Type 0 where
  pub count_fits : count ≤ 64
  pub len_fits : len ≤ 64
  pub peers_length : length peers ≡ 64
  pub replies_length : length replies ≡ 64
  pub legal : IsPoll poll
