-- What a round caches beside its replies, so that no call searches them.
use Rattle.std.specs.Prelude.{◌≡◌, ℕ, ◌+◌, Bool, not, ◌==◌, ◌&&◌, List, [], ◌∷◌, Option, if◌then◌else◌}
use Rattle.std.specs.Int.{bit_at}
use Rattle.peer_select.specs.declared.reply.Peer.{Peer}
use Rattle.peer_select.specs.declared.reply.Reply.{Reply}
use Rattle.peer_select.specs.declared.reply.Source.{Source}
use Rattle.peer_select.specs.declared.reply.Source.TheVariants as source
use Rattle.peer_select.specs.declared.set.PeerSet.{PeerSet}
use Rattle.peer_select.specs.Poll.{Poll, has_reply}
use Rattle.peer_select.specs.Choice.{is_parent, is_at, peer_at, has_refused, hit_of, parent_of}

-- whether the set contains an index
abbrev pub has : PeerSet → ℕ → Bool
has set n = bit_at set.bits n == 1

-- the cached fields are right: first Hit, best parent, and which peers were up, have replied, and replied Refused
pub record IsKept (hit parent : Option Reply) (up replied refused : PeerSet) (poll : Poll) : Type 0 where
  pub hit_is : hit ≡ hit_of poll.replies
  pub parent_is : parent ≡ parent_of poll.peers poll.replies
  pub up_is : (n : ℕ) → has up n ≡ (peer_at poll.peers n).up
  pub replied_is : (n : ℕ) → has replied n ≡ has_reply poll.replies n
  pub refused_is : (n : ℕ) → has refused n ≡ has_refused poll.replies n

-- the remaining parents, computed from the set of peers that replied Refused
abbrev pub is_left_by : PeerSet → Option Reply → Option Reply → ℕ → Peer → Bool
is_left_by refused hit parent n peer = is_parent peer.role && (not (is_at hit n) && (not (is_at parent n) && not (has refused n)))

abbrev pub left_by : PeerSet → Option Reply → Option Reply → ℕ → List Peer → List Source
left_by refused hit parent n [] = []
left_by refused hit parent n (peer ∷ peers) =
    if is_left_by refused hit parent n peer then source.Peer n ∷ left_by refused hit parent (n + 1) peers
    else left_by refused hit parent (n + 1) peers
