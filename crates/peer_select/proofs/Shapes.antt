-- Peers that match neighbours.
use Rattle.std.proofs.Common.{◌≡◌, ℕ, ◌+◌, true, List, [], ◌∷◌, length, refl, arith}
use Rattle.neighbours.specs.declared.neighbour.Neighbour.{Neighbour}
use Rattle.neighbours.specs.declared.neighbour.Role.{Role}
use Rattle.neighbours.specs.declared.neighbour.Role.TheVariants.{Sibling, Parent}
use Rattle.neighbours.specs.Rows.{Rows}
use Rattle.peer_select.specs.declared.reply.Peer.{Peer}
use Rattle.peer_select.specs.Poll.{matches, same_role, peers_from}

pub matches_length : (neighbours : List Neighbour) (peers : List Peer) → matches neighbours peers ≡ true → length neighbours ≡ length peers
matches_length [] [] h = refl
matches_length [] (peer ∷ peers) h = absurd cc
matches_length (neighbour ∷ neighbours) [] h = absurd cc
matches_length (neighbour ∷ neighbours) (peer ∷ peers) h =
    let rest : matches neighbours peers ≡ true = grind arith in
    omega (arith, matches_length neighbours peers rest)

same : (role : Role) → same_role role role ≡ true
same Sibling = refl
same Parent = refl

pub matches_begun : (rows : Rows) (n : ℕ) (neighbours : List Neighbour) → matches neighbours (peers_from rows n neighbours) ≡ true
matches_begun rows n [] = refl
matches_begun rows n (first ∷ others) = grind (arith, same first.kind, matches_begun rows (n + 1) others)
