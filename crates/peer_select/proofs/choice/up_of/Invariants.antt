use Rattle.std.proofs.Common.{◌≡◌, ℕ, ◌&&◌, nat_lt}
use Rattle.peer_select.specs.Choice.{peer_at}
use Rattle.peer_select.specs.Kept.{has}
use Rattle.peer_select.proofs.choice.up_of.Given as goal

-- the peers before n
abbrev pub invariant-loop-n : goal.invariant-loop-n
invariant-loop-n l = (k : ℕ) → has l.up k ≡ (nat_lt k l.n && (peer_at l.peers k).up)
