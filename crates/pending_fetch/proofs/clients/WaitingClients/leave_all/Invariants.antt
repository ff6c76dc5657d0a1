use Rattle.std.proofs.Common.{◌≡◌, ℕ, ◌==◌, None, take, if◌then◌else◌}
use Rattle.std.specs.List.{list_any}
use Rattle.pending_fetch.specs.Indexes.{number_beside}
use Rattle.pending_fetch.proofs.clients.WaitingClients.leave_all.Given as goal

abbrev pub invariant-loop-client : goal.invariant-loop-client
invariant-loop-client l =
    (other : ℕ) → number_beside l.self other ≡ (if list_any (λ waiter. waiter == other) (take l.client-index l.waiters) then None else number_beside l.fn.self other)
