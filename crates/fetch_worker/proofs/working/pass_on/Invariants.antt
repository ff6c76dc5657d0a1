use Rattle.std.proofs.Common.{◌≡◌, take, filter}
use Rattle.plain_node.specs.Memory.{is_no_send}
use Rattle.node_book.specs.Told.{passing}
use Rattle.fetch_worker.proofs.working.pass_on.Given as goal

abbrev pub invariant-loop-action : goal.invariant-loop-action
invariant-loop-action g l =
    (g.C.Clerk.told l.clerk ≡ passing (filter is_no_send (take l.action-index l.actions)) (g.C.Clerk.told l.fn.clerk))
    × (g.C.Clerk.taken l.clerk ≡ g.C.Clerk.taken l.fn.clerk)
