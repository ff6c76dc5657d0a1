use Rattle.std.proofs.Common.{◌≡◌}
use Rattle.fetch_worker.proofs.results.submit_failure.Given as goal

abbrev pub invariant-loop-refused : goal.invariant-loop-refused
invariant-loop-refused g l =
    (g.C.Clerk.told l.clerk ≡ g.C.Clerk.told l.fn.clerk)
    × (g.C.Clerk.taken l.clerk ≡ g.C.Clerk.taken l.fn.clerk)
