use Rattle.std.proofs.Common.{◌≡◌, take}
use Rattle.pending_fetch.proofs.fetch_slab.FetchSlab.copy.Given as goal

abbrev pub invariant-loop-place : goal.invariant-loop-place
invariant-loop-place l = l.copy ≡ take l.place l.self
