use Rattle.std.proofs.Common.{◌≡◌, ℕ, List, take}
use Rattle.pending_fetch.specs.Fetches.{shared_number}
use Rattle.pending_fetch.specs.Indexes.{number_under}
use Rattle.pending_fetch.proofs.slots.keys_of.Given as goal

abbrev pub invariant-loop-place : goal.invariant-loop-place
invariant-loop-place l = (key : List ℕ) → number_under key l.keys ≡ shared_number key (take l.place l.slots)
