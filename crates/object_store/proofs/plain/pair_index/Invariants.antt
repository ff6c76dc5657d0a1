use Rattle.std.proofs.Common.{◌≡◌, drop}
use Rattle.object_store.specs.Pairs.{entry_at}
use Rattle.object_store.proofs.plain.pair_index.Given as goal

-- the key is not among the pairs so far
abbrev pub invariant-loop-place : goal.invariant-loop-place
invariant-loop-place l = entry_at l.key (drop l.place l.pairs) ≡ entry_at l.key l.pairs
