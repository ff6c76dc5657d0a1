use Rattle.std.proofs.Common.{◌≡◌, ◌++◌, ◌≤◌, length}
use Rattle.object_store.proofs.pairs.newest_pairs.Given as goal

-- the pairs shared so far, followed by the others
abbrev pub invariant-newest : goal.invariant-newest
invariant-newest l = record {
  pairs : l.newest.items ++ l.rest ≡ l.pairs.entries;
  few : length l.newest.items ≤ l.most;
}

abbrev pub decreases-newest : goal.decreases-newest
decreases-newest l = length l.rest
