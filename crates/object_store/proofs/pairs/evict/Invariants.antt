use Rattle.std.proofs.Common.{◌≡◌, length}
use Rattle.object_store.specs.Pairs.{cut, total_size}
use Rattle.object_store.proofs.pairs.evict.Given as goal

-- cutting what is left gives the same prefix, and the sum is its total size
abbrev pub invariant-full : goal.invariant-full
invariant-full l = record {
  cut : cut l.most_entries l.most_octets l.pairs.entries ≡ cut l.most_entries l.most_octets l.fn.pairs.entries;
  sum : l.rest ≡ total_size l.pairs.entries;
  cap : l.pairs.cap ≡ l.fn.pairs.cap;
}

abbrev pub decreases-full : goal.decreases-full
decreases-full l = length l.pairs.entries
