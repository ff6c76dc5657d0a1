use Rattle.std.proofs.Common.{◌≡◌, ◌++◌, ◌-◌, ◌^◌, length}
use Rattle.object_store.proofs.pairs.copy_pairs.Given as goal

-- the pairs not copied yet, followed by those copied
abbrev pub invariant-least : goal.invariant-least
invariant-least l = record {
  pairs : l.rest ++ l.copy.entries ≡ l.pairs.entries;
  cap : l.copy.cap ≡ 2 ^ 64 - 1;
}

abbrev pub decreases-least : goal.decreases-least
decreases-least l = length l.rest
