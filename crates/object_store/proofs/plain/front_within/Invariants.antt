use Rattle.std.proofs.Common.{◌≡◌, ◌≤◌, ◌-◌, ◌++◌, take, drop}
use Rattle.object_store.specs.Pairs.{cut}
use Rattle.object_store.proofs.plain.front_within.Given as goal

-- the pairs so far are kept, and the rest is cut to the remaining room
abbrev pub invariant-loop-count : goal.invariant-loop-count
invariant-loop-count l = record {
  front : cut l.entries l.octets l.pairs ≡ take l.count l.pairs ++ cut (l.entries - l.count) l.room (drop l.count l.pairs);
  bound : l.room ≤ l.octets;
}
