use Rattle.std.proofs.Common.{◌≡◌, ℕ, ◌+◌, ◌<◌, ◌≤◌, length, map, Option, Some, None}
use Rattle.std.specs.Prelude.{slice_get}
use Rattle.filter_slots.specs.Senders.{pair_of, bucket_of, buckets, IsLast}
use Rattle.filter_slots.proofs.Chains.{places_left}
use Rattle.filter_slots.proofs.senders.Senders.follow.Given as goal

-- no entry from the limit on has the pair, and the link leads to the last entry of its bucket before the limit
abbrev pub invariant-loop-link : goal.invariant-loop-link
invariant-loop-link l = record {
  limit : ℕ;
  within : limit ≤ length l.self-inside.all.items;
  later : (m : ℕ) → slice_get (map pair_of l.self-inside.all.items) m ≡ Some (l.socket, l.end) → m < limit;
  last : IsLast (buckets l.self-inside.all.items) limit (bucket_of l.end) l.link;
}

abbrev pub decreases-loop-link : goal.decreases-loop-link
decreases-loop-link l = places_left l.link
