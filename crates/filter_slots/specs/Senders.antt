-- The hash table that finds neighbours by socket and end. Internal: no public contract refers to this file.
use Rattle.std.specs.Prelude.{◌≡◌, ℕ, ◌+◌, ◌*◌, ◌%◌, ◌<◌, List, [], ◌∷◌, length, map, get_or, slice_get, Option, Some, None}
use Rattle.bpf_check.specs.declared.insn.Insn.{Insn}
use Rattle.node_terms.specs.declared.ends.End.{End}
use Rattle.node_terms.specs.declared.ends.Socket.{Socket}
use Rattle.filter_slots.specs.declared.senders.Sender.{Sender}
use Rattle.filter_slots.specs.Filters.{AreNeighbours, NeighbourSlot}

-- the socket and end of a neighbour
abbrev pub pair_of : Sender → Socket × End
pair_of sender = (sender.socket, sender.end)

-- the bucket of an end, 0 to 255
abbrev pub bucket_of : End → ℕ
bucket_of end = (5 * get_or end.addr 2 0 + get_or end.addr 3 0 + end.port) % 256

-- the buckets of all entries, in order
abbrev pub buckets : List Sender → List ℕ
buckets senders = map (λ sender. bucket_of sender.end) senders

-- the greatest index under `limit` whose entry is in this bucket, or None
abbrev pub IsLast : List ℕ → ℕ → ℕ → Option ℕ → Type 0
IsLast buckets limit bucket None = (m : ℕ) → m < limit → get_or buckets m 256 ≡ bucket → ⊥
IsLast buckets limit bucket (Some n) =
    (n < limit) × (get_or buckets n 256 ≡ bucket) × ((m : ℕ) → n < m → m < limit → get_or buckets m 256 ≡ bucket → ⊥)

-- invariant: `last` has the last index of each bucket, each entry has the previous index of its bucket, and the neighbours
-- can have slots
pub record AreChained (senders : List Sender) (last : List (Option ℕ)) : Type 0 where
  pub neighbours : AreNeighbours (map pair_of senders)
  pub lasts : (bucket : ℕ) → bucket < 256 → IsLast (buckets senders) (length senders) bucket (get_or last bucket None)
  pub befores : (n : ℕ) (sender : Sender) → slice_get senders n ≡ Some sender → IsLast (buckets senders) n (bucket_of sender.end) sender.before

-- the slots of neighbours, each with its program, in order
abbrev pub seated : List (Socket × End) → List (Option (List Insn)) → List NeighbourSlot
seated [] programs = []
seated (pair ∷ pairs) [] = record { socket = pair.0; end = pair.1; program = None } ∷ seated pairs []
seated (pair ∷ pairs) (program ∷ programs) = record { socket = pair.0; end = pair.1; program = program } ∷ seated pairs programs
