use Rattle.std.proofs.Common.{◌++◌, ℕ, List, length, take}
use Rattle.std.specs.List.{flat_map}
use Rattle.md5.specs.Md5.{Holds}
use Rattle.object_store.specs.Object.{head_of, spelled_field, spelled_number}
use Rattle.object_store.proofs.digest.add_head.Given as goal

-- the number of fields and the fields so far have been hashed
abbrev pub invariant-loop-field : goal.invariant-loop-field
invariant-loop-field l =
    (m : List ℕ) → Holds l.fn.hasher m
    → Holds l.hasher (m ++ (spelled_number (length l.head) ++ flat_map spelled_field (head_of (take l.field-index l.head))))
