-- The fetch that a slot in memory represents.
use Rattle.std.specs.Prelude.{ℕ}
use Rattle.pending_fetch.specs.declared.kept.Slot.{Slot}
use Rattle.pending_fetch.specs.Fetches.{PendingFetch}

-- the fetch that a slot holds
abbrev pub as_fetch : Slot → PendingFetch
as_fetch slot =
    record { number = slot.number; key = slot.key; owner = slot.owner; attempt = slot.attempt; round = slot.round; waiters = slot.waiters.items }
