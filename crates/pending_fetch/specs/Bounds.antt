-- The limits of pending fetches. All other definitions cite these.
use Rattle.std.specs.Prelude.{ℕ}

-- the maximum number of pending fetches; in code MAX_PENDING_FETCHES of node_terms
abbrev pub most_fetches : ℕ
most_fetches = 256

-- the maximum number of waiting clients, over all fetches; in code MAX_WAITERS of src/bounds.rt
abbrev pub most_waiters : ℕ
most_waiters = 1024
