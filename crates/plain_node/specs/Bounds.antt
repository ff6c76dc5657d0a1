-- The limit of the actions of one event. All other definitions cite it.
use Rattle.std.specs.Prelude.{ℕ, ◌+◌}
use Rattle.pending_fetch.specs.Bounds.{most_fetches, most_waiters}

-- the maximum number of actions of one event, 1,344: one for each pending fetch and each waiter, and a query to each of 64
-- neighbours; in code MAX_ACTIONS of src/action.rt
abbrev pub most_actions : ℕ
most_actions = most_fetches + most_waiters + 64
