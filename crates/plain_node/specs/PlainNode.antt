-- The state of the node without filters and counters.
use Rattle.std.specs.Prelude.{ℕ, max, List, ◌++◌, map}
use Rattle.neighbours.specs.Rows.{Rows}
use Rattle.object_store.specs.Store.{StoreState}
use Rattle.pending_fetch.specs.Fetches.{PendingFetch, Fetches, without}
use Rattle.node_words.specs.declared.action.Action.{Action}
use Rattle.node_words.specs.declared.action.Action.TheVariants.{Serve}
use Rattle.node_words.specs.declared.action.Answer.{Answer}
use Rattle.plain_node.specs.Settings.{Settings}

-- the settings; the neighbours with their smoothed round-trip times and misses; the store, the most recently used entry
-- first; the pending fetches in the order of opening; and the clock, the latest moment of all events so far, initially 0
pub record PlainNode : Type 0 where
  pub settings : Settings
  pub rows : Rows
  pub store : StoreState
  pub fetches : Fetches
  pub clock : ℕ

-- the node with its clock advanced to `now`, unless `now` is earlier
abbrev pub at_clock : PlainNode → ℕ → PlainNode
at_clock node now = record node { clock = max node.clock now }

-- the node with another list of pending fetches
abbrev pub with_fetches : PlainNode → List PendingFetch → PlainNode
with_fetches node list = record node { fetches = record { last = node.fetches.last; list = list } }

-- the node without the fetch with this number
abbrev pub closed : PlainNode → ℕ → PlainNode
closed node number = with_fetches node (without number node.fetches.list)

-- the same answer to each client, in order
abbrev pub serves : Answer → List ℕ → List Action
serves answer clients = map (λ client. Serve client answer) clients

-- a step with other actions in front of its own
abbrev pub sending : List Action → PlainNode × List Action → PlainNode × List Action
sending before step = (step.0, before ++ step.1)
