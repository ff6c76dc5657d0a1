-- The invariant of the node, and other definitions for private contracts; no public contract uses these.
use Rattle.std.specs.Prelude.{◌≡◌, ℕ, nat_le, ◌&&◌, Bool, true, false, List, [], Option, Some, None, if◌then◌else◌}
use Rattle.std.specs.List.{list_all}
use Rattle.neighbours.specs.declared.neighbour.Neighbour.{Neighbour}
use Rattle.peer_select.specs.Poll.{matches}
use Rattle.pending_fetch.specs.Fetches.{PendingFetch}
use Rattle.neighbours.specs.declared.fault.ConfigFault.{ConfigFault}
use Rattle.neighbours.specs.declared.fault.ConfigFault.TheVariants as table
use Rattle.node_words.specs.declared.action.Action.{Action}
use Rattle.plain_node.specs.declared.config.NodeFault.{NodeFault}
use Rattle.plain_node.specs.declared.config.NodeFault.TheVariants.{Table, Limits, NoMemory}
use Rattle.plain_node.specs.PlainNode.{PlainNode}
use Rattle.plain_node.specs.Requests.{looked_up, queries, join_step}

-- whether a fetch's round matches these neighbours, and started no later than the clock
abbrev pub is_of : List Neighbour → ℕ → PendingFetch → Bool
is_of neighbours clock fetch = matches neighbours fetch.round.peers && nat_le fetch.round.start clock

-- each pending round matches the table's neighbours, and started no later than the clock
abbrev pub IsFitting : PlainNode → Type 0
IsFitting node = list_all (is_of node.rows.neighbours node.clock) node.fetches.list ≡ true

-- the node after a lookup of the key in its store, if the fetch is shared
abbrev pub asked : PlainNode → List ℕ → Bool → PlainNode
asked node key true = looked_up node key
asked node key false = node

-- the queries for a fetch with this number: none if it is private
abbrev pub asking : PlainNode → ℕ → List ℕ → Bool → List Action
asking node number key true = queries node number key
asking node number key false = []

-- a client joins the fetch with this number, if there is one
abbrev pub joining : PlainNode → ℕ → Option ℕ → PlainNode × List Action
joining node client None = (node, [])
joining node client (Some number) = join_step node client number

-- the error of creating a node whose table failed: running out of memory ranks below limits out of range
abbrev pub fault_after : ConfigFault → Bool → NodeFault
fault_after table.NoMemory fit = if fit then NoMemory else Limits
fault_after table.Count fit = Table table.Count
fault_after table.DoubleAddress fit = Table table.DoubleAddress
fault_after table.Weight fit = Table table.Weight
fault_after table.KeyName fit = Table table.KeyName
