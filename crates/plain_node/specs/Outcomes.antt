-- Outcomes of fetches: an object is served to all waiters and may be stored; after a failure the next source is tried.
use Rattle.std.specs.Prelude.{ℕ, ◌==◌, nat_lt, nat_le, ◌&&◌, Bool, false, List, [], Option, Some, None, if◌then◌else◌}
use Rattle.neighbours.specs.declared.neighbour.Neighbour.{Neighbour}
use Rattle.object_store.specs.declared.entry.Entry.{Entry}
use Rattle.object_store.specs.Object.{ObjectFields}
use Rattle.object_store.specs.Pairs.{size_of}
use Rattle.object_store.specs.Store.{StoreState, after_put}
use Rattle.peer_select.specs.declared.reply.Source.{Source}
use Rattle.peer_select.specs.Poll.{decided}
use Rattle.pending_fetch.specs.Fetches.{PendingFetch, is_shared, fetch_of, changed, with_next}
use Rattle.node_words.specs.declared.action.Action.{Action}
use Rattle.node_words.specs.declared.action.Answer.TheVariants.{Got}
use Rattle.node_words.specs.declared.event.Outcome.{Outcome}
use Rattle.node_words.specs.declared.event.Outcome.TheVariants.{Object, Failed}
use Rattle.plain_node.specs.PlainNode.{PlainNode, with_fetches, closed, serves}
use Rattle.plain_node.specs.Sources.{is_sibling_source, source_of, attempt_step}

-- the next source is tried; if there is none, the waiters are answered with 502
unfoldable pub next_step : PlainNode → PendingFetch → PlainNode × List Action
next_step node fetch =
    attempt_step (with_fetches node (changed with_next fetch.number node.fetches.list)) 502 (with_next fetch) (source_of node (with_next fetch))

-- the store entry of an object stored at a moment
abbrev pub entry_of : ObjectFields → ℕ → Entry
entry_of object at = record { object = object; at = at }

-- whether an object may be stored: its fetch is shared, its status is 200 and its lifetime is above 0
abbrev pub may_store : PendingFetch → ObjectFields → Bool
may_store fetch object = is_shared fetch && (object.status == 200) && nat_lt 0 object.life

-- the store with the object, unless it is larger than the store
abbrev pub put_in : List ℕ → Entry → StoreState → StoreState
put_in key entry store = if nat_le (size_of key entry) store.most_octets then after_put key entry store else store

-- the node with the object in its store, if it may be stored
abbrev pub stored : PlainNode → PendingFetch → ObjectFields → PlainNode
stored node fetch object =
    if may_store fetch object then record node { store = put_in fetch.key (entry_of object node.clock) node.store } else node

-- the object is stored if it may be, all waiters get it, and the fetch is closed
unfoldable pub got_step : PlainNode → PendingFetch → ObjectFields → PlainNode × List Action
got_step node fetch object = (closed (stored node fetch object) fetch.number, serves (Got object) fetch.waiters)

-- whether the source of the fetch's current attempt is a sibling
abbrev pub is_from_sibling : List Neighbour → Option Source → Bool
is_from_sibling neighbours None = false
is_from_sibling neighbours (Some source) = is_sibling_source neighbours source

-- a sibling's 504 means that it doesn't have the object, and counts as a failure
abbrev pub is_failure : PlainNode → PendingFetch → ObjectFields → Bool
is_failure node fetch object = (object.status == 504) && is_from_sibling node.rows.neighbours (source_of node fetch)

unfoldable pub outcome_step : PlainNode → PendingFetch → Outcome → PlainNode × List Action
outcome_step node fetch Failed = next_step node fetch
outcome_step node fetch (Object object) = if is_failure node fetch object then next_step node fetch else got_step node fetch object

-- an outcome counts only if the fetch's round is decided and the attempt is its current one
abbrev pub counts : PendingFetch → ℕ → Bool
counts fetch attempt = decided fetch.round && (fetch.attempt == attempt)

abbrev pub counted_outcome : PlainNode → ℕ → Outcome → Option PendingFetch → PlainNode × List Action
counted_outcome node attempt outcome None = (node, [])
counted_outcome node attempt outcome (Some fetch) = if counts fetch attempt then outcome_step node fetch outcome else (node, [])

unfoldable pub ended_step : PlainNode → ℕ → ℕ → Outcome → PlainNode × List Action
ended_step node number attempt outcome = counted_outcome node attempt outcome (fetch_of number node.fetches.list)
