-- The sources of a fetch once its round is decided: the round's list, one attempt after the other.
use Rattle.std.specs.Prelude.{ℕ, Bool, true, false, List, [], ◌∷◌, Option, Some, None, option_map, unwrap_or, slice_get, if◌then◌else◌}
use Rattle.neighbours.specs.declared.neighbour.Neighbour.{Neighbour}
use Rattle.neighbours.specs.declared.neighbour.Role.{Role}
use Rattle.neighbours.specs.declared.neighbour.Role.TheVariants.{Sibling, Parent}
use Rattle.peer_select.specs.declared.reply.Source.{Source}
use Rattle.peer_select.specs.declared.reply.Source.TheVariants.{Peer, Origin}
use Rattle.peer_select.specs.Poll.{decided}
use Rattle.peer_select.specs.Choice.{sources}
use Rattle.pending_fetch.specs.Fetches.{PendingFetch}
use Rattle.node_words.specs.declared.action.Action.{Action}
use Rattle.node_words.specs.declared.action.Action.TheVariants.{Fetch}
use Rattle.node_words.specs.declared.action.Answer.TheVariants.{Fail}
use Rattle.plain_node.specs.PlainNode.{PlainNode, closed, serves}

abbrev pub is_sibling : Role → Bool
is_sibling Sibling = true
is_sibling Parent = false

-- whether the neighbour with index n is a sibling
abbrev pub is_sibling_at : List Neighbour → ℕ → Bool
is_sibling_at neighbours n = unwrap_or (option_map (λ (neighbour : Neighbour). is_sibling neighbour.kind) (slice_get neighbours n)) false

-- whether a source is a sibling, which is asked only for stored objects
abbrev pub is_sibling_source : List Neighbour → Source → Bool
is_sibling_source neighbours (Peer n) = is_sibling_at neighbours n
is_sibling_source neighbours Origin = false

-- the source of a fetch's current attempt: the entry of the round's list with that index
abbrev pub source_of : PlainNode → PendingFetch → Option Source
source_of node fetch = slice_get (sources fetch.round node.settings.origin) fetch.attempt

-- the attempt is started at its source; without one the fetch is closed, and its waiters are answered with this status in the
-- order of joining
unfoldable pub attempt_step : PlainNode → ℕ → PendingFetch → Option Source → PlainNode × List Action
attempt_step node status fetch (Some source) =
    (node, Fetch fetch.number fetch.attempt source (is_sibling_source node.rows.neighbours source) fetch.owner ∷ [])
attempt_step node status fetch None = (closed node fetch.number, serves (Fail status) fetch.waiters)

-- an undecided fetch keeps waiting; a decided one starts its first attempt, or answers 503 if it has no source at all
unfoldable pub decision_step : PlainNode → PendingFetch → PlainNode × List Action
decision_step node fetch = if decided fetch.round then attempt_step node 503 fetch (source_of node fetch) else (node, [])
