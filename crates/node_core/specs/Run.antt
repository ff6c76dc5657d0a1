-- Runs of the plain node over lists of events.
use Rattle.std.specs.Prelude.{List, [], ◌∷◌, Option, Some, None}
use Rattle.filter_slots.specs.Filters.{Filters}
use Rattle.node_words.specs.declared.action.Action.{Action}
use Rattle.node_words.specs.Happening.{Happening}
use Rattle.plain_node.specs.PlainNode.{PlainNode}
use Rattle.plain_node.specs.Plain.{PlainEvent, plain_step}
use Rattle.node_core.specs.Kept.{kept, kept_places}

-- the node after the events
abbrev pub run_node : PlainNode → List PlainEvent → PlainNode
run_node node [] = node
run_node node (first ∷ events) = run_node (plain_step node first).0 events

-- the actions of each event
abbrev pub run_actions : PlainNode → List PlainEvent → List (List Action)
run_actions node [] = []
run_actions node (first ∷ events) = (plain_step node first).1 ∷ run_actions (plain_step node first).0 events

-- the lists of actions spread over the events: in order at events of which something is kept, empty at the others
abbrev pub laid_out : List (Option PlainEvent) → List (List Action) → List (List Action)
laid_out [] lists = []
laid_out (None ∷ places) lists = [] ∷ laid_out places lists
laid_out (Some event ∷ places) [] = [] ∷ laid_out places []
laid_out (Some event ∷ places) (list ∷ lists) = list ∷ laid_out places lists

-- one list of actions for each event: that of the plain node's run if the event is kept, empty if it is left out
abbrev pub answers : PlainNode → Filters → List Happening → List (List Action)
answers node filters events = laid_out (kept_places filters events) (run_actions node (kept filters events))

-- the node after what is kept of one event
abbrev pub plain_after : PlainNode → Option PlainEvent → PlainNode
plain_after node None = node
plain_after node (Some event) = (plain_step node event).0

-- the actions of what is kept of one event
abbrev pub actions_of : PlainNode → Option PlainEvent → List Action
actions_of node None = []
actions_of node (Some event) = (plain_step node event).1
