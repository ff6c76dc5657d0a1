-- Ticks: rounds that started at least 2,000 ms ago expire, and each neighbour that didn't reply gets a miss.
use Rattle.std.specs.Prelude.{ℕ, ◌+◌, List, [], ◌∷◌, Option, Some, None, if◌then◌else◌}
use Rattle.neighbours.specs.declared.table.Mark.{Mark}
use Rattle.neighbours.specs.Rows.{missed}
use Rattle.peer_select.specs.declared.reply.Reply.{Reply}
use Rattle.peer_select.specs.Poll.{has_reply}
use Rattle.pending_fetch.specs.Fetches.{PendingFetch, fetch_of, changed, with_end, all_due}
use Rattle.node_words.specs.declared.action.Action.{Action}
use Rattle.plain_node.specs.PlainNode.{PlainNode, with_fetches, sending}
use Rattle.plain_node.specs.Sources.{decision_step}

-- the marks from index n on, with a miss added for each peer without a reply
abbrev pub missed_from : List Reply → ℕ → List Mark → List Mark
missed_from replies n [] = []
missed_from replies n (mark ∷ marks) =
    (if has_reply replies n then mark else missed mark) ∷ missed_from replies (n + 1) marks

-- the node with a miss added for each neighbour without a reply
abbrev pub with_misses : PlainNode → List Reply → PlainNode
with_misses node replies = record node { rows = record node.rows { marks = missed_from replies 0 node.rows.marks } }

-- the fetch's round expires, which decides it
unfoldable pub expired_step : PlainNode → Option PendingFetch → PlainNode × List Action
expired_step node None = (node, [])
expired_step node (Some fetch) =
    decision_step (with_fetches (with_misses node fetch.round.replies) (changed with_end fetch.number node.fetches.list)) (with_end fetch)

-- the rounds of these fetches expire, one after the other
abbrev pub expired_steps : PlainNode → List ℕ → PlainNode × List Action
expired_steps node [] = (node, [])
expired_steps node (number ∷ numbers) =
    let first = expired_step node (fetch_of number node.fetches.list) in sending first.1 (expired_steps first.0 numbers)

-- all due rounds expire, in the order of opening
unfoldable pub timer_step : PlainNode → PlainNode × List Action
timer_step node = expired_steps node (all_due node.clock node.fetches.list)
