-- The effect of a fetch's attempt, given its source.
use Rattle.std.proofs.Common.{◌≡◌, ℕ, List, [], ◌∷◌, ◌++◌, Option, Some, None, option_map, ap, sym, ◌∙◌}
use Rattle.peer_select.specs.declared.reply.Source.{Source}
use Rattle.pending_fetch.specs.Fetches.{PendingFetch}
use Rattle.node_words.specs.declared.action.Action.{Action}
use Rattle.node_words.specs.declared.action.Action.TheVariants.{Fetch}
use Rattle.plain_node.specs.PlainNode.{PlainNode, closed}
use Rattle.plain_node.specs.Sources.{attempt_step, is_sibling_source}
use Rattle.plain_node.proofs.Lent.{some_is}

-- it has a source, and goes to it
pub went : (node : PlainNode) (status number : ℕ) (f : PendingFetch) (source : Option Source) (action : Action) (before after : List Action) → f.number ≡ number → Some action ≡ option_map (λ (s : Source). Fetch number f.attempt s (is_sibling_source node.rows.neighbours s) f.owner) source → after ≡ before ++ action ∷ [] → after ≡ before ++ (attempt_step node status f source).1
unfolding attempt_step
went node status number f None action before after n e p = absurd cc
went node status number f (Some s) action before after n e p =
    p ∙ ap (λ x. before ++ x ∷ []) (some_is action (Fetch number f.attempt s (is_sibling_source node.rows.neighbours s) f.owner) e) ∙ ap (λ m. before ++ Fetch m f.attempt s (is_sibling_source node.rows.neighbours s) f.owner ∷ []) (sym n)

-- it has none, and is closed
pub gave_up : (node after : PlainNode) (status number : ℕ) (f : PendingFetch) (source : Option Source) → f.number ≡ number → None ≡ option_map (λ (s : Source). Fetch number f.attempt s (is_sibling_source node.rows.neighbours s) f.owner) source → after ≡ closed node number → after ≡ (attempt_step node status f source).0
unfolding attempt_step
gave_up node after status number f None n e p = p ∙ ap (closed node) (sym n)
gave_up node after status number f (Some s) n e p = absurd cc
