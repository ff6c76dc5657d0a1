use Rattle.std.proofs.Common.{◌≡◌, true, ap, sym, ◌∙◌, rules}
use Rattle.pending_fetch.specs.Fetches.{shared_number}
use Rattle.plain_node.specs.PlainNode.{PlainNode, at_clock}
use Rattle.plain_node.specs.Requests.{looked_up}
use Rattle.plain_node.proofs.Joins.{waited}
use Rattle.plain_node.proofs.core_node.Core.wait.Goals as goal

pub returns-clause-plain : goal.returns-clause-plain
returns-clause-plain c =
    let old = c.args.self.now in
    let key = c.args.key.now in
    let o = shared_number key old.fetches.list in
    let r : c.join.result ≡ true = search rules in
    c.look_up.ensures ∙ ap (λ (n : PlainNode). looked_up n key) (c.tick.ensures ∙ ap (λ (n : PlainNode). at_clock n c.args.now) c.join.ensures.node) ∙ ap (λ p. p.0) (waited old c.args.client c.args.now key o (sym r ∙ c.join.ensures.found))

pub returns-clause-actions : goal.returns-clause-actions
returns-clause-actions c =
    let old = c.args.self.now in
    let key = c.args.key.now in
    let o = shared_number key old.fetches.list in
    let r : c.join.result ≡ true = search rules in
    c.join.ensures.actions ∙ ap (λ p. p.1) (waited old c.args.client c.args.now key o (sym r ∙ c.join.ensures.found))
