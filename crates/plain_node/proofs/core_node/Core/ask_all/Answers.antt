use Rattle.std.proofs.Common.{◌++◌, ◌∷◌, [], sym, ap, ◌∙◌}
use Rattle.neighbours.specs.declared.neighbour.Neighbour.{Neighbour}
use Rattle.node_words.specs.declared.action.Action.{Action}
use Rattle.plain_node.specs.Requests.{query_by, queries}
use Rattle.plain_node.proofs.Servings.{mapped-more, mapped-all}
use Rattle.plain_node.proofs.core_node.Core.ask_all.Goals as goal

pub loop-neighbour-preserved : goal.loop-neighbour-preserved
loop-neighbour-preserved c =
    let node = record c.args.self.now { clock = c.args.clock } in
    let query = λ (neighbour : Neighbour). query_by node c.args.number c.args.key.now neighbour neighbour.protocol in
    let pushed = c.push.ensures ∙ ap (λ (action : Action). c.loop-neighbour.out ++ action ∷ []) c.in-Ok.ensures.action in
    let more = mapped-more query c.loop-neighbour.out c.push.new.self node.rows.neighbours c.loop-neighbour.n c.in-Some.neighbour.now c.loop-neighbour.invariant.asked (sym c.in-Some.ensures) pushed in
    record { asked = more.0; within = more.1; few = c.loop-neighbour.invariant.few; common = c.query_to.ensures.common }

pub returns-clause-ok : goal.returns-clause-ok
unfolding queries
returns-clause-ok c =
    let node = record c.args.self.now { clock = c.args.clock } in
    let query = λ (neighbour : Neighbour). query_by node c.args.number c.args.key.now neighbour neighbour.protocol in
    mapped-all query c.loop-neighbour.out node.rows.neighbours c.loop-neighbour.n c.loop-neighbour.invariant.asked (sym c.in_default.ensures)
