use Rattle.std.proofs.Common.{◌≡◌, true, ap, sym, ◌∙◌, subst}
use Rattle.peer_select.specs.Poll.{begun, matches}
use Rattle.plain_node.specs.PlainNode.{PlainNode}
use Rattle.plain_node.proofs.Opens.{begun_later, fitting_opened}
use Rattle.plain_node.proofs.core_node.Core.enter.Goals as goal

pub open-requires-clause-later : goal.open-requires-clause-later
open-requires-clause-later c =
    let begins = c.round-round.ensures.value ∙ ap (λ (n : PlainNode). begun n.rows c.args.shared c.later-start.result) (sym c.self.view_is) in
    begun_later c.self.inside.table c.args.shared c.self.inside.clock c.later-start.result c.args.now c.self.inside.pending.list c.round-round.result begins c.later-start.ensures c.self.invariant

pub invariant_of-self : goal.invariant_of-self
invariant_of-self c =
    let begins = c.round-round.ensures.value ∙ ap (λ (n : PlainNode). begun n.rows c.args.shared c.later-start.result) (sym c.self.view_is) in
    let of = subst (λ (n : PlainNode). matches n.rows.neighbours c.round-round.result.peers ≡ true) (sym c.self.view_is) c.round-round.ensures.matching in
    fitting_opened c.self.inside.table c.args.shared c.self.inside.clock c.later-start.result c.args.now c.args.client c.in_ok-key.key c.self.inside.pending c.open.new.self c.round-round.result begins c.later-start.ensures of c.in-Ok.ensures.ok c.self.invariant
