use Rattle.std.proofs.Common.{ap, sym, ◌∙◌}
use Rattle.plain_node.specs.PlainNode.{PlainNode, at_clock, closed}
use Rattle.plain_node.specs.Outcomes.{got_step, stored}
use Rattle.plain_node.proofs.Lent.{number_is}
use Rattle.plain_node.proofs.core_node.Core.got.Goals as goal

pub returns-clause-plain : goal.returns-clause-plain
unfolding got_step
returns-clause-plain c = λ f found.
    let node = at_clock c.args.self.now c.args.now in
    c.close.ensures ∙ ap (λ (n : PlainNode). closed n c.args.number) (c.in_default.ensures.ok f found) ∙ ap (closed (stored node f c.args.object.now)) (sym (number_is c.args.number node.fetches.list f found))
