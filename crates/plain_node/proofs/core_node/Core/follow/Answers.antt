use Rattle.std.proofs.Common.{sym, ◌∙◌}
use Rattle.plain_node.specs.Sources.{source_of}
use Rattle.plain_node.proofs.Lent.{number_is}
use Rattle.plain_node.proofs.Tries.{went, gave_up}
use Rattle.plain_node.proofs.core_node.Core.follow.Goals as goal

pub returns-in-Some-clause-actions : goal.returns-in-Some-clause-actions
returns-in-Some-clause-actions c = λ f found.
    let node = c.args.self.now in
    went node c.args.status c.args.number f (source_of node f) c.in-Some.action c.args.out.now c.push.new.self (number_is c.args.number node.fetches.list f found) (sym c.in-Some.is ∙ c.requires.attempt f found) c.push.ensures

pub returns-in-None-clause-node : goal.returns-in-None-clause-node
returns-in-None-clause-node c = λ f found.
    let node = c.args.self.now in
    gave_up node c.give_up.new.self c.args.status c.args.number f (source_of node f) (number_is c.args.number node.fetches.list f found) (sym c.in-None.is ∙ c.requires.attempt f found) c.give_up.ensures.node
