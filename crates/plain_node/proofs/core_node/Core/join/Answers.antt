use Rattle.std.proofs.Common.{◌∙◌, sym, ap, Some}
use Rattle.pending_fetch.specs.Fetches.{shared_number}
use Rattle.plain_node.proofs.Joins.{joined_node, told_ok, told_err}
use Rattle.plain_node.proofs.core_node.Core.join.Goals as goal

pub returns-in-Some-Ok-clause-node : goal.returns-in-Some-Ok-clause-node
returns-in-Some-Ok-clause-node c =
    let node = c.args.self.now in
    c.enlist.ensures.node ∙ joined_node node c.args.client (shared_number c.args.key.now node.fetches.list) c.requires.absent

pub returns-in-Some-Ok-clause-actions : goal.returns-in-Some-Ok-clause-actions
returns-in-Some-Ok-clause-actions c =
    let node = c.args.self.now in
    c.requires.empty ∙ told_ok node c.args.client (shared_number c.args.key.now node.fetches.list) c.in-Some-Ok.field-0-0 c.requires.absent (sym (ap Some c.in-Some-Ok.field-0-is) ∙ c.in-Some-Ok.ensures.answer)

pub returns-in-Some-Err-clause-node : goal.returns-in-Some-Err-clause-node
returns-in-Some-Err-clause-node c =
    let node = c.args.self.now in
    c.enlist.ensures.node ∙ joined_node node c.args.client (shared_number c.args.key.now node.fetches.list) c.requires.absent

pub returns-in-Some-Err-clause-actions : goal.returns-in-Some-Err-clause-actions
returns-in-Some-Err-clause-actions c =
    let node = c.args.self.now in
    rw c.requires.empty at c.push.ensures ∙ told_err node c.args.client (shared_number c.args.key.now node.fetches.list) c.in-Some-Err.field-0-0 c.requires.absent (sym (ap Some c.in-Some-Err.field-0-is) ∙ c.in-Some-Err.ensures.answer)
