use Rattle.std.proofs.Common.{◌≡◌, ◌/◌, sym, ap, ◌∙◌}
use Rattle.node_terms.specs.declared.ends.End.{End}
use Rattle.filter_slots.specs.Datagram.{ends_of}
use Rattle.plain_node.specs.PlainNode.{PlainNode}
use Rattle.plain_node.proofs.core_node.Core.signed_to.Goals as goal

pub returns : goal.returns
returns c =
    let ends = c.both_ends-ends.ensures ∙ ap (λ (own : End). ends_of own c.args.to) (c.htcp.ensures ∙ ap (λ (node : PlainNode). node.settings.htcp) c.self.view_is) in
    rw (← ends, ← c.seconds.ensures) c.signed.ensures
