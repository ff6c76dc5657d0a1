use Rattle.std.proofs.Common.{◌≡◌, ◌∙◌, ap, arith, length, []}
use Rattle.pending_fetch.specs.FetchIndex.{fetch_index}
use Rattle.plain_node.specs.PlainNode.{PlainNode}
use Rattle.plain_node.proofs.MessageLemmas.{counted_at}
use Rattle.plain_node.proofs.core_node.Core.count.Goals as goal

pub add_reply-is_decided-requires-clause-here : goal.add_reply-is_decided-requires-clause-here
add_reply-is_decided-requires-clause-here c = ap (λ (node : PlainNode). fetch_index c.args.number node.fetches.list) c.sample.ensures ∙ c.requires.here

pub decide_at-requires-clause-room : goal.decide_at-requires-clause-room
decide_at-requires-clause-room c = omega (arith, c.few_waiters.ensures, ap length c.requires.empty)

pub returns-clause-plain : goal.returns-clause-plain
returns-clause-plain c = λ fetch found began.
    let at = counted_at c.args.self.now c.sample.new.self c.add_reply-is_decided.new.self c.args.number c.args.n c.args.awaited.start c.args.kind fetch c.sample.ensures c.add_reply-is_decided.ensures.node found began in
    c.decide_at.ensures.node _ at.0 ∙ ap (λ step. step.0) at.1

pub returns-clause-actions : goal.returns-clause-actions
returns-clause-actions c = λ fetch found began.
    let at = counted_at c.args.self.now c.sample.new.self c.add_reply-is_decided.new.self c.args.number c.args.n c.args.awaited.start c.args.kind fetch c.sample.ensures c.add_reply-is_decided.ensures.node found began in
    let sent : c.args.out.now ≡ [] = c.requires.empty in
    rw sent at (c.decide_at.ensures.actions _ at.0) ∙ ap (λ step. step.1) at.1
