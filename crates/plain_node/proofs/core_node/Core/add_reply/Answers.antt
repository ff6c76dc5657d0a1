use Rattle.std.proofs.Common.{ap, ◌∙◌}
use Rattle.std.specs.Option.{option_map}
use Rattle.peer_select.specs.Poll.{decided}
use Rattle.pending_fetch.specs.Fetches.{PendingFetch}
use Rattle.pending_fetch.specs.FetchIndex.{fetch_index}
use Rattle.plain_node.specs.PlainNode.{PlainNode}
use Rattle.plain_node.proofs.Keeps.{fits_each}
use Rattle.plain_node.proofs.Lent.{some_is}
use Rattle.plain_node.proofs.MessageLemmas.{fitting_reply}
use Rattle.plain_node.proofs.core_node.Core.add_reply.Goals as goal

pub reply_at-requires-clause-here : goal.reply_at-requires-clause-here
reply_at-requires-clause-here c = ap (λ (node : PlainNode). fetch_index c.args.number node.fetches.list) c.self.view_is ∙ c.requires.here

pub reply_at-requires-clause-table : goal.reply_at-requires-clause-table
reply_at-requires-clause-table c = fits_each c.self.inside.table.neighbours c.self.inside.clock c.args.number c.self.inside.pending.list c.self.invariant

pub returns-clause-here : goal.returns-clause-here
returns-clause-here c = c.reply_at.ensures.here

pub returns-clause-decided : goal.returns-clause-decided
returns-clause-decided c = λ f found. some_is c.reply_at.result (decided f.round) (c.reply_at.ensures.decided ∙ ap (option_map (λ (fetch : PendingFetch). decided fetch.round)) found)

pub invariant_of-self : goal.invariant_of-self
invariant_of-self c = rw c.reply_at.ensures.list (fitting_reply c.self.inside.table.neighbours c.self.inside.clock c.args.number _ c.self.inside.pending.list c.self.invariant)
