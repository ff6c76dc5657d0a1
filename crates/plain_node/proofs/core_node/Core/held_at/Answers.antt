use Rattle.std.proofs.Common.{◌≡◌, true, Some, ap, ◌∙◌, subst}
use Rattle.std.specs.Option.{option_map}
use Rattle.peer_select.specs.Poll.{matches}
use Rattle.pending_fetch.specs.Fetches.{fetch_of}
use Rattle.pending_fetch.specs.FetchIndex.{fetch_index}
use Rattle.pending_fetch.specs.Calls.{told}
use Rattle.plain_node.specs.PlainNode.{PlainNode}
use Rattle.plain_node.proofs.Keeps.{fits_each}
use Rattle.plain_node.proofs.Lent.{matching_of}
use Rattle.plain_node.proofs.core_node.Core.held_at.Goals as goal

pub fetch_at-requires : goal.fetch_at-requires
fetch_at-requires c = ap (λ (node : PlainNode). fetch_index c.args.number node.fetches.list) c.self.view_is ∙ c.requires

pub returns-clause-held : goal.returns-clause-held
returns-clause-held c = c.fetch_at.ensures ∙ ap (λ (node : PlainNode). option_map told (fetch_of c.args.number node.fetches.list)) c.self.view_is

pub returns-clause-matching : goal.returns-clause-matching
returns-clause-matching c =
    let neighbours = c.self.inside.table.neighbours in
    let list = c.self.inside.pending.list in
    subst (λ (node : PlainNode). matches node.rows.neighbours c.fetch_at.result.round.now.peers ≡ true) c.self.view_is
    (matching_of neighbours (fetch_of c.args.number list) (Some c.fetch_at.result) c.fetch_at.ensures (fits_each neighbours c.self.inside.clock c.args.number list c.self.invariant))
