use Rattle.std.proofs.Common.{◌≡◌, true, subst}
use Rattle.std.specs.Prelude.{IfSome}
use Rattle.peer_select.specs.Poll.{matches}
use Rattle.pending_fetch.specs.Fetches.{fetch_of}
use Rattle.plain_node.specs.PlainNode.{PlainNode}
use Rattle.plain_node.proofs.Keeps.{fits_each}
use Rattle.plain_node.proofs.Lent.{matching_of}
use Rattle.plain_node.proofs.core_node.Core.held.Goals as goal

pub returns-clause-matching : goal.returns-clause-matching
returns-clause-matching c =
    let neighbours = c.self.inside.table.neighbours in
    let list = c.self.inside.pending.list in
    subst (λ (node : PlainNode). IfSome c.fetch.result (λ fetch. matches node.rows.neighbours fetch.round.now.peers ≡ true)) c.self.view_is
    (matching_of neighbours (fetch_of c.args.number list) c.fetch.result c.fetch.ensures (fits_each neighbours c.self.inside.clock c.args.number list c.self.invariant))
