use Rattle.std.proofs.Common.{◌≡◌, Some, ap, ◌∙◌, subst}
use Rattle.std.specs.Prelude.{IfSome}
use Rattle.std.specs.Option.{option_map}
use Rattle.pending_fetch.specs.Fetches.{fetch_of}
use Rattle.pending_fetch.specs.FetchIndex.{fetch_index}
use Rattle.pending_fetch.specs.Calls.{told}
use Rattle.plain_node.specs.PlainNode.{PlainNode}
use Rattle.plain_node.proofs.Lent.{placed_at}
use Rattle.plain_node.proofs.core_node.Core.located.Goals as goal

pub returns-clause-fetch : goal.returns-clause-fetch
returns-clause-fetch c = c.locate.ensures.fetch ∙ ap (λ (node : PlainNode). option_map told (fetch_of c.args.number node.fetches.list)) c.self.view_is

pub returns-clause-place : goal.returns-clause-place
returns-clause-place c =
    subst (λ (node : PlainNode). IfSome c.locate.result (λ it. fetch_index c.args.number node.fetches.list ≡ Some it.place)) c.self.view_is
    (placed_at c.args.number c.self.inside.pending.list c.locate.result c.locate.ensures.place)
