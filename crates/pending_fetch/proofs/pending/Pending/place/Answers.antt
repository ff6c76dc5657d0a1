use Rattle.std.proofs.Common.{ap, sym, ◌∙◌}
use Rattle.pending_fetch.specs.Fetches.{Fetches, numbers}
use Rattle.pending_fetch.specs.FetchIndex.{fetch_index}
use Rattle.pending_fetch.proofs.pending.Pending.place.Goals as goal

pub fetch_index-requires : goal.fetch_index-requires
fetch_index-requires c = c.self.invariant.2

pub returns : goal.returns
returns c = c.fetch_index.ensures ∙ ap (λ (w : Fetches). fetch_index c.args.number w.list) c.self.view_is
