use Rattle.pending_fetch.specs.Fetches.{PendingFetch, without_client}
use Rattle.pending_fetch.proofs.Cells.{changed_at}
use Rattle.pending_fetch.proofs.fetch_slab.FetchSlab.leave.Goals as goal

pub returns : goal.returns
returns c =
    changed_at (λ (fetch : PendingFetch). record fetch { waiters = without_client c.args.client fetch.waiters }) c.self.inside.slab c.self.inside.cells.items c.index.result.now c.args.place c.index_mut.result.now c.leave.new.self c.args.self.now
    c.self.view_is c.self.invariant c.requires c.index.ensures c.index_mut.ensures.value c.leave.ensures
