use Rattle.pending_fetch.specs.Fetches.{with_waiter}
use Rattle.pending_fetch.proofs.Cells.{changed_at}
use Rattle.pending_fetch.proofs.fetch_slab.FetchSlab.join.Goals as goal

pub returns : goal.returns
returns c =
    changed_at (with_waiter c.args.client) c.self.inside.slab c.self.inside.cells.items c.index.result.now c.args.place c.index_mut.result.now c.join.new.self c.args.self.now
    c.self.view_is c.self.invariant c.requires.place c.index.ensures c.index_mut.ensures.value c.join.ensures
