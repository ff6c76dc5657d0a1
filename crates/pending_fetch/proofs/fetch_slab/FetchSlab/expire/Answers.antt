use Rattle.pending_fetch.specs.Fetches.{with_end}
use Rattle.pending_fetch.proofs.Cells.{changed_at}
use Rattle.pending_fetch.proofs.fetch_slab.FetchSlab.expire.Goals as goal

pub returns : goal.returns
returns c =
    changed_at with_end c.self.inside.slab c.self.inside.cells.items c.index.result.now c.args.place c.index_mut.result.now c.expire.new.self c.args.self.now
    c.self.view_is c.self.invariant c.requires c.index.ensures c.index_mut.ensures.value c.expire.ensures
