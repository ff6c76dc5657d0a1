use Rattle.pending_fetch.specs.Fetches.{with_next}
use Rattle.pending_fetch.proofs.Cells.{changed_at}
use Rattle.pending_fetch.proofs.fetch_slab.FetchSlab.advance.Goals as goal

pub returns-clause-list : goal.returns-clause-list
returns-clause-list c =
    changed_at with_next c.self.inside.slab c.self.inside.cells.items c.index.result.now c.args.place c.index_mut.result.now c.advance.new.self c.args.self.now
    c.self.view_is c.self.invariant c.requires c.index.ensures c.index_mut.ensures.value c.advance.ensures.fetch
