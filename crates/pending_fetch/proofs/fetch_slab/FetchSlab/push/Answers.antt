use Rattle.std.proofs.Common.{ap}
use Rattle.slab.specs.Slab.{Slab}
use Rattle.pending_fetch.specs.Fetches.{PendingFetch}
use Rattle.pending_fetch.proofs.Cells.{pushed_in, pushed_at}
use Rattle.pending_fetch.proofs.fetch_slab.FetchSlab.push.Goals as goal

pub invariant_of-self-2 : goal.invariant_of-self-2
invariant_of-self-2 c =
    pushed_in c.self.inside.slab c.free_cell.new.slab c.fill.new.slab c.self.inside.cells.items c.free_cell.new.cells.items c.fill.new.cells.items c.in_ok-cell.cell c.args.fetch c.self.invariant
    (ap (λ (s : Slab PendingFetch). s.slots) c.free_cell.ensures.slab) c.free_cell.ensures.cells c.fill.ensures.vacant c.fill.ensures.slab c.fill.ensures.len c.fill.ensures.cells

pub returns-clause-ok : goal.returns-clause-ok
returns-clause-ok c =
    pushed_at c.self.inside.slab c.free_cell.new.slab c.fill.new.slab c.self.inside.cells.items c.free_cell.new.cells.items c.fill.new.cells.items c.in_ok-cell.cell c.args.fetch c.args.self.now
    c.self.view_is c.self.invariant (ap (λ (s : Slab PendingFetch). s.slots) c.free_cell.ensures.slab) c.free_cell.ensures.cells c.fill.ensures.vacant c.fill.ensures.slab c.fill.ensures.cells
