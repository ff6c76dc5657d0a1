use Rattle.pending_fetch.proofs.Cells.{removed_in, removed_at}
use Rattle.pending_fetch.proofs.fetch_slab.FetchSlab.remove.Goals as goal

pub invariant_of-self : goal.invariant_of-self
invariant_of-self c =
    removed_in c.self.inside.slab c.remove.new.self c.self.inside.cells.items c.remove-cell.new.self.items c.remove-cell.result c.args.place c.args.self.now
    c.self.view_is c.self.invariant c.requires c.remove-cell.ensures.value c.remove.ensures.updates c.remove.ensures.len c.remove-cell.ensures.by_index.2

pub returns-clause-list : goal.returns-clause-list
returns-clause-list c =
    removed_at c.self.inside.slab c.remove.new.self c.self.inside.cells.items c.remove-cell.new.self.items c.remove-cell.result c.args.place c.args.self.now
    c.self.view_is c.self.invariant c.requires c.remove-cell.ensures.value c.remove.ensures.updates c.remove-cell.ensures.by_index.2
