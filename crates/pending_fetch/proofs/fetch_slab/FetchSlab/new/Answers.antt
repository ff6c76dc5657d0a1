use Rattle.pending_fetch.proofs.Cells.{no_cells}
use Rattle.pending_fetch.proofs.fetch_slab.FetchSlab.new.Goals as goal

pub invariant_of-result : goal.invariant_of-result
invariant_of-result c = no_cells c.new.result c.new-2.result.items c.new.ensures.empty c.new-2.ensures.items
