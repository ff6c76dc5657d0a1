use Rattle.std.proofs.Common.{sym, ◌∙◌, ap}
use Rattle.std.specs.Prelude.{slice_get}
use Rattle.neighbours.specs.Rows.{Rows}
use Rattle.node_book.specs.NeighbourView.{view_of}
use Rattle.node_book.proofs.Views.{longer}
use Rattle.node_book.proofs.neighbour_view.views_of.Goals as goal

pub loop-n-preserved : goal.loop-n-preserved
loop-n-preserved c =
    longer (view_of c.args.node.now) c.loop-n.views.items c.push.new.self.items c.args.node.now.plain.rows.neighbours c.loop-n.n
    c.neighbour_at.result.now c.view_of.result (ap (λ (rows : Rows). slice_get rows.neighbours c.loop-n.n) (sym c.neighbours-table.ensures) ∙ c.neighbour_at.ensures)
    c.view_of.ensures c.in_ok-push.ensures.items c.loop-n.invariant
