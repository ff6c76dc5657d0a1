use Rattle.std.proofs.Common.{◌≡◌, ℕ, take, option_map}
use Rattle.std.specs.Prelude.{slice_get}
use Rattle.node_book.specs.NeighbourView.{view_of}
use Rattle.node_book.proofs.neighbour_view.views_of.Given as goal

-- the views of the neighbours before n
abbrev pub invariant-loop-n : goal.invariant-loop-n
invariant-loop-n l = (k : ℕ) → slice_get l.views.items k ≡ option_map (view_of l.node k) (slice_get (take l.n l.node.plain.rows.neighbours) k)
