-- The state of each neighbour, as it is shown.
use Rattle.std.specs.Prelude.{◌≡◌, ℕ, List, is_some, option_map, slice_get}
use Rattle.filter_slots.specs.declared.slot.Slot.TheVariants as slots
use Rattle.filter_slots.specs.Filters.{slot}
use Rattle.neighbours.specs.declared.neighbour.Neighbour.{Neighbour}
use Rattle.neighbours.specs.Rows.{mark_at, is_up}
use Rattle.node_core.specs.State.{State}
use Rattle.node_words.specs.declared.views.NeighbourView.{NeighbourView}

-- the view of the neighbour at index n: where it is queried, what its mark says, and whether its slot has a program
abbrev pub view_of : State → ℕ → Neighbour → NeighbourView
view_of state n neighbour =
    let mark = mark_at state.plain.rows.marks n in
    record {
      protocol = neighbour.protocol;
      end = neighbour.end;
      is_up = is_up mark;
      time = mark.time;
      misses = mark.misses;
      has_filter = is_some (slot state.filters (slots.Neighbour n));
    }

-- one view for each neighbour of the table, in configuration order: at each index stands the view of the neighbour with that index,
-- and nothing where there is no such neighbour
abbrev pub AreViews : State → List NeighbourView → Type 0
AreViews state views = (n : ℕ) → slice_get views n ≡ option_map (view_of state n) (slice_get state.plain.rows.neighbours n)
