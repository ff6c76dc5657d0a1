use Rattle.std.proofs.Common.{◌≡◌, take}
use Rattle.neighbours.proofs.table.copies_of_neighbours.Given as goal

abbrev pub invariant-loop-neighbour : goal.invariant-loop-neighbour
invariant-loop-neighbour l = l.copies.items ≡ take l.neighbour-index l.neighbours
