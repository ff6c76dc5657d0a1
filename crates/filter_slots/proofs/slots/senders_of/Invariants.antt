use Rattle.std.proofs.Common.{◌≡◌, take}
use Rattle.filter_slots.proofs.slots.senders_of.Given as goal

abbrev pub invariant-loop-neighbour : goal.invariant-loop-neighbour
invariant-loop-neighbour l = record { so_far : l.senders ≡ take l.neighbour-index l.neighbours }
