use Rattle.std.proofs.Common.{◌≡◌, map, take}
use Rattle.node_core.specs.State.{sender_of}
use Rattle.node_core.proofs.node.senders_of.Given as goal

abbrev pub invariant-loop-neighbour : goal.invariant-loop-neighbour
invariant-loop-neighbour l = l.senders.items ≡ map sender_of (take l.neighbour-index l.neighbours)
