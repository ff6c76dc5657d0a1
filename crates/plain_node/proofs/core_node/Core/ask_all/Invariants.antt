use Rattle.std.proofs.Common.{◌≡◌, ◌≤◌, ◌-◌, length, take, map}
use Rattle.neighbours.specs.declared.neighbour.Neighbour.{Neighbour}
use Rattle.plain_node.specs.QueryOctets.{AreQueryOctets}
use Rattle.plain_node.specs.Requests.{query_by}
use Rattle.plain_node.proofs.core_node.Core.ask_all.Given as goal

abbrev pub invariant-loop-neighbour : goal.invariant-loop-neighbour
invariant-loop-neighbour l = record {
  asked : l.out ≡ map (λ (neighbour : Neighbour). query_by (record l.self { clock = l.clock }) l.number l.key neighbour neighbour.protocol) (take l.n l.self.rows.neighbours);
  within : l.n ≤ length l.self.rows.neighbours;
  few : length l.self.rows.neighbours ≤ 64;
  common : AreQueryOctets l.self l.number l.key l.common;
}

abbrev pub decreases-loop-neighbour : goal.decreases-loop-neighbour
decreases-loop-neighbour l = length l.self.rows.neighbours - l.n
