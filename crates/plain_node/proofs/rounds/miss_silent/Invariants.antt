use Rattle.std.proofs.Common.{◌≡◌, ◌++◌, take, drop, length}
use Rattle.plain_node.specs.Rounds.{missed_from}
use Rattle.plain_node.proofs.rounds.miss_silent.Given as goal

abbrev pub invariant-loop-n : goal.invariant-loop-n
invariant-loop-n l = record {
  neighbours : l.table.neighbours ≡ l.fn.table.neighbours;
  keys : l.table.keys ≡ l.fn.table.keys;
  marked : length l.table.marks ≡ length l.fn.table.neighbours;
  marks : take l.n l.table.marks ++ missed_from l.round.replies l.n (drop l.n l.table.marks) ≡ missed_from l.round.replies 0 l.fn.table.marks;
}
