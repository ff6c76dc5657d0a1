use Rattle.std.proofs.Common.{◌≡◌, ◌≤◌, vec_capacity, length, map, take}
use Rattle.node_words.specs.Happening.{happening}
use Rattle.node_core.specs.State.{HasTaken}
use Rattle.node_words.specs.Installs.{PutsInAccepted}
use Rattle.node_core.proofs.run.run_events.Given as goal

abbrev pub invariant-loop-i : goal.invariant-loop-i
invariant-loop-i l = record {
  taken : HasTaken l.fn.node l.node (take l.i (map happening l.events)) l.outs.items;
  accepted : PutsInAccepted (take l.i (map happening l.events));
  room : length l.events ≤ vec_capacity l.outs;
  count : length l.outs.items ≡ l.i;
}
