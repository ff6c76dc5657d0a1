use Rattle.std.proofs.Common.{length}
use Rattle.pending_fetch.specs.Fetches.{all_due}
use Rattle.plain_node.specs.PlainNode.{at_clock}
use Rattle.plain_node.proofs.RoundLemmas.{IsRunning}
use Rattle.plain_node.proofs.core_node.Core.timer.Given as goal

abbrev pub invariant-loop-number : goal.invariant-loop-number
invariant-loop-number l = IsRunning (at_clock l.fn.self l.fn.now) l.self l.out

abbrev pub decreases-loop-number : goal.decreases-loop-number
decreases-loop-number l = length (all_due l.self.clock l.self.fetches.list)
