use Rattle.std.proofs.Common.{◌≤◌, length, arith, subst}
use Rattle.pending_fetch.specs.Fetches.{waiters_of}
use Rattle.plain_node.specs.PlainNode.{PlainNode}
use Rattle.plain_node.proofs.Crowds.{waiters_few}
use Rattle.plain_node.proofs.core_node.Core.facts.Goals as goal
use Rattle.pending_fetch.specs.Bounds.{most_waiters}

pub returns-clause-few : goal.returns-clause-few
returns-clause-few c = λ number. subst (λ (node : PlainNode). length (waiters_of number node.fetches.list) ≤ most_waiters) c.self.view_is (omega (arith, waiters_few number c.self.inside.pending.list, c.facts.ensures.uncrowded))
