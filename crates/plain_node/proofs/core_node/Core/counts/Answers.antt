use Rattle.pending_fetch.specs.Calls.{shown, told}
use Rattle.plain_node.proofs.Lent.{some_is, none_is}
use Rattle.plain_node.proofs.Endings.{counts_decided, counts_undecided}
use Rattle.plain_node.proofs.core_node.Core.counts.Goals as goal

pub returns-then-decided-clause-pending : goal.returns-then-decided-clause-pending
returns-then-decided-clause-pending c = λ f found.
    let view = shown c.in-Some.fetch in
    counts_decided view f c.decided.result c.args.attempt (some_is view (told f) (c.in-Some.ensures.held f found)) c.decided.ensures c.if-decided.true

pub returns-else-decided-clause-pending : goal.returns-else-decided-clause-pending
returns-else-decided-clause-pending c = λ f found.
    let view = shown c.in-Some.fetch in
    counts_undecided view f c.decided.result c.args.attempt (some_is view (told f) (c.in-Some.ensures.held f found)) c.decided.ensures c.if-decided.false

pub returns-in-None-clause-pending : goal.returns-in-None-clause-pending
returns-in-None-clause-pending c = λ f found. none_is (told f) (c.in-None.ensures.held f found)
