use Rattle.node_book.proofs.Once.{each-once}
use Rattle.node_book.proofs.OfRun.{all-rising, all-of-run}
use Rattle.node_book.proofs.laws.settled_law.Goals as goal

pub returns-clause-once : goal.returns-clause-once
returns-clause-once c = each-once

pub returns-clause-order : goal.returns-clause-order
returns-clause-order c = all-rising

pub returns-clause-run : goal.returns-clause-run
returns-clause-run c = all-of-run
