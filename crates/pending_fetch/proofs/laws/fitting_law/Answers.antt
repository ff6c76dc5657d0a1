use Rattle.pending_fetch.proofs.Waits.{fitting-each, fitting-left, fitting-closed, fitting-changed}
use Rattle.pending_fetch.proofs.laws.fitting_law.Goals as goal

pub returns-clause-each : goal.returns-clause-each
returns-clause-each c = fitting-each

pub returns-clause-left : goal.returns-clause-left
returns-clause-left c = fitting-left

pub returns-clause-closed : goal.returns-clause-closed
returns-clause-closed c = fitting-closed

pub returns-clause-changed : goal.returns-clause-changed
returns-clause-changed c = fitting-changed
