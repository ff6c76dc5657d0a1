use Rattle.request_life.proofs.Whole.{submits_twice, submits_thrice, withdraws}
use Rattle.request_life.proofs.laws.node_is_asked.Goals as goal

pub returns-clause-twice : goal.returns-clause-twice
returns-clause-twice c = submits_twice

pub returns-clause-most : goal.returns-clause-most
returns-clause-most c = submits_thrice

pub returns-clause-withdrawn : goal.returns-clause-withdrawn
returns-clause-withdrawn c = withdraws
