use Rattle.request_life.proofs.Whole.{answers_at_most, answers_exactly, answers_last, answers_silent}
use Rattle.request_life.proofs.laws.one_answer.Goals as goal

pub returns-clause-at_most : goal.returns-clause-at_most
returns-clause-at_most c = answers_at_most

pub returns-clause-exactly : goal.returns-clause-exactly
returns-clause-exactly c = answers_exactly

pub returns-clause-last : goal.returns-clause-last
returns-clause-last c = answers_last

pub returns-clause-quiet : goal.returns-clause-quiet
returns-clause-quiet c = answers_silent
