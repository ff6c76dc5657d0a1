use Rattle.request_life.proofs.Orders.{answer_ends, answer_is_last, ended_first}
use Rattle.request_life.proofs.laws.order_of_answers.Goals as goal

pub returns-clause-further : goal.returns-clause-further
returns-clause-further c = answer_ends

pub returns-clause-last : goal.returns-clause-last
returns-clause-last c = answer_is_last

pub returns-clause-ended : goal.returns-clause-ended
returns-clause-ended c = ended_first
