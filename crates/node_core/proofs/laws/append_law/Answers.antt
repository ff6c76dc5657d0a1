use Rattle.std.proofs.Common.{◌∷◌, [], refl}
use Rattle.node_core.proofs.Runs.{HasTaken-none, HasTaken-append, answers-append, length-answers}
use Rattle.node_core.proofs.laws.append_law.Goals as goal

pub returns-clause-one : goal.returns-clause-one
returns-clause-one c = λ old mid new events event outs actions. HasTaken-append old mid new events (event ∷ []) outs (actions ∷ [])

pub returns-clause-list : goal.returns-clause-list
returns-clause-list c = HasTaken-append

pub returns-clause-none : goal.returns-clause-none
returns-clause-none c = λ state. HasTaken-none state [] refl

pub returns-clause-answers : goal.returns-clause-answers
returns-clause-answers c = answers-append

pub returns-clause-count : goal.returns-clause-count
returns-clause-count c = length-answers
