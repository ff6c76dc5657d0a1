use Rattle.filter_slots.proofs.Seats.{first-accepted, second-accepted}
use Rattle.filter_slots.proofs.laws.verdict_in_force_is_given.Goals as goal

pub returns-clause-first : goal.returns-clause-first
returns-clause-first c = λ filters d p all is. c.verdict_is_given.ensures p _ (first-accepted filters d p all is)

pub returns-clause-second : goal.returns-clause-second
returns-clause-second c = λ filters d value p all is. c.verdict_is_given.ensures p _ (second-accepted filters d p all is)
