use Rattle.request_life.proofs.Due.{sendable_by, unsendable_is_told}
use Rattle.request_life.proofs.laws.what_is_given_on.Goals as goal

pub returns-clause-only : goal.returns-clause-only
returns-clause-only c = sendable_by

pub returns-clause-told : goal.returns-clause-told
returns-clause-told c = unsendable_is_told
