use Rattle.fetch_life.proofs.Landed.{failure_gives_stale, error_gives_stale}
use Rattle.fetch_life.proofs.Whole.{up_has_no_stale, private_has_no_stale, neighbour_has_no_stale, stale_is_unchanged, changed_has_no_stale}
use Rattle.fetch_life.proofs.laws.what_is_stale.Goals as goal

pub returns-clause-down : goal.returns-clause-down
returns-clause-down c = up_has_no_stale

pub returns-clause-shared : goal.returns-clause-shared
returns-clause-shared c = private_has_no_stale

pub returns-clause-origin : goal.returns-clause-origin
returns-clause-origin c = neighbour_has_no_stale

pub returns-clause-unchanged : goal.returns-clause-unchanged
returns-clause-unchanged c = stale_is_unchanged

pub returns-clause-changed : goal.returns-clause-changed
returns-clause-changed c = changed_has_no_stale

pub returns-clause-failed : goal.returns-clause-failed
returns-clause-failed c = failure_gives_stale

pub returns-clause-answered : goal.returns-clause-answered
returns-clause-answered c = error_gives_stale
