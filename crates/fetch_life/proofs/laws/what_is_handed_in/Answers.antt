use Rattle.fetch_life.proofs.Whole.{name_fits}
use Rattle.fetch_life.proofs.Served.{hands_in_made, page_is_given, page_is_kept, confirmed_is_given, stale_is_given}
use Rattle.fetch_life.proofs.laws.what_is_handed_in.Goals as goal

pub returns-clause-made : goal.returns-clause-made
returns-clause-made c = hands_in_made

pub returns-clause-given : goal.returns-clause-given
returns-clause-given c = page_is_given

pub returns-clause-kept : goal.returns-clause-kept
returns-clause-kept c = page_is_kept

pub returns-clause-confirmed : goal.returns-clause-confirmed
returns-clause-confirmed c = confirmed_is_given

pub returns-clause-stale : goal.returns-clause-stale
returns-clause-stale c = stale_is_given

pub returns-clause-named : goal.returns-clause-named
returns-clause-named c = name_fits
