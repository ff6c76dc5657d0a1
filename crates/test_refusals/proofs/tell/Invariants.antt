-- The ledger that a desk's seat counts with.
use Rattle.test_refusals.proofs.tell.Given as goal

abbrev pub ghosts-by_submit : goal.ghosts-by_submit
ghosts-by_submit g a = record { name = a.blank.name; parts = a.blank.parts }
