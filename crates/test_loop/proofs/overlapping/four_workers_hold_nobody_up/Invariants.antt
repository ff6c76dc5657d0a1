-- The ledger of the seats.
use Rattle.test_loop.proofs.overlapping.four_workers_hold_nobody_up.Given as goal

abbrev pub ghosts-settled : goal.ghosts-settled
ghosts-settled g a = record { name = a.blank.name; parts = a.blank.parts }
