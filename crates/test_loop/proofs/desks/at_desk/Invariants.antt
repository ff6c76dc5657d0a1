-- The ledger of the one seat.
use Rattle.test_loop.proofs.desks.at_desk.Given as goal

abbrev pub ghosts-told : goal.ghosts-told
ghosts-told g a = record { name = a.blank.name; parts = a.blank.parts }
