-- The ledger that the seat counts with.
use Rattle.bench.proofs.measure_holds.Given as goal

abbrev pub ghosts-time_holds : goal.ghosts-time_holds
ghosts-time_holds g a = record { name = a.blank.name; parts = a.blank.parts }
