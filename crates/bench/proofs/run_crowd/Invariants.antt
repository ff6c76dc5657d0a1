-- The ledger that the threads' seats count with.
use Rattle.bench.proofs.run_crowd.Given as goal

abbrev pub ghosts-time_crowd : goal.ghosts-time_crowd
ghosts-time_crowd g a = record { name = a.blank.name; parts = a.blank.parts }
