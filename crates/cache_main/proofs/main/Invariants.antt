-- The ledger with a part for each thread that submits events.
use Rattle.cache_main.proofs.main.Given as goal

abbrev pub ghosts-run_serve : goal.ghosts-run_serve
ghosts-run_serve g a = record { name = a.blank.name; parts = a.blank.parts }
