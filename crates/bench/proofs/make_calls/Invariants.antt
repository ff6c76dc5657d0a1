-- The ledger that the seat counts with.
use Rattle.bench.proofs.make_calls.Given as goal

abbrev pub ghosts-submit : goal.ghosts-submit
ghosts-submit g a = record { name = a.blank.name; parts = a.blank.parts }

abbrev pub ghosts-under : goal.ghosts-under
ghosts-under g a = record { name = a.blank.name; parts = a.blank.parts }

abbrev pub ghosts-judged : goal.ghosts-judged
ghosts-judged g a = record { name = a.blank.name; parts = a.blank.parts }
