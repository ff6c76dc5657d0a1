-- The ledger that the seats of a chapter count with.
use Rattle.test_storm.proofs.one.Given as goal

abbrev pub ghosts-chapter : goal.ghosts-chapter
ghosts-chapter g a = record { name = a.blank.name; parts = a.blank.parts }
