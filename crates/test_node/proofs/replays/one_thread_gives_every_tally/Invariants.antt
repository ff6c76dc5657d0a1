use Rattle.test_node.proofs.replays.one_thread_gives_every_tally.Given as goal

abbrev pub ghosts-replayed : goal.ghosts-replayed
ghosts-replayed g a = record { name = a.blank.name; parts = a.blank.parts }
