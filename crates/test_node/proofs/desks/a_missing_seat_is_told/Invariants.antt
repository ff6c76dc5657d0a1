use Rattle.test_node.proofs.desks.a_missing_seat_is_told.Given as goal

abbrev pub ghosts-missing : goal.ghosts-missing
ghosts-missing g a = record { name = a.blank.name; parts = a.blank.parts }
