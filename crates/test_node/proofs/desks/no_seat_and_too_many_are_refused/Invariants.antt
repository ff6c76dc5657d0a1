use Rattle.test_node.proofs.desks.no_seat_and_too_many_are_refused.Given as goal

abbrev pub ghosts-refused : goal.ghosts-refused
ghosts-refused g a = record { name = a.blank.name; parts = a.blank.parts }
