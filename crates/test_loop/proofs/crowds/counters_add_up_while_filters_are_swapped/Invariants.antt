use Rattle.test_loop.proofs.crowds.counters_add_up_while_filters_are_swapped.Given as goal

abbrev pub ghosts-told : goal.ghosts-told
ghosts-told g a = record { name = a.blank.name; parts = a.blank.parts }
