use Rattle.test_node.proofs.volumes.a_finished_volume_is_left_to_the_caller.Given as goal

abbrev pub ghosts-told : goal.ghosts-told
ghosts-told g a = record { name = a.blank.name; parts = a.blank.parts }
