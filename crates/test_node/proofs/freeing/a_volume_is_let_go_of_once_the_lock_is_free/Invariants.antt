use Rattle.test_node.proofs.freeing.a_volume_is_let_go_of_once_the_lock_is_free.Given as goal

abbrev pub ghosts-told : goal.ghosts-told
ghosts-told g a = record { name = a.blank.name; parts = a.blank.parts }
