use Rattle.test_node.proofs.stories.two_seats_tell_one_story.Given as goal

abbrev pub ghosts-told : goal.ghosts-told
ghosts-told g a = record { name = a.blank.name; parts = a.blank.parts }
