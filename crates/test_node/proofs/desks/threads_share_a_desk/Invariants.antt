use Rattle.test_node.proofs.desks.threads_share_a_desk.Given as goal

abbrev pub ghosts-settled : goal.ghosts-settled
ghosts-settled g a = record { name = a.blank.name; parts = a.blank.parts }
