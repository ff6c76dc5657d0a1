use Rattle.test_node.proofs.contents.receipts_give_way_by_their_octets.Given as goal

abbrev pub ghosts-kept : goal.ghosts-kept
ghosts-kept g a = record { name = a.blank.name; parts = a.blank.parts }
