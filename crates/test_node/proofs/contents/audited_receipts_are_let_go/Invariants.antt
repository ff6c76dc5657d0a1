use Rattle.test_node.proofs.contents.audited_receipts_are_let_go.Given as goal

abbrev pub ghosts-audited : goal.ghosts-audited
ghosts-audited g a = record { name = a.blank.name; parts = a.blank.parts }
