use Rattle.node_book.proofs.settle.misfit_at.Goals as goal

pub returns-then-is_good-clause-good : goal.returns-then-is_good-clause-good
returns-then-is_good-clause-good g c = λ none receipt at from_base. (c.is_good.ensures receipt at).0 c.if-is_good.true
