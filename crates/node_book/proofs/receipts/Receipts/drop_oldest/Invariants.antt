use Rattle.std.proofs.Common.{◌≡◌, drop}
use Rattle.node_book.proofs.receipts.Receipts.drop_oldest.Given as goal

abbrev pub invariant-loop : goal.invariant-loop
invariant-loop l = l.self ≡ drop l.counter l.fn.self
