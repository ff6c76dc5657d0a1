use Rattle.std.proofs.Common.{◌≡◌, length}
use Rattle.node_book.specs.Seats.{light}
use Rattle.node_book.proofs.receipts.Receipts.lighten.Given as goal

-- what is left to be dropped stays the same
abbrev pub invariant-heavy : goal.invariant-heavy
invariant-heavy l = light l.room l.self ≡ light l.room l.fn.self

abbrev pub decreases-heavy : goal.decreases-heavy
decreases-heavy l = length l.self
