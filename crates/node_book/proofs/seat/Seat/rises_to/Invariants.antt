use Rattle.std.proofs.Common.{◌≡◌, take}
use Rattle.std.specs.Prelude.{nat_lt}
use Rattle.std.specs.List.{list_all}
use Rattle.node_book.proofs.seat.Seat.rises_to.Given as goal

abbrev pub invariant-loop-i : goal.invariant-loop-i
invariant-loop-i g l = l.rising ≡ list_all (λ d. nat_lt d.number l.number) (take l.i l.self.receipts)
