-- The result of settling a desk, in terms of its book.
use Rattle.std.specs.Prelude.{◌≡◌, ℕ, ◌↔◌, List, Some, Result, IsErrOf, IfOk, OnOk}
use Rattle.node_book.specs.declared.settle.Report.{Report}
use Rattle.node_book.specs.declared.settle.SettleFault.{SettleFault}
use Rattle.node_book.specs.declared.settle.SettleFault.TheVariants.{Seats, Misfit}
use Rattle.node_book.specs.Book.{Book, count_of}
use Rattle.node_book.specs.Seats.{Held, AreAllOpened}
use Rattle.node_book.specs.Good.{AreAllGood, IsLeastOf, IsMisfit, kept_from}

-- the result if `opened` seats were opened, `seats` were returned, and the book is b
pub record Settles (opened : ℕ) (seats : List Held) (b : Book) (answer : Result Report SettleFault) : Type 0 where
  pub refused : IsErrOf answer Seats ↔ (AreAllOpened opened seats → ⊥)
  pub misfit : (n : ℕ) → IsErrOf answer (Misfit n) ↔ (AreAllOpened opened seats × IsLeastOf (IsMisfit b seats) (Some n))
  pub good : OnOk answer (AreAllGood b seats)
  pub told : IfOk answer (λ report. (report.count ≡ count_of b) × (report.base ≡ b.base) × (report.matched ≡ kept_from b.base seats))
