-- Comparing some receipts of one seat with the book while the desk is open.
use Rattle.std.specs.Prelude.{◌≡◌, ◌⊎◌, ℕ, ◌<◌, ◌≤◌, nat_lt, true, List, take, drop, Option, Some, None, slice_get}
use Rattle.std.specs.List.{list_all}
use Rattle.node_book.specs.Book.{Book}
use Rattle.node_book.specs.Seats.{Claim, Held}
use Rattle.node_book.specs.Good.{Stands, IsLeastOf}

-- a receipt agrees with the book and its seat: the book has it, and the seat's earlier receipts have lower numbers
pub record Agrees (b : Book) (earlier : List Claim) (receipt : Claim) : Type 0 where
  pub stands : Stands b receipt
  pub rising : list_all (λ before. nat_lt before.number receipt.number) earlier ≡ true

-- the receipt at index j has number n, which is at least the base, and doesn't agree
pub record IsAstrayAt (b : Book) (receipts : List Claim) (j n : ℕ) : Type 0 where
  pub receipt : Claim
  pub is : slice_get receipts j ≡ Some receipt
  pub number_is : receipt.number ≡ n
  pub from_base : b.base ≤ n
  pub bad : Agrees b (take j receipts) receipt → ⊥

-- one of the oldest 16 receipts has number n, which is at least the base, and doesn't agree
abbrev pub IsAstray : Book → List Claim → ℕ → Type 0
IsAstray b receipts n = (j : ℕ) × (j < 16) × IsAstrayAt b receipts j n

-- the seat after an audit with this result: if it found nothing, the seat has let go of its oldest 16 receipts; otherwise it is as
-- before
abbrev pub after_audit : Held → Option ℕ → Held
after_audit seat None = record seat { receipts = drop 16 seat.receipts }
after_audit seat (Some n) = seat

-- the seat is as before, or an audit that found nothing has let go of its oldest 16 receipts
abbrev pub IsAudited : Held → Held → Type 0
IsAudited old new = (new ≡ old) ⊎ (new ≡ after_audit old None)

-- an audit by the book b: its result is the lowest number of a compared receipt that doesn't agree
pub record Audits (old new : Held) (b : Book) (found : Option ℕ) : Type 0 where
  pub least : IsLeastOf (IsAstray b old.receipts) found
  pub seat : new ≡ after_audit old found
