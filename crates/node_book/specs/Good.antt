-- When a receipt is good, and the lowest number of one that is not.
use Rattle.std.specs.Prelude.{◌≡◌, ℕ, ◌-◌, ◌<◌, ◌≤◌, ◌==◌, nat_le, nat_lt, true, List, length, take, Option, Some, None, min, slice_get, count_by, sum_by}
use Rattle.std.specs.List.{list_all}
use Rattle.node_words.specs.declared.action.Action.{Action}
use Rattle.plain_node.specs.Tally.{tally_of}
use Rattle.node_book.specs.Book.{Book, count_of, events_of, outs_of}
use Rattle.node_book.specs.Seats.{Claim, Held}

-- the number of kept receipts with number n
abbrev pub numbered : ℕ → List Held → ℕ
numbered n seats = sum_by (λ seat. count_by (λ receipt. receipt.number == n) seat.receipts) seats

-- the number of kept receipts whose number is at least the base
abbrev pub kept_from : ℕ → List Held → ℕ
kept_from base seats = sum_by (λ seat. count_by (λ receipt. nat_le base receipt.number) seat.receipts) seats

-- the book has the receipt's event, with the receipt's tally, at the receipt's number
pub record Stands (b : Book) (receipt : Claim) : Type 0 where
  pub from_base : b.base ≤ receipt.number
  pub taken : receipt.number < count_of b
  pub there : slice_get b.entries (receipt.number - b.base) ≡ Some (receipt.event, receipt.tally)

-- a receipt is good: the book has it, no other kept receipt has its number, and its seat's earlier receipts have lower numbers
pub record IsGoodReceipt (b : Book) (seats : List Held) (earlier : List Claim) (receipt : Claim) : Type 0 where
  pub stands : Stands b receipt
  pub alone : numbered receipt.number seats ≡ 1
  pub rising : list_all (λ before. nat_lt before.number receipt.number) earlier ≡ true

-- the receipt at index j of a seat has number n, which is at least the base, and is not good
pub record IsMisfitAt (b : Book) (seats : List Held) (receipts : List Claim) (j n : ℕ) : Type 0 where
  pub receipt : Claim
  pub is : slice_get receipts j ≡ Some receipt
  pub number_is : receipt.number ≡ n
  pub from_base : b.base ≤ n
  pub bad : IsGoodReceipt b seats (take j receipts) receipt → ⊥

-- the same for some receipt of the seat at index i
abbrev pub IsMisfitOf : Book → List Held → ℕ → ℕ → Type 0
IsMisfitOf b seats i n = (seat : Held) × (slice_get seats i ≡ Some seat) × ((j : ℕ) × IsMisfitAt b seats seat.receipts j n)

-- some kept receipt has number n, which is at least the base, and is not good
abbrev pub IsMisfit : Book → List Held → ℕ → Type 0
IsMisfit b seats n = (i : ℕ) × IsMisfitOf b seats i n

-- the receipt at index j of a seat is good, if it is for an event of the present volume
abbrev pub IsGoodAt : Book → List Held → List Claim → ℕ → Type 0
IsGoodAt b seats receipts j =
    (receipt : Claim) → slice_get receipts j ≡ Some receipt → b.base ≤ receipt.number → IsGoodReceipt b seats (take j receipts) receipt

-- every kept receipt whose number is at least the base is good
abbrev pub AreAllGood : Book → List Held → Type 0
AreAllGood b seats = (i : ℕ) (seat : Held) → slice_get seats i ≡ Some seat → (j : ℕ) → IsGoodAt b seats seat.receipts j

-- no seat has dropped a receipt: each keeps one for every event taken for it
abbrev pub AreAllKept : List Held → Type 0
AreAllKept seats = (i : ℕ) (seat : Held) → slice_get seats i ≡ Some seat → length seat.receipts ≡ seat.share

-- later receipts of a seat have higher numbers
abbrev pub AreRising : List Claim → Type 0
AreRising receipts =
    (i j : ℕ) (earlier later : Claim) → i < j → slice_get receipts i ≡ Some earlier → slice_get receipts j ≡ Some later → earlier.number < later.number

-- when one thread replays a book that was never turned, its event at the receipt's number is the receipt's event, and the receipt's
-- tally is that of the actions of that event
pub record IsOfRun (b : Book) (receipt : Claim) : Type 0 where
  pub actions : List Action
  pub event : slice_get (events_of b.entries) receipt.number ≡ Some receipt.event
  pub answer : slice_get (outs_of b) receipt.number ≡ Some actions
  pub tally : receipt.tally ≡ tally_of actions

-- the same for every kept receipt
abbrev pub AreAllOfRun : Book → List Held → Type 0
AreAllOfRun b seats = (i : ℕ) (seat : Held) → slice_get seats i ≡ Some seat → (j : ℕ) (receipt : Claim) → slice_get seat.receipts j ≡ Some receipt → IsOfRun b receipt

-- the least number of which P holds, or none if it holds of no number
abbrev pub IsLeastOf : (ℕ → Type 0) → Option ℕ → Type 0
IsLeastOf P None = (n : ℕ) → P n → ⊥
IsLeastOf P (Some n) = P n × ((m : ℕ) → P m → n ≤ m)

-- the lesser of two optional numbers; an absent one is ignored
abbrev pub lesser_of : Option ℕ → Option ℕ → Option ℕ
lesser_of None b = b
lesser_of (Some x) None = Some x
lesser_of (Some x) (Some y) = Some (min x y)
