-- A seat as plain data: its index, its share of the count, the receipts that it keeps, and how many octets of contents these may have.
use Rattle.std.specs.Prelude.{◌≡◌, ℕ, ◌+◌, ◌-◌, ◌<◌, ◌==◌, nat_le, if◌then◌else◌, List, [], ◌∷◌, ◌++◌, length, drop, sum_by, count_by, zero, suc}
use Rattle.node_core.specs.Happening.{Happening}
use Rattle.plain_node.specs.declared.tally.Tally.{Tally}
use Rattle.node_book.specs.Book.{Book}
use Rattle.node_book.specs.Contents.{contents_of}

-- a receipt as plain data: an event's number, the event, and the tally of its actions
pub record Claim : Type 0 where
  pub number : ℕ
  pub event : Happening
  pub tally : Tally

abbrev pub claim : ℕ → Happening → Tally → Claim
claim number event tally = record { number = number; event = event; tally = tally }

-- a seat: its index, the number of events taken for it, its kept receipts, oldest first, and how many octets of contents it keeps
pub record Held : Type 0 where
  pub place : ℕ
  pub share : ℕ
  pub receipts : List Claim
  pub room : ℕ

-- the last 1,024 receipts
abbrev pub latest : List Claim → List Claim
latest receipts = drop (length receipts - 1024) receipts

-- the octets of the contents of receipts
abbrev pub receipt_octets : List Claim → ℕ
receipt_octets receipts = sum_by (λ receipt. contents_of receipt.event) receipts

-- the receipts without the oldest ones that have to go so that the contents of the others have at most `room` octets
abbrev pub light : ℕ → List Claim → List Claim
light room [] = []
light room (oldest ∷ later) = if nat_le (receipt_octets (oldest ∷ later)) room then oldest ∷ later else light room later

-- the seat without the receipts for which it has no room
abbrev pub lightened : Held → Held
lightened seat = record seat { receipts = light seat.room seat.receipts }

-- the seat after one more event was taken for it, before it lets go of the receipts for which it has no room
abbrev pub credited : Held → Claim → Held
credited seat receipt = record seat { share = seat.share + 1; receipts = latest (seat.receipts ++ receipt ∷ []) }

-- the seat after one more event was taken for it, with the receipts for which it has room
abbrev pub receipted : Held → Claim → Held
receipted seat receipt = lightened (credited seat receipt)

-- n new seats, numbered from 0, each with share 0, no receipts, and room for this many octets of contents
abbrev pub opened_with_room : ℕ → ℕ → List Held
opened_with_room room zero = []
opened_with_room room (suc n) = opened_with_room room n ++ record { place = n; share = 0; receipts = []; room = room } ∷ []

-- the same with the usual room, 4 MiB
abbrev pub opened_seats : ℕ → List Held
opened_seats n = opened_with_room 4194304 n

-- these are the seats with indices 0 to n - 1, each once
pub record AreAllOpened (n : ℕ) (seats : List Held) : Type 0 where
  pub as_many : length seats ≡ n
  pub each_once : (place : ℕ) → place < n → count_by (λ seat. seat.place == place) seats ≡ 1

-- what is behind the mutex: the book, the total of all shares, and the number of seats opened
pub record Counted : Type 0 where
  pub book : Book
  pub total : ℕ
  pub seats : ℕ
