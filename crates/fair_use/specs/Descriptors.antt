-- How a table of open files is divided between clients and servers, and when there is room for one more connection to a server.
use Rattle.std.specs.Prelude.{◌≡◌, ℕ, ◌+◌, ◌-◌, ◌*◌, ◌/◌, ◌<◌, max, min}
use Rattle.fair_use.specs.declared.descriptors.Division.{Division}
use Rattle.fair_use.specs.declared.descriptors.FileRoom.{FileRoom}
use Rattle.fair_use.specs.declared.descriptors.FileRoom.TheVariants.{Free, InPlaceOfIdle, Nothing}

-- what is left beside the program itself: its 36 files, and 6 of each thread that serves clients
abbrev pub left_of : ℕ → ℕ → ℕ
left_of files threads = files - (36 + 6 * threads)

-- the seats of clients: what 320 files leave, or half of what is left where that is more
abbrev pub seats_of : ℕ → ℕ → ℕ
seats_of files threads = max (left_of files threads - 320) (left_of files threads - left_of files threads / 2)

-- of so many files beside the seats the administration has 32, or a quarter where that is less
abbrev pub kept_of : ℕ → ℕ
kept_of beside = min 32 (beside / 4)

-- clients have these seats, unless there may be no more; servers have what these leave, but for the administration's
abbrev pub IsDivided : ℕ → ℕ → ℕ → Division → Type 0
IsDivided files threads most d =
    (d.seats ≡ min (seats_of files threads) most)
    × (d.servers ≡ (left_of files threads - d.seats) - kept_of (left_of files threads - d.seats))

-- of so many connections to servers one more may be beside so many that carry something and so many that are idle
abbrev pub IsOneMore : ℕ → ℕ → ℕ → Type 0
IsOneMore servers busy idle = busy + idle < servers

-- idle ones go first
abbrev pub IsRoom : ℕ → ℕ → ℕ → FileRoom → Type 0
IsRoom servers busy idle Free = IsOneMore servers busy idle
IsRoom servers busy idle InPlaceOfIdle = (IsOneMore servers busy idle → ⊥) × (0 < idle)
IsRoom servers busy idle Nothing = (IsOneMore servers busy idle → ⊥) × (idle ≡ 0)
