-- The queue of undecided rounds: the fetches whose rounds are undecided, in the order of opening.
use Rattle.std.specs.Prelude.{◌≡◌, ℕ, ◌+◌, ◌≤◌, Bool, true, false, not, nat_le, ◌==◌, List, [], ◌∷◌, map, filter, Option, Some, None, if◌then◌else◌}
use Rattle.peer_select.specs.Poll.{Poll, decided}
use Rattle.pending_fetch.specs.declared.undecided.Undecided.{Undecided}
use Rattle.pending_fetch.specs.Fetches.{PendingFetch}
use Rattle.pending_fetch.specs.Bounds.{most_fetches}

-- the queue entry of a fetch
abbrev pub as_undecided : PendingFetch → Undecided
as_undecided fetch = record { number = fetch.number; start = fetch.round.start }

-- the entries of all undecided fetches, in the order of the list
abbrev pub queue_of : List PendingFetch → List Undecided
queue_of list = map as_undecided (filter (λ (fetch : PendingFetch). not (decided fetch.round)) list)

-- the entries of one fetch: one if it is undecided, else none
abbrev pub entry_of : PendingFetch → List Undecided
entry_of fetch = if decided fetch.round then [] else as_undecided fetch ∷ []

-- the entry of a round opened under a number, if the round is undecided
abbrev pub entry_at : ℕ → Poll → Option Undecided
entry_at number round = if decided round then None else Some (record { number = number; start = round.start })

abbrev pub listed : Option Undecided → List Undecided
listed None = []
listed (Some entry) = entry ∷ []

-- the numbers in the queue
abbrev pub numbers_queued : List Undecided → List ℕ
numbers_queued queue = map (λ (entry : Undecided). entry.number) queue

-- the queue without the entries of a number
abbrev pub dequeued : ℕ → List Undecided → List Undecided
dequeued number queue = filter (λ (entry : Undecided). not (entry.number == number)) queue

-- the queue after a change of the fetch with this number, given whether its round is decided afterwards (None: no such fetch)
abbrev pub settled : Option Bool → ℕ → List Undecided → List Undecided
settled None number queue = queue
settled (Some true) number queue = dequeued number queue
settled (Some false) number queue = queue

-- the number of the first entry, if its round started at least 2,000 ms ago
abbrev pub first_of_queue : ℕ → List Undecided → Option ℕ
first_of_queue now [] = None
first_of_queue now (entry ∷ queue) = if nat_le (entry.start + 2000) now then Some entry.number else None

-- the queue has room for 256 entries, and holds those of the list
pub record IsQueue (room : ℕ) (queue : List Undecided) (list : List PendingFetch) : Type 0 where
  pub roomy : most_fetches ≤ room
  pub queue_is : queue ≡ queue_of list
