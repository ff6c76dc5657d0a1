-- The pending fetches as a list in the order of opening, and the functions on it that the contracts use.
use Rattle.std.specs.Prelude.{ℕ, ◌+◌, ◌==◌, nat_le, Bool, true, false, not, ◌&&◌, List, [], ◌∷◌, ◌++◌, map, filter, find, Option, Some, None, option_map, is_none, if◌then◌else◌}
use Rattle.std.specs.List.{list_any}
use Rattle.std.specs.Str.{bytes_eq}
use Rattle.peer_select.specs.declared.reply.Reply.{Reply}
use Rattle.peer_select.specs.Poll.{Poll, decided, reply_added, ended}
use Rattle.pending_fetch.specs.Numbers.{next_of}

-- a pending fetch: its number, key, owner if it is private, attempt, round, and waiters in the order of joining
pub record PendingFetch : Type 0 where
  pub number : ℕ
  pub key : List ℕ
  pub owner : Option ℕ
  pub attempt : ℕ
  pub round : Poll
  pub waiters : List ℕ

-- the last number that was given, and the pending fetches in the order of opening
pub record Fetches : Type 0 where
  pub last : ℕ
  pub list : List PendingFetch

-- whether a fetch is shared: it has no owner
abbrev pub is_shared : PendingFetch → Bool
is_shared fetch = is_none fetch.owner

-- the numbers, in the order of the list
abbrev pub numbers : List PendingFetch → List ℕ
numbers list = map (λ (fetch : PendingFetch). fetch.number) list

-- the start times of the rounds, in the order of the list
abbrev pub starts : List PendingFetch → List ℕ
starts list = map (λ (fetch : PendingFetch). fetch.round.start) list

-- the fetch with this number
abbrev pub fetch_of : ℕ → List PendingFetch → Option PendingFetch
fetch_of number list = find (λ (fetch : PendingFetch). fetch.number == number) list

-- whether there is a fetch with this number
abbrev pub has_number : ℕ → List PendingFetch → Bool
has_number number list = list_any (λ (fetch : PendingFetch). fetch.number == number) list

-- whether a fetch is shared and has this key
abbrev pub shares : List ℕ → PendingFetch → Bool
shares key fetch = is_shared fetch && bytes_eq fetch.key key

-- the number of the shared fetch with this key
abbrev pub shared_number : List ℕ → List PendingFetch → Option ℕ
shared_number key list = option_map (λ (fetch : PendingFetch). fetch.number) (find (shares key) list)

-- all waiters, fetch by fetch
abbrev pub all_waiters : List PendingFetch → List ℕ
all_waiters [] = []
all_waiters (fetch ∷ list) = fetch.waiters ++ all_waiters list

-- whether the client waits for any fetch
abbrev pub waits : ℕ → List PendingFetch → Bool
waits client list = list_any (λ waiter. waiter == client) (all_waiters list)

-- the waiters of a fetch, if there is one
abbrev pub waiters_in : Option PendingFetch → List ℕ
waiters_in None = []
waiters_in (Some fetch) = fetch.waiters

-- the waiters of the fetch with this number
abbrev pub waiters_of : ℕ → List PendingFetch → List ℕ
waiters_of number list = waiters_in (fetch_of number list)

-- the list with the fetch with this number changed, and all others as they were
abbrev pub changed : (PendingFetch → PendingFetch) → ℕ → List PendingFetch → List PendingFetch
changed change number [] = []
changed change number (fetch ∷ list) =
    if fetch.number == number then change fetch ∷ list else fetch ∷ changed change number list

-- the fetch with one more waiter, at the end
abbrev pub with_waiter : ℕ → PendingFetch → PendingFetch
with_waiter client fetch = record fetch { waiters = fetch.waiters ++ client ∷ [] }

-- the fetch after a reply to its round
abbrev pub with_reply : Reply → PendingFetch → PendingFetch
with_reply reply fetch = record fetch { round = reply_added fetch.round reply }

-- the fetch after its round ended
abbrev pub with_end : PendingFetch → PendingFetch
with_end fetch = record fetch { round = ended fetch.round }

-- the fetch at its next attempt; 65,535 is the last
abbrev pub with_next : PendingFetch → PendingFetch
with_next fetch = if fetch.attempt == 65535 then fetch else record fetch { attempt = fetch.attempt + 1 }

-- the waiters without this client
abbrev pub without_client : ℕ → List ℕ → List ℕ
without_client client waiters = filter (λ waiter. not (waiter == client)) waiters

-- the list with this client removed from every fetch
abbrev pub left : ℕ → List PendingFetch → List PendingFetch
left client [] = []
left client (fetch ∷ list) = record fetch { waiters = without_client client fetch.waiters } ∷ left client list

-- the list without the fetch with this number
abbrev pub without : ℕ → List PendingFetch → List PendingFetch
without number list = filter (λ (fetch : PendingFetch). not (fetch.number == number)) list

-- whether the round of a fetch is undecided and started at least 2,000 ms ago
abbrev pub is_due : ℕ → PendingFetch → Bool
is_due now fetch = not (decided fetch.round) && nat_le (fetch.round.start + 2000) now

-- the number of the first due fetch
abbrev pub first_due : ℕ → List PendingFetch → Option ℕ
first_due now list = option_map (λ (fetch : PendingFetch). fetch.number) (find (is_due now) list)

-- the numbers of all due fetches, in the order of the list
abbrev pub all_due : ℕ → List PendingFetch → List ℕ
all_due now list = numbers (filter (is_due now) list)

-- the owner of a fetch that this client opens: none if it is shared
abbrev pub owner_of : ℕ → Bool → Option ℕ
owner_of client true = None
owner_of client false = Some client

-- the number that the next fetch gets
abbrev pub next_number : Fetches → ℕ
next_number fetches = next_of (numbers fetches.list) fetches.last

-- a newly opened fetch: the client is its first waiter, and its owner unless it is shared
abbrev pub opened_fetch : ℕ → List ℕ → ℕ → Bool → Poll → PendingFetch
opened_fetch number key client shared round =
    record { number = number; key = key; owner = owner_of client shared; attempt = 0; round = round; waiters = client ∷ [] }

-- the table with one more fetch, at the end
abbrev pub opened : List ℕ → ℕ → Bool → Poll → Fetches → Fetches
opened key client shared round fetches = record {
  last = next_number fetches;
  list = fetches.list ++ opened_fetch (next_number fetches) key client shared round ∷ [];
}
