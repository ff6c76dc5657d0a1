-- Results and errors of the calls.
use Rattle.std.specs.Prelude.{ℕ, nat_lt, nat_le, Bool, true, false, ◌||◌, List, length, Option, Some, None, Result, Ok, Err, if◌then◌else◌}
use Rattle.std.specs.List.{list_all}
use Rattle.neighbours.specs.declared.neighbour.Neighbour.{Neighbour}
use Rattle.peer_select.specs.Poll.{Poll, matches}
use Rattle.pending_fetch.specs.declared.fault.JoinFault.{JoinFault}
use Rattle.pending_fetch.specs.declared.fault.JoinFault.TheVariants.{Full, Double}
use Rattle.pending_fetch.specs.declared.fetch.Fetch.{Fetch}
use Rattle.pending_fetch.specs.Fetches.{PendingFetch, all_waiters, waits, is_shared, changed, with_waiter}
use Rattle.pending_fetch.specs.Bounds.{most_fetches, most_waiters}

-- whether 1,024 clients wait
abbrev pub is_crowded : List PendingFetch → Bool
is_crowded list = nat_le most_waiters (length (all_waiters list))

-- whether 256 fetches are pending, or 1,024 clients wait
abbrev pub is_full : List PendingFetch → Bool
is_full list = nat_le most_fetches (length list) || is_crowded list

-- why a client may not join a fetch: the first error that applies, if any
abbrev pub join_fault : ℕ → List PendingFetch → Option JoinFault
join_fault client list = if is_crowded list then Some Full else if waits client list then Some Double else None

-- the result of joining, from the number of the shared fetch and the error: None if there is no such fetch
abbrev pub join_answer : Option ℕ → Option JoinFault → Option (Result (Unit {0}) JoinFault)
join_answer None fault = None
join_answer (Some number) (Some fault) = Some (Err fault)
join_answer (Some number) None = Some (Ok tt)

-- the list after joining, from the same two: it changes only if the result is Ok
abbrev pub join_list : ℕ → List PendingFetch → Option ℕ → Option JoinFault → List PendingFetch
join_list client list None fault = list
join_list client list (Some number) (Some fault) = list
join_list client list (Some number) None = changed (with_waiter client) number list

-- whether there is a fetch and it has an attempt left
abbrev pub may_advance : Option PendingFetch → Bool
may_advance None = false
may_advance (Some fetch) = nat_lt fetch.attempt 65535

-- whether the round of a fetch, if there is one, matches these neighbours
abbrev pub fits : List Neighbour → Option PendingFetch → Bool
fits neighbours None = true
fits neighbours (Some fetch) = matches neighbours fetch.round.peers

-- whether the rounds of all fetches match these neighbours
abbrev pub all_fit : List Neighbour → List PendingFetch → Bool
all_fit neighbours list = list_all (λ (fetch : PendingFetch). matches neighbours fetch.round.peers) list

-- the contents of the borrowed view of a fetch
pub record FetchFacts : Type 0 where
  pub key : List ℕ
  pub shared : Bool
  pub owner : Option ℕ
  pub attempt : ℕ
  pub round : Poll

-- the view of a pending fetch
abbrev pub told : PendingFetch → FetchFacts
told fetch = record { key = fetch.key; shared = is_shared fetch; owner = fetch.owner; attempt = fetch.attempt; round = fetch.round }

-- the contents of the code's view
abbrev pub shown : Fetch → FetchFacts
shown fetch = record { key = fetch.key.now; shared = fetch.shared; owner = fetch.owner; attempt = fetch.attempt; round = fetch.round.now }
