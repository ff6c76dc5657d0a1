-- The indexes beside the list of fetches: fetch number by key, for shared fetches, and fetch number by waiting client.
use Rattle.std.specs.Prelude.{◌≡◌, ℕ, ◌<◌, ◌≤◌, ◌==◌, ◌&&◌, nat_lt, Bool, true, false, not, List, [], ◌∷◌, length, Option, Some, None, slice_index_or, if◌then◌else◌}
use Rattle.std.specs.List.{list_any, list_all}
use Rattle.std.specs.Map.{lookup}
use Rattle.std.specs.Str.{bytes_eq}
use Rattle.pending_fetch.specs.Fetches.{PendingFetch, is_shared, shares, shared_number}
use Rattle.pending_fetch.specs.Legal.{IsLegal}

-- whether no two shared fetches have the same key
abbrev pub is_alone : List PendingFetch → Bool
is_alone [] = true
is_alone (fetch ∷ list) = not (is_shared fetch && list_any (shares fetch.key) list) && is_alone list

-- the index by key: entries of a key and a fetch number
abbrev pub Keyed : Type 0
Keyed = List (List ℕ × ℕ)

-- the number under a key
abbrev pub number_under : List ℕ → Keyed → Option ℕ
number_under key keys = lookup (bytes_eq key) keys

-- whether the client waits for this fetch
abbrev pub waits_in : ℕ → PendingFetch → Bool
waits_in client fetch = list_any (λ waiter. waiter == client) fetch.waiters

-- the number of the fetch that the client waits for
abbrev pub number_for : ℕ → List PendingFetch → Option ℕ
number_for client [] = None
number_for client (fetch ∷ list) = if waits_in client fetch then Some fetch.number else number_for client list

-- whether a number is present and equals this one
abbrev pub is_number : ℕ → Option ℕ → Bool
is_number number None = false
is_number number (Some other) = other == number

-- the index by client: entries of a waiting client and a fetch number
abbrev pub Waiting : Type 0
Waiting = List (ℕ × ℕ)

-- the number under a client
abbrev pub number_beside : Waiting → ℕ → Option ℕ
number_beside [] client = None
number_beside ((c, n) ∷ rest) client = if c == client then Some n else number_beside rest client

-- whether the clients are strictly ascending
abbrev pub is_sorted : Waiting → Bool
is_sorted [] = true
is_sorted (first ∷ rest) = list_all (λ (other : ℕ × ℕ). nat_lt first.0 other.0) rest && is_sorted rest

-- the client at an index
abbrev pub client_at : Waiting → ℕ → ℕ
client_at l i = let pair = slice_index_or l i (0, 0) in pair.0

-- the client is at index i
pub record IsAt (l : Waiting) (client i : ℕ) : Type 0 where
  pub in_range : i < length l
  pub has_client : client_at l i ≡ client

-- the client is absent and index i is where to insert it: smaller clients before i, greater ones from i on
pub record IsGapFor (l : Waiting) (client i : ℕ) : Type 0 where
  pub in_range : i ≤ length l
  pub smaller_before : (j : ℕ) → j < i → client_at l j < client
  pub greater_after : (j : ℕ) → i ≤ j → j < length l → client < client_at l j

-- the list is legal, no two shared fetches have the same key, and both indexes agree with the list
pub record IsIndexed (list : List PendingFetch) (keys : Keyed) (clients : Waiting) : Type 0 where
  pub legal : IsLegal list
  pub alone : is_alone list ≡ true
  pub keyed : (key : List ℕ) → number_under key keys ≡ shared_number key list
  pub waiting : (client : ℕ) → number_beside clients client ≡ number_for client list
