-- The fetches in a slab, and their keys in it, the cells, in the order of opening.
use Rattle.std.specs.Prelude.{◌≡◌, ℕ, nat_eq, true, false, List, [], length, map, Option, Some, None, is_some}
use Rattle.std.specs.List.{list_all, IsDistinct}
use Rattle.slab.specs.Slab.{Slab, get, slab_len}
use Rattle.pending_fetch.specs.Fetches.{PendingFetch}

-- stands for the fetch in an empty cell, which no list of cells has
abbrev pub nothing : PendingFetch
nothing = record {
  number = 0;
  key = [];
  owner = None;
  attempt = 0;
  round = record { start = 0; asked = false; peers = []; replies = []; expired = false };
  waiters = [];
}

abbrev pub fetch_in : Option PendingFetch → PendingFetch
fetch_in None = nothing
fetch_in (Some fetch) = fetch

-- the fetches in these cells
abbrev pub fetches_at : Slab PendingFetch → List ℕ → List PendingFetch
fetches_at slab cells = map (λ cell. fetch_in (get slab cell)) cells

-- each cell has a fetch, no two are the same, and the slab has no other fetch
pub record IsInCells (slab : Slab PendingFetch) (cells : List ℕ) : Type 0 where
  pub filled : list_all (λ cell. is_some (get slab cell)) cells ≡ true
  pub apart : IsDistinct nat_eq cells
  pub whole : slab_len slab ≡ length cells
