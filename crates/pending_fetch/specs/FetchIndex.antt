-- The index of a fetch in the order of opening.
use Rattle.std.specs.Prelude.{ℕ, ◌==◌, List, Option, position}
use Rattle.pending_fetch.specs.Fetches.{PendingFetch}

-- the index of the fetch with this number
abbrev pub fetch_index : ℕ → List PendingFetch → Option ℕ
fetch_index number list = position (λ (fetch : PendingFetch). fetch.number == number) list
