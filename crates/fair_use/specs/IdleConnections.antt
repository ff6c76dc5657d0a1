-- Which idle connection to a server is closed for one that carries no request any more, where so many to the same server under the same
-- name are idle, and so many in all, over all threads: 32 to a server are kept, and 256 in all.
use Rattle.std.specs.Prelude.{ℕ, ◌<◌, ◌≤◌}
use Rattle.fair_use.specs.declared.keeping.GivesWay.{GivesWay}
use Rattle.fair_use.specs.declared.keeping.GivesWay.TheVariants.{Nobody, OldestThere, Oldest}

abbrev pub IsClosedFor : ℕ → ℕ → GivesWay → Type 0
IsClosedFor to_server in_all Nobody = (to_server < 32) × (in_all < 256)
IsClosedFor to_server in_all OldestThere = 32 ≤ to_server
IsClosedFor to_server in_all Oldest = (to_server < 32) × (256 ≤ in_all)
