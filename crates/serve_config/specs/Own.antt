-- Neighbours that are this cache itself, and own sockets that are in each other's way.
use Rattle.std.specs.Prelude.{ℕ, [], ◌∷◌, bytes_eq, ◌==◌, ◌&&◌, ◌||◌, not, Bool}
use Rattle.neighbours.specs.declared.neighbour.Neighbour.{Neighbour}
use Rattle.neighbours.specs.Rows.{same_end}
use Rattle.serve_config.specs.declared.settings.Settings.{Settings}

-- whether queries to a neighbour go to one of this cache's own query sockets
abbrev pub queries_self : Settings → Neighbour → Bool
queries_self settings neighbour =
    same_end neighbour.end settings.node.icp || same_end neighbour.end settings.node.htcp

-- whether fetches from a neighbour go to this cache's own socket for clients, or to the one for administration at 127.0.0.1
abbrev pub fetches_self : Settings → Neighbour → Bool
fetches_self settings neighbour =
    (bytes_eq neighbour.end.addr settings.address && (neighbour.http_port == settings.http_port))
    || (bytes_eq neighbour.end.addr (127 ∷ 0 ∷ 0 ∷ 1 ∷ []) && (neighbour.http_port == settings.admin_port))

-- whether a neighbour is this cache itself
abbrev pub is_self : Settings → Neighbour → Bool
is_self settings neighbour = queries_self settings neighbour || fetches_self settings neighbour

-- whether two sockets of one protocol at one address can't both have these ports; at port 0 the system chooses a free one
abbrev pub clashes : ℕ → ℕ → Bool
clashes port other = not (port == 0) && (port == other)

-- whether the sockets for clients and for administration, which is at 127.0.0.1, can't both be bound
abbrev pub shares_port : Settings → Bool
shares_port settings =
    bytes_eq settings.address (127 ∷ 0 ∷ 0 ∷ 1 ∷ []) && clashes settings.http_port settings.admin_port
