-- The table of neighbours: the configuration, and for each neighbour its smoothed time and missed rounds.
use Rattle.std.specs.Prelude.{ℕ, ◌+◌, ◌-◌, ◌*◌, ◌/◌, ◌≤◌, min, Bool, nat_lt, ◌==◌, ◌&&◌, List, length, replicate, Option, Some, None, option_map, unwrap_or, slice_get, slice_set, find, position, true, false}
use Rattle.std.specs.Str.{bytes_eq}
use Rattle.node_terms.specs.declared.ends.End.{End}
use Rattle.node_terms.specs.declared.ends.Socket.{Socket}
use Rattle.node_terms.specs.declared.ends.Socket.TheVariants.{Icp, Htcp}
use Rattle.neighbours.specs.declared.neighbour.Neighbour.{Neighbour}
use Rattle.neighbours.specs.declared.key.Key.{Key}
use Rattle.neighbours.specs.declared.table.Mark.{Mark}

-- the neighbours and the signing keys as configured, and a mark for each neighbour
pub record Rows : Type 0 where
  pub neighbours : List Neighbour
  pub keys : List Key
  pub marks : List Mark

-- the initial mark: no time, no misses
abbrev pub blank : Mark
blank = record { time = None; misses = 0 }

-- the initial table of a configuration
abbrev pub opening : List Neighbour → List Key → Rows
opening neighbours keys = record { neighbours = neighbours; keys = keys; marks = replicate (length neighbours) blank }

-- the mark of the neighbour at an index; `blank` if there is none
abbrev pub mark_at : List Mark → ℕ → Mark
mark_at marks n = unwrap_or (slice_get marks n) blank

-- the weight of the neighbour at an index; 1 if there is none
abbrev pub weight_at : List Neighbour → ℕ → ℕ
weight_at neighbours n = unwrap_or (option_map (λ (neighbour : Neighbour). neighbour.weight) (slice_get neighbours n)) 1

-- the peer is up: fewer than 20 misses
abbrev pub is_up : Mark → Bool
is_up mark = nat_lt mark.misses 20

-- the smoothed time, in eighths of a millisecond: the first sample r gives 8r, a later one S - S/8 + r. Samples are capped
-- at 65,535 ms.
abbrev pub smoothed : Option ℕ → ℕ → ℕ
smoothed None ms = 8 * min ms 65535
smoothed (Some s) ms = (s - s / 8) + min ms 65535

-- the mark after a sample of `ms` milliseconds
abbrev pub sampled : Mark → ℕ → Mark
sampled mark ms = record mark { time = Some (smoothed mark.time ms) }

-- the mark after a reply: no misses
abbrev pub without_misses : Mark → Mark
without_misses mark = record mark { misses = 0 }

-- the mark after one more miss; the count saturates at 20
abbrev pub missed : Mark → Mark
missed mark = record mark { misses = min (mark.misses + 1) 20 }

-- replaces the mark at an index
abbrev pub with_mark : Rows → ℕ → Mark → Rows
with_mark rows n mark = record rows { marks = slice_set rows.marks n mark }

-- whether two ends have the same address and port
abbrev pub same_end : End → End → Bool
same_end a b = bytes_eq a.addr b.addr && (a.port == b.port)

-- equality of protocols
abbrev pub same_protocol : Socket → Socket → Bool
same_protocol Icp Icp = true
same_protocol Icp Htcp = false
same_protocol Htcp Icp = false
same_protocol Htcp Htcp = true

-- the index of the neighbour with this protocol and end
abbrev pub neighbour_index : List Neighbour → Socket → End → Option ℕ
neighbour_index neighbours socket from =
    position (λ neighbour. same_protocol neighbour.protocol socket && same_end neighbour.end from) neighbours

-- the secret of the key with this name
abbrev pub secret_of : List Key → List ℕ → Option (List ℕ)
secret_of keys name = option_map (λ (key : Key). key.secret) (find (λ key. bytes_eq key.name name) keys)

-- the invariant of a mark: a time of at most 8 * 65,535, and at most 20 misses
pub record IsMark (mark : Mark) : Type 0 where
  pub time : unwrap_or mark.time 0 ≤ 524280
  pub misses : mark.misses ≤ 20
