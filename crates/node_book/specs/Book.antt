-- The book, a log of a node's events, and when it is legal.
use Rattle.std.specs.Prelude.{◌≡◌, ℕ, ◌+◌, ◌^◌, ◌<◌, ◌≤◌, nat_le, Bool, ◌||◌, List, [], ◌∷◌, ◌++◌, map, length, sum_by, ◌==◌, if◌then◌else◌}
use Rattle.node_words.specs.declared.action.Action.{Action}
use Rattle.node_core.specs.Happening.{Happening}
use Rattle.node_core.specs.Run.{answers}
use Rattle.node_core.specs.State.{State, HasTaken}
use Rattle.plain_node.specs.declared.tally.Tally.{Tally}
use Rattle.plain_node.specs.Tally.{tally_of}
use Rattle.node_book.specs.Contents.{contents_of}

-- the states at the start of the book, at the opening of the present volume and now; the entries since the opening, each an
-- event with the tally of its actions; the number of events before them; and the capacity of a volume, in events and in octets of
-- contents
pub record Book : Type 0 where
  pub first : State
  pub opening : State
  pub entries : List (Happening × Tally)
  pub base : ℕ
  pub present : State
  pub volume : ℕ
  pub octets : ℕ

-- the events of the entries
abbrev pub events_of : List (Happening × Tally) → List Happening
events_of entries = map (λ entry. entry.0) entries

-- the tallies of the entries
abbrev pub tallies_of : List (Happening × Tally) → List Tally
tallies_of entries = map (λ entry. entry.1) entries

-- the actions of each entry's event when one thread replays the events in order from the opening state
abbrev pub outs_of : Book → List (List Action)
outs_of b = answers b.opening.plain b.opening.filters (events_of b.entries)

-- the number of events taken, in all volumes
abbrev pub count_of : Book → ℕ
count_of b = b.base + length b.entries

-- the octets of the contents of the entries
abbrev pub entry_octets : List (Happening × Tally) → ℕ
entry_octets entries = sum_by (λ entry. contents_of entry.0) entries

-- whether the present volume takes no further event: it has as many as it may have, or the octets of their contents have reached
-- the capacity in octets
abbrev pub is_full : Book → Bool
is_full b = length b.entries == b.volume || nat_le b.octets (entry_octets b.entries)

-- a legal book, as one thread could have made it: from the opening state the node has taken exactly the events of the entries,
-- in order, and reached its present state, and each tally is that of its event's actions; if no events precede the volume, its
-- opening state is the first state
pub record IsLegal (b : Book) : Type 0 where
  pub taken : HasTaken b.opening b.present (events_of b.entries) (outs_of b)
  pub tallied : tallies_of b.entries ≡ map tally_of (outs_of b)
  pub first_opens : b.base ≡ 0 → b.opening ≡ b.first
  pub count_fits : count_of b < 2 ^ 64
  pub volume_fits : (0 < b.volume) × (b.volume ≤ 1048576)
  pub entries_fit : length b.entries ≤ b.volume
  pub octets_fit : (0 < b.octets) × (b.octets < 2 ^ 32)

-- the new book of a node, without entries, whose volumes have these capacities
abbrev pub begun_within : State → ℕ → ℕ → Book
begun_within node volume octets = record { first = node; opening = node; entries = []; base = 0; present = node; volume = volume; octets = octets }

-- the same with the usual capacity in octets, 64 MiB
abbrev pub begun : State → ℕ → Book
begun node volume = begun_within node volume 67108864

-- the book with one event and its tally appended, and the node's state after it
abbrev pub written : Book → Happening → Tally → State → Book
written b event tally state = record b { entries = b.entries ++ (event, tally) ∷ []; present = state }

-- the book with a new volume, which begins at the present state
abbrev pub turned : Book → Book
turned b = record b { opening = b.present; entries = []; base = count_of b }

-- the book to which the next event is appended: turned first if its volume is full
abbrev pub ready : Book → Book
ready b = if is_full b then turned b else b
