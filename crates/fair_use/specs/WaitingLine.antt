-- Whose turn it is where many ask for what a few threads do, each for as long as it takes.
use Rattle.std.specs.Prelude.{ℕ, ◌+◌, ◌-◌, Bool, ◌&&◌, not, ltb, min, Option, Some, None, List, [], ◌∷◌, ◌++◌, remove, slice_get}
use Rattle.std.specs.List.{position_from}
use Rattle.fair_use.specs.declared.waiting_line.Crew.{Crew}
use Rattle.fair_use.specs.declared.waiting_line.Standing.{Standing}

-- whether who holds so many of what all share may have one more: it has fewer than are free. So each leaves as many as it has, and eight
-- of them, who take turns, leave some for a ninth
abbrev pub may_one_more : ℕ → ℕ → Bool
may_one_more held free = ltb held free

-- whether it may be the turn of who stands in line like this, where so many threads are free: something of it waits, and it may have one
-- more under way
abbrev pub is_ready : ℕ → Standing → Bool
is_ready free standing = ltb 0 standing.waiting && may_one_more standing.under_way free

-- the place in line of whose turn it is: the first who is ready. Nobody's turn it is where nobody is
abbrev pub next_turn : ℕ → List Standing → Option ℕ
next_turn free line = position_from (is_ready free) 0 line

-- how it stands once one of what waits of it is under way
abbrev pub begun : Standing → Standing
begun standing = record { asker = standing.asker; under_way = min (standing.under_way + 1) 18446744073709551615; waiting = standing.waiting - 1 }

-- the line once this one has had the turn of this place: it is the last, with one more under way, and all others stand as they stood to
-- one another
abbrev pub behind : ℕ → Standing → List Standing → List Standing
behind place standing line = remove (line ++ begun standing ∷ []) place

-- the line after the turn of a place; the same where nobody has it
abbrev pub after_turn : ℕ → List Standing → List Standing
after_turn place line = placed (slice_get line place) where
  placed : Option Standing → List Standing
  placed None = line
  placed (Some standing) = behind place standing line

-- how many threads could begin something, those among them that would have to be started
abbrev pub free_of : Crew → ℕ
free_of crew = crew.most - crew.busy

-- whether one more thread is started where so much waits: there may be one more, and idle ones are too few
abbrev pub needs_one : Crew → ℕ → Bool
needs_one crew waiting = ltb crew.alive crew.most && ltb (crew.alive - crew.busy) waiting

-- whether a thread that was idle for so long ends: that is long enough, and it is nobody's turn
abbrev pub may_end : ℕ → ℕ → Bool → Bool
may_end idle most_idle has_turn = not (ltb idle most_idle) && not has_turn
