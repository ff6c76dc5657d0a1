-- Clerks as plain data: one that owns its node, and one at a seat of a desk.
use Rattle.std.specs.Prelude.{ℕ, List, Option, Some, None}
use Rattle.node_words.specs.declared.action.Action.{Action}
use Rattle.filter_slots.specs.Filters.{Filters}
use Rattle.node_core.specs.State.{State}
use Rattle.node_book.specs.Seats.{Held}
use Rattle.node_book.specs.Told.{Told}

-- the state of its node, the actions that were passed on, in order, and the number of the next event
pub record Alone : Type 0 where
  pub state : State
  pub passed : List Action
  pub next : ℕ

-- the seat, the actions that were passed on, in order, and its copy of the programs, if it has read them
pub record Sitting : Type 0 where
  pub seat : Held
  pub passed : List Action
  pub programs : Option Filters

-- what they tell
abbrev pub told_alone : Alone → Told
told_alone clerk = record { node = Some (record { state = clerk.state; next = clerk.next }); seat = None; passed = Some clerk.passed }

abbrev pub told_seated : Sitting → Told
told_seated clerk = record { node = None; seat = Some clerk.seat; passed = Some clerk.passed }
