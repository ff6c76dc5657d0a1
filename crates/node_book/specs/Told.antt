-- What a clerk tells: of a node behind it, of its seat, and of the actions passed on.
use Rattle.std.specs.Prelude.{◌≡◌, ◌⊎◌, ℕ, ◌+◌, List, [], ◌∷◌, ◌++◌, Option, Some, None}
use Rattle.std.specs.Option.{option_map}
use Rattle.node_words.specs.declared.action.Action.{Action}
use Rattle.plain_node.specs.Tally.{tally_of}
use Rattle.node_core.specs.Happening.{Happening}
use Rattle.node_core.specs.State.{State, HasTaken}
use Rattle.node_book.specs.Seats.{Claim, claim, Held, receipted}
use Rattle.node_book.specs.Audited.{IsAudited}

-- a node that takes events from one clerk alone: its state, and the number of the next event
pub record Owned : Type 0 where
  pub state : State
  pub next : ℕ

-- what a clerk tells: its node, unless other threads submit events to it as well; its seat, if it has one; and the actions passed
-- on, in order, if it keeps them
pub record Told : Type 0 where
  pub node : Option Owned
  pub seat : Option Held
  pub passed : Option (List Action)

-- a node took one event: it has this number, and these are its actions
pub record TakesOne (old new : Owned) (number : ℕ) (event : Happening) (actions : List Action) : Type 0 where
  pub taken : HasTaken old.state new.state (event ∷ []) (actions ∷ [])
  pub numbered : number ≡ old.next
  pub next : new.next ≡ old.next + 1

-- the same, if the node is told; one that is told before is told after, and the reverse
abbrev pub Takes : Option Owned → Option Owned → ℕ → Happening → List Action → Type 0
Takes (Some old) (Some new) number event actions = TakesOne old new number event actions
Takes (Some old) None number event actions = ⊥
Takes None (Some new) number event actions = ⊥
Takes None None number event actions = Unit {0}

-- One more event was taken for a seat, and this is its receipt: the seat has counted it, and kept the receipt as far as it has
-- room. An audit may have followed.
abbrev pub Credits : Held → Held → Claim → Type 0
Credits old new receipt = IsAudited (receipted old receipt) new

-- the same, if the seat is told
abbrev pub Receives : Option Held → Option Held → Claim → Type 0
Receives (Some old) (Some new) receipt = Credits old new receipt
Receives (Some old) None receipt = ⊥
Receives None (Some new) receipt = ⊥
Receives None None receipt = Unit {0}

-- one event was taken: it has this number, and these are its actions, which were not passed on
pub record Submits (old new : Told) (number : ℕ) (event : Happening) (actions : List Action) : Type 0 where
  pub node : Takes old.node new.node number event actions
  pub seat : Receives old.seat new.seat (claim number event (tally_of actions))
  pub passed : new.passed ≡ old.passed

-- the same with these actions appended to those passed on
abbrev pub passing : List Action → Told → Told
passing actions told = record told { passed = option_map (λ passed. passed ++ actions) told.passed }

-- what a clerk tells of its seat alone
abbrev pub seat_told : Held → Told
seat_told seat = record { node = None; seat = Some seat; passed = None }
