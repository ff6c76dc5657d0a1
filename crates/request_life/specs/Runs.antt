-- Runs of the table over any events.
use Rattle.std.specs.Prelude.{◌≡◌, ℕ, ◌+◌, ◌<◌, List, [], ◌∷◌, ◌++◌, count_by, Bool, true, false}
use Rattle.request_life.specs.declared.facts.Method.TheVariants as methods
use Rattle.request_life.specs.declared.facts.RequestHead.{RequestHead}
use Rattle.request_life.specs.declared.commands.Command.{Command}
use Rattle.request_life.specs.declared.events.Event.{Event}
use Rattle.request_life.specs.declared.stages.Life.{Life}
use Rattle.request_life.specs.declared.stages.Stage.{Stage}
use Rattle.request_life.specs.declared.stages.Stage.TheVariants as stages
use Rattle.request_life.specs.Table.{Turn, turn}

-- a request whose head has not come
abbrev pub unborn : Life
unborn =
    record {
      head =
          record {
            method = methods.Other;
            is_unsafe = false;
            has_passage = false;
            has_tunnels = false;
            answers_heads = false;
            has_foreign_coding = false;
            is_too_long = false;
            has_content = false;
            has_upload = false;
            has_many_options = false;
            has_loop_marks = false;
            is_streamed = false;
            is_last = false;
          };
      stage = stages.Receiving;
    }

-- a request that has come so far
abbrev pub life_at : RequestHead → Stage → Life
life_at head stage = record { head = head; stage = stage }

-- what a life does at an event
abbrev pub turn_of : Life → Event → Turn
turn_of life event = turn life.head life.stage event

-- the life after these events
abbrev pub after : Life → List Event → Life
after life [] = life
after life (event ∷ rest) = after (turn_of life event).life rest

-- all that is done at these events, in its order
abbrev pub orders : Life → List Event → List Command
orders life [] = []
orders life (event ∷ rest) = (turn_of life event).commands ++ orders (turn_of life event).life rest

-- how often something is done at these events
abbrev pub times : (Command → Bool) → List Event → ℕ
times is events = count_by is (orders unborn events)

-- how often it is so, of the stages that a life comes to an event at
abbrev pub moves_where : (Life → Event → ℕ) → Life → List Event → ℕ
moves_where count life [] = 0
moves_where count life (event ∷ rest) = count life event + moves_where count (turn_of life event).life rest

-- what is done has this cause, at whatever stage it is done
abbrev pub IsOnlyBy : (Command → Bool) → (Event → Bool) → Type 0
IsOnlyBy is cause = (head : RequestHead) (stage : Stage) (event : Event) → 0 < count_by is (turn head stage event).commands → cause event ≡ true
