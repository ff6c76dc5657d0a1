-- The state of a script between two lines, and the output of the remaining lines.
-- Only contracts of private functions use these definitions.
use Rattle.std.specs.Prelude.{◌≡◌, ℕ, ◌+◌, false, List, [], ◌∷◌, ◌++◌, Option, Some, None, if◌then◌else◌}
use Rattle.plain_node.specs.Settings.{Setup, setup_of}
use Rattle.node_core.specs.State.{State, opening, actions_at, state_after}
use Rattle.feed_script.specs.declared.station.Station.{Station}
use Rattle.feed_script.specs.declared.phase.Phase.{Phase}
use Rattle.feed_script.specs.declared.phase.Phase.TheVariants.{Before, Running}
use Rattle.feed_script.specs.declared.engine.Engine.{Engine}
use Rattle.feed_script.specs.declared.engine.Stop.{Stop}
use Rattle.feed_script.specs.declared.engine.Stop.TheVariants.{Line, NoMemory}
use Rattle.script_lines.specs.ScriptLine.{ScriptLine, sets, goes, happens, refuses, inquires, script_of}
use Rattle.feed_script.specs.Printed.{actions_text, refuse_text, stats_text}
use Rattle.feed_script.specs.Written.{EndsWithBreak, NoBreak}
use Rattle.feed_script.specs.Script.{Stage, setting, started, is_misplaced, first_misplaced, set_by, Fixed, fixed_by, event_of}

-- the state between two lines: settings before the start, a node after it
pub data ScriptPhase : Type 0 where
  preparing : Setup → ScriptPhase
  running : (own : Fixed) (state : State) → ScriptPhase

-- the settings that a running node keeps
abbrev pub fixed_of : Station → Fixed
fixed_of station = record { icp = station.icp; htcp = station.htcp; neighbours = station.neighbours }

-- the state of a phase
abbrev pub script_phase_of : Phase → ScriptPhase
script_phase_of (Before config) = preparing (setup_of config)
script_phase_of (Running station) = running (fixed_of station) station.node

-- the stage of a state
abbrev pub stage_of : ScriptPhase → Stage
stage_of (preparing s) = setting s
stage_of (running own state) = started own.neighbours

-- the output of one line
abbrev pub printed : ScriptPhase → ScriptLine → List ℕ
printed (running own state) (happens o) =
    actions_text (state_after state (event_of own o)).plain.fetches.list (actions_at state (event_of own o))
printed (running own state) (refuses slot fault) = refuse_text fault
printed (running own state) inquires = stats_text state.stats
printed _ _ = []

-- the state after one line
abbrev pub next : ScriptPhase → ScriptLine → ScriptPhase
next (preparing s) (sets x) = preparing (set_by s x)
next (preparing s) goes = running (fixed_by s) (opening s)
next (running own state) (happens o) = running own (state_after state (event_of own o))
next standing _ = standing

-- the output of these lines, up to the first misplaced one
abbrev pub text_ahead : ScriptPhase → List ScriptLine → List ℕ
text_ahead standing [] = []
text_ahead standing (l ∷ ls) = if is_misplaced (stage_of standing) l then [] else printed standing l ++ text_ahead (next standing l) ls

-- the remaining output and the first wrong line, if these octets follow the complete lines so far
abbrev pub text_after : Engine → List ℕ → List ℕ
text_after e rest = text_ahead (script_phase_of e.phase) (script_of rest)

abbrev pub wrong_after : Engine → List ℕ → Option ℕ
wrong_after e rest = first_misplaced (stage_of (script_phase_of e.phase)) (e.number + 1) (script_of rest)

-- the same, if they follow the incomplete current line
abbrev pub text_left : Engine → List ℕ → List ℕ
text_left e rest = text_after e (e.line.items ++ rest)

abbrev pub wrong_left : Engine → List ℕ → Option ℕ
wrong_left e rest = wrong_after e (e.line.items ++ rest)

-- A line without output was executed: it is in place, and the state is the one after it.
pub record Moves (old : Phase) (line : ScriptLine) (new : Phase) : Type 0 where
  pub placed : is_misplaced (stage_of (script_phase_of old)) line ≡ false
  pub after : script_phase_of new ≡ next (script_phase_of old) line

-- A line was executed: it is in place, the state is the one after it, and its output was appended.
pub record Obeys (old : Phase) (line : ScriptLine) (printed_old : List ℕ) (new : Phase) (printed_new : List ℕ) : Type 0 where
  pub placed : is_misplaced (stage_of (script_phase_of old)) line ≡ false
  pub after : script_phase_of new ≡ next (script_phase_of old) line
  pub shown : printed_new ≡ printed_old ++ printed (script_phase_of old) line

-- An engine took a chunk: it has executed the lines completed so far, and for every continuation of the input the total output
-- and the first wrong line are unchanged.
pub record Takes (old : Engine) (piece printed_old : List ℕ) (new : Engine) (printed_new : List ℕ) : Type 0 where
  pub whole : List ℕ
  pub parts : old.line.items ++ piece ≡ whole ++ new.line.items
  pub ended : EndsWithBreak whole
  pub text : (rest : List ℕ) → printed_old ++ text_after old (whole ++ rest) ≡ printed_new ++ text_after new rest
  pub wrong_line : (rest : List ℕ) → wrong_after old (whole ++ rest) ≡ wrong_after new rest
  pub partial : NoBreak new.line.items

-- An engine stopped within a chunk: at its first wrong line, with all output before it, or out of memory, with a prefix of it.
abbrev pub StopsBy : Engine → List ℕ → List ℕ → List ℕ → Stop → Type 0
StopsBy old piece printed_old printed_new (Line n) = (rest : List ℕ) → (printed_old ++ text_left old (piece ++ rest) ≡ printed_new) × (wrong_left old (piece ++ rest) ≡ Some n)
StopsBy old piece printed_old printed_new NoMemory = (rest : List ℕ) → (more : List ℕ) × (printed_old ++ text_left old (piece ++ rest) ≡ printed_new ++ more)

-- The input ended: all output was appended, and no line was wrong.
pub record Ends (old : Engine) (printed_old printed_new : List ℕ) : Type 0 where
  pub text : printed_old ++ text_left old [] ≡ printed_new
  pub wrong_line : wrong_left old [] ≡ None

-- The input ended, and its last line is wrong, or memory ran out.
abbrev pub EndsBy : Engine → List ℕ → List ℕ → Stop → Type 0
EndsBy old printed_old printed_new (Line n) = (printed_old ++ text_left old [] ≡ printed_new) × (wrong_left old [] ≡ Some n)
EndsBy old printed_old printed_new NoMemory = (more : List ℕ) × (printed_old ++ text_left old [] ≡ printed_new ++ more)

-- The output of an engine for a chunk is a prefix of the output that the chunk yields.
abbrev pub PrintsFront : Engine → List ℕ → List ℕ → List ℕ → Type 0
PrintsFront old piece printed_old printed_new = (more : List ℕ) × (printed_old ++ text_left old piece ≡ printed_new ++ more)
