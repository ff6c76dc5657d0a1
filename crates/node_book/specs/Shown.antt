-- The state recorded in an image's log.
use Rattle.std.specs.Prelude.{List, [], ◌∷◌, replicate, true, false}
use Rattle.plain_node.specs.Settings.{Setup}
use Rattle.node_core.specs.State.{State, opening}

-- a placeholder setup without neighbours, of no real node
abbrev pub bare : Setup
bare = record {
  settings = record { icp = record { addr = replicate 4 0; port = 0 }; htcp = record { addr = replicate 4 0; port = 0 }; allowed = []; miss_nofetch = false; origin = false };
  entries = 1;
  octets = 1;
  neighbours = [];
  keys = [];
}

-- the recorded state; the log of an image is never empty
abbrev pub shown : {U : Type 0} → List (State × U) → State
shown [] = opening bare
shown (first ∷ rest) = first.0
