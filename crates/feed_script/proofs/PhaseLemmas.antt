-- Adding a setting, and the start.
use Rattle.std.proofs.Common.{◌≡◌, true, is_some, unwrap_or, Option, Some, None, List, [], ◌∷◌, ◌++◌, ap, sym, ◌∙◌, refl}
use Rattle.neighbours.specs.declared.key.Key.{Key}
use Rattle.neighbours.specs.declared.neighbour.Neighbour.{Neighbour}
use Rattle.node_words.specs.declared.config.Config.{Config}
use Rattle.node_terms.specs.declared.network.Network.{Network}
use Rattle.plain_node.specs.declared.config.NodeFault.{NodeFault}
use Rattle.plain_node.specs.declared.config.NodeFault.TheVariants.{Table, Limits, NoMemory}
use Rattle.neighbours.specs.declared.fault.ConfigFault.{ConfigFault}
use Rattle.plain_node.specs.Settings.{Setup, setup_of, setup_fault}
use Rattle.node_core.specs.State.{opening}
use Rattle.feed_script.specs.declared.phase.Phase.{Phase}
use Rattle.feed_script.specs.declared.phase.Phase.TheVariants.{Before, Running}
use Rattle.feed_script.specs.declared.station.Station.{Station}
use Rattle.script_lines.specs.ScriptLine.{goes, allows, has_key, has_neighbour}
use Rattle.feed_script.specs.Script.{is_misplaced, set_by, fixed_by}
use Rattle.feed_script.specs.Ahead.{stage_of, script_phase_of, fixed_of, running, next, Moves}

-- one more element at the end of a list of the settings
pub with-network : (s : Setup) (new : List Network) (network : Network) → new ≡ s.settings.allowed ++ network ∷ []
    → record s { settings = record s.settings { allowed = new } } ≡ set_by s (allows network)
with-network s new network e = λ i. record s { settings = record s.settings { allowed = e i } }

pub with-key : (s : Setup) (new : List Key) (key : Key) → new ≡ s.keys ++ key ∷ [] → record s { keys = new } ≡ set_by s (has_key key)
with-key s new key e = λ i. record s { keys = e i }

pub with-neighbour : (s : Setup) (new : List Neighbour) (neighbour : Neighbour) → new ≡ s.neighbours ++ neighbour ∷ []
    → record s { neighbours = new } ≡ set_by s (has_neighbour neighbour)
with-neighbour s new neighbour e = λ i. record s { neighbours = e i }

-- a fault other than out of memory is a fault of the settings
pub table-some : (found : Option NodeFault) (fault : NodeFault) (inner : ConfigFault) → fault ≡ Table inner → fault ≡ unwrap_or found NoMemory → is_some found ≡ true
table-some None fault inner which is = absurd cc
table-some (Some x) fault inner which is = refl

pub limits-some : (found : Option NodeFault) (fault : NodeFault) → fault ≡ Limits → fault ≡ unwrap_or found NoMemory → is_some found ≡ true
limits-some None fault which is = absurd cc
limits-some (Some x) fault which is = refl

pub moves-go : (old : Phase) (config : Config) (station : Station) → old ≡ Before config → setup_fault (setup_of config) ≡ None
    → station.node ≡ opening (setup_of config) → fixed_of station ≡ fixed_by (setup_of config) → Moves old goes (Running station)
moves-go old config station is fit node own = record {
  placed = ap (λ p. is_misplaced (stage_of (script_phase_of p)) goes) is ∙ ap is_some fit;
  after =
      ap (running (fixed_of station)) node
      ∙ ap (λ e. running e (opening (setup_of config))) own
      ∙ sym (ap (λ p. next (script_phase_of p) goes) is);
}
