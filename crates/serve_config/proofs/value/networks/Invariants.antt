use Rattle.std.proofs.Common.{map, take}
use Rattle.std.specs.List.{AllZip}
use Rattle.serde_json.specs.View.{view}
use Rattle.serve_config.specs.Origins.{IsNetwork}
use Rattle.serve_config.proofs.value.networks.Given as goal

abbrev pub invariant-loop-i : goal.invariant-loop-i
invariant-loop-i l = AllZip IsNetwork (map view (take l.i l.items)) l.networks.items
