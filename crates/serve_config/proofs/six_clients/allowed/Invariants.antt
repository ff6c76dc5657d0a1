use Rattle.std.proofs.Common.{map, take}
use Rattle.std.specs.List.{AllZip}
use Rattle.serde_json.specs.View.{view}
use Rattle.serve_config.specs.Origins.{IsSixNetwork}
use Rattle.serve_config.proofs.six_clients.allowed.Given as goal

abbrev pub invariant-loop-i : goal.invariant-loop-i
invariant-loop-i l = AllZip IsSixNetwork (map view (take l.i l.items)) l.networks.items
