use Rattle.std.proofs.Common.{map, take}
use Rattle.std.specs.List.{AllZip}
use Rattle.serde_json.specs.View.{view}
use Rattle.serve_config.specs.Group.{IsKey}
use Rattle.serve_config.proofs.group.keys.Given as goal

abbrev pub invariant-loop-i : goal.invariant-loop-i
invariant-loop-i l = AllZip IsKey (map view (take l.i l.items)) l.keys.items
