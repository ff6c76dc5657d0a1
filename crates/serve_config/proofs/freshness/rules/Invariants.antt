use Rattle.std.proofs.Common.{map, take}
use Rattle.std.specs.List.{AllZip}
use Rattle.serde_json.specs.View.{view}
use Rattle.serve_config.specs.Refresh.{IsRule}
use Rattle.serve_config.proofs.freshness.rules.Given as goal

abbrev pub invariant-loop-i : goal.invariant-loop-i
invariant-loop-i l = AllZip IsRule (map view (take l.i l.items)) l.rules.items
