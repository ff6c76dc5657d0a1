use Rattle.std.proofs.Common.{map, take}
use Rattle.std.specs.List.{AllZip}
use Rattle.serde_json.specs.View.{view}
use Rattle.serve_config.specs.Said.{IsWhole}
use Rattle.serve_config.proofs.value.ports_in.Given as goal

abbrev pub invariant-loop-i : goal.invariant-loop-i
invariant-loop-i l = AllZip (IsWhole 1 65535) (map view (take l.i l.items)) l.ports.items
