use Rattle.std.proofs.Common.{◌≡◌, [], map, take, false}
use Rattle.serde_json.specs.View.{view}
use Rattle.serve_config.specs.Origins.{AreDenied}
use Rattle.serve_config.proofs.origins.denied.Given as goal

abbrev pub invariant-loop-i : goal.invariant-loop-i
invariant-loop-i l = record {
  said : AreDenied (map view (take l.i l.items)) l.networks.four.items l.networks.six.items;
  six : l.has_six ≡ false → l.networks.six.items ≡ [];
}
