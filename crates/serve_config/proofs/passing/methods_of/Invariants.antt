use Rattle.std.proofs.Common.{◌≡◌, ◌++◌, drop, map}
use Rattle.std.specs.Prelude.{bytes_eq}
use Rattle.std.specs.List.{IsDistinct}
use Rattle.serde_json.specs.View.{view}
use Rattle.http_traffic.specs.Methods.{method_name}
use Rattle.serve_config.specs.Passing.{name_of}
use Rattle.serve_config.proofs.passing.methods_of.Given as goal

abbrev pub invariant-loop-word : goal.invariant-loop-word
invariant-loop-word l = record {
  said : map name_of l.methods.items ++ map view (drop l.word-index l.words) ≡ map view l.words;
  once : IsDistinct bytes_eq (map method_name l.methods.items);
}
