use Rattle.std.proofs.Common.{◌≡◌, ◌++◌, take}
use Rattle.std.specs.List.{flat_map}
use Rattle.access_log.specs.Escaped.{escaped_octet}
use Rattle.access_log.proofs.parts.push_text.Given as goal

abbrev pub invariant-loop-octet : goal.invariant-loop-octet
invariant-loop-octet l = l.line.items ≡ l.fn.line.items ++ flat_map (escaped_octet l.form) (take l.octet-index l.shown)
