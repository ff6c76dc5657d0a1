use Rattle.std.proofs.Common.{◌≡◌, drop}
use Rattle.std.specs.List.{list_any}
use Rattle.serve_config.specs.Own.{is_self}
use Rattle.serve_config.proofs.own.check_apart.Given as goal

abbrev pub invariant-loop-i : goal.invariant-loop-i
invariant-loop-i l = list_any (is_self l.settings) l.neighbours ≡ list_any (is_self l.settings) (drop l.i l.neighbours)
