use Rattle.std.proofs.Common.{◌≡◌, ◌+◌, drop}
use Rattle.std.specs.List.{position_or_len}
use Rattle.http_rules.specs.Directives.{ends_name}
use Rattle.http_rules.proofs.directives.name_len.Given as goal

abbrev pub invariant-loop-i : goal.invariant-loop-i
invariant-loop-i l = position_or_len ends_name l.text ≡ l.i + position_or_len ends_name (drop l.i l.text)
