use Rattle.std.proofs.Common.{◌≡◌, ◌+◌, drop}
use Rattle.http_rules.specs.Destinations.{authority_len}
use Rattle.http_rules.proofs.destination.authority_len.Given as goal

abbrev pub invariant-loop-i : goal.invariant-loop-i
invariant-loop-i l = authority_len l.text ≡ l.i + authority_len (drop l.i l.text)
