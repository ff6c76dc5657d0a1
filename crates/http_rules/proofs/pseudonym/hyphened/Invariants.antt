use Rattle.std.proofs.Common.{◌≡◌, ◌++◌, drop, map}
use Rattle.http_rules.specs.Pseudonyms.{written_octet}
use Rattle.http_rules.proofs.pseudonym.hyphened.Given as goal

abbrev pub invariant-loop-i : goal.invariant-loop-i
invariant-loop-i l = l.written.items ++ map written_octet (drop l.i l.text) ≡ map written_octet l.text
