use Rattle.std.proofs.Common.{◌≡◌, ◌+◌, drop}
use Rattle.http_rules.specs.HostFields.{place_of}
use Rattle.http_rules.proofs.host_field.place_of.Given as goal

abbrev pub invariant-loop-i : goal.invariant-loop-i
invariant-loop-i l = place_of l.octet l.text ≡ l.i + place_of l.octet (drop l.i l.text)
