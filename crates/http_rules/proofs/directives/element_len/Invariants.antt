use Rattle.std.proofs.Common.{◌≡◌, ◌+◌, drop}
use Rattle.http_rules.specs.declared.directives.Place.TheVariants.{Plain}
use Rattle.http_rules.specs.Elements.{element_len}
use Rattle.http_rules.proofs.directives.element_len.Given as goal

abbrev pub invariant-loop-i : goal.invariant-loop-i
invariant-loop-i l = element_len Plain l.text ≡ l.i + element_len l.place (drop l.i l.text)
