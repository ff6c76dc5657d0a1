use Rattle.std.proofs.Common.{◌≡◌, drop}
use Rattle.http_rules.specs.declared.directives.Place.TheVariants.{Plain}
use Rattle.http_rules.specs.Directives.{place_behind}
use Rattle.http_rules.proofs.directives.is_unclosed.Given as goal

abbrev pub invariant-loop-i : goal.invariant-loop-i
invariant-loop-i l = place_behind Plain l.value ≡ place_behind l.place (drop l.i l.value)
