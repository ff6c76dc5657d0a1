use Rattle.std.proofs.Common.{◌≡◌, ◌≤◌, drop, length, bytes_eq}
use Rattle.http_rules.specs.declared.directives.Place.TheVariants.{Plain}
use Rattle.http_rules.specs.Loops.{without_blanks}
use Rattle.http_rules.proofs.loops.is_mark.Given as goal

abbrev pub invariant-loop-i : goal.invariant-loop-i
invariant-loop-i l = record {
  same : bytes_eq (without_blanks Plain l.element) l.mark ≡ bytes_eq (without_blanks l.place (drop l.i l.element)) (drop l.matched l.mark);
  inside : l.matched ≤ length l.mark;
}
