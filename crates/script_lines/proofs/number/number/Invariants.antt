use Rattle.std.proofs.Common.{◌≡◌, drop}
use Rattle.script_lines.specs.Words.{number}
use Rattle.script_lines.proofs.NumberLemmas.{number_after}
use Rattle.script_lines.proofs.number.number.Given as goal

abbrev pub invariant-loop-c : goal.invariant-loop-c
invariant-loop-c l = number_after l.most l.n (drop l.c-index l.text) ≡ number l.most l.text
