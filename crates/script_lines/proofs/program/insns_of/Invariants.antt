use Rattle.std.proofs.Common.{◌≡◌, drop, map}
use Rattle.script_lines.specs.Words.{insns_of}
use Rattle.script_lines.proofs.ProgramLemmas.{onto_all}
use Rattle.script_lines.proofs.program.insns_of.Given as goal

abbrev pub invariant-loop-part : goal.invariant-loop-part
invariant-loop-part l = onto_all l.insns.items (insns_of (map (λ x. x.now) (drop l.part-index l.parts))) ≡ insns_of (map (λ x. x.now) l.parts)
