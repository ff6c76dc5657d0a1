-- Programs, read instruction by instruction.
use Rattle.std.proofs.Common.{◌≡◌, List, [], ◌∷◌, ◌++◌, refl, ap, append_assoc, Option, Some, None}
use Rattle.bpf_check.specs.declared.insn.Insn.{Insn}
use Rattle.script_lines.specs.Words.{onto}

-- the instructions read so far, then those that follow, if none is malformed
abbrev pub onto_all : List Insn → Option (List Insn) → Option (List Insn)
onto_all front None = None
onto_all front (Some rest) = Some (front ++ rest)

pub onto_all-more : (front : List Insn) (i : Insn) (rest : Option (List Insn)) → onto_all (front ++ i ∷ []) rest ≡ onto_all front (onto (Some i) rest)
onto_all-more front i None = refl
onto_all-more front i (Some rest) = ap Some (append_assoc front (i ∷ []) rest)

pub onto-none : (rest : Option (List Insn)) → onto None rest ≡ None
onto-none None = refl
onto-none (Some rest) = refl
