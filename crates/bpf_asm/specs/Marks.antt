-- Which instructions are jump targets, as the text writer keeps it. No public contract depends on this definition.
use Rattle.std.specs.Prelude.{◌≡◌, ℕ, ◌<◌, List, length, Bool, false, slice_index_or}
use Rattle.bpf_check.specs.declared.insn.Insn.{Insn}
use Rattle.bpf_asm.specs.Text.{is_target}

-- there is a flag for each instruction, which tells whether a jump targets it
pub record AreMarks (p : List Insn) (marks : List Bool) : Type 0 where
  pub each : length marks ≡ length p
  pub right : (place : ℕ) → place < length p → slice_index_or marks place false ≡ is_target place 0 p
