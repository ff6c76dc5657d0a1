use Rattle.std.proofs.Common.{◌≡◌, drop}
use Rattle.bpf_asm.specs.Token.{tokens}
use Rattle.bpf_asm.specs.Reading.{find_row}
use Rattle.bpf_asm.proofs.rows.find_in.Given as goal

abbrev pub invariant-loop-row : goal.invariant-loop-row
invariant-loop-row l = find_row (drop l.row-index l.rows) l.word (tokens l.operands) ≡ find_row l.rows l.word (tokens l.operands)
