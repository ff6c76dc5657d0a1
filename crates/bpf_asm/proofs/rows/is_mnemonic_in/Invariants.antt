use Rattle.std.proofs.Common.{◌≡◌, drop}
use Rattle.bpf_asm.specs.Reading.{has_mnemonic}
use Rattle.bpf_asm.proofs.rows.is_mnemonic_in.Given as goal

abbrev pub invariant-loop-row : goal.invariant-loop-row
invariant-loop-row l = has_mnemonic (drop l.row-index l.rows) l.word ≡ has_mnemonic l.rows l.word
