-- The machine before the first instruction.
use Rattle.std.specs.Prelude.{replicate}
use Rattle.bpf_run.specs.declared.machine.Machine.{Machine}

-- all words are 0
abbrev pub start : Machine
start = record { a = 0; x = 0; scratch = replicate 16 0 }
