use Rattle.std.proofs.Common.{arith}
use Rattle.bpf_asm.specs.Assembly.{token_lines}
use Rattle.bpf_asm.proofs.Places.{place_next}
use Rattle.bpf_asm.proofs.labels.name_line.Goals as goal

pub invariant_of-result : goal.invariant_of-result
invariant_of-result c = record { short = (let step = place_next (token_lines c.args.names.text.now) c.args.names.lines in let few = c.requires.short in omega arith) }

pub invariant_of-result-2 : goal.invariant_of-result-2
invariant_of-result-2 c = record { short = (let step = place_next (token_lines c.args.names.text.now) c.args.names.lines in let few = c.requires.short in omega arith) }
