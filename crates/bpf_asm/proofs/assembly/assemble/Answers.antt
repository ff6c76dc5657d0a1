use Rattle.bpf_asm.specs.Assembly.{token_lines}
use Rattle.bpf_asm.proofs.Final.{only_answer}
use Rattle.bpf_asm.proofs.assembly.assemble.Goals as goal

pub returns-clause-only : goal.returns-clause-only
returns-clause-only c = λ p is. only_answer (λ v. v.items) c.read.result (token_lines c.args.text.now) c.read.ensures p is
