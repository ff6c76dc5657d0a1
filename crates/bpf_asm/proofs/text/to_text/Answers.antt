use Rattle.std.specs.Prelude.{string_bytes, map}
use Rattle.bpf_asm.specs.Cleared.{cleared}
use Rattle.bpf_asm.proofs.ReadBack.{written_read, same_read, text_read}
use Rattle.bpf_asm.proofs.text.to_text.Goals as goal

pub returns-clause-cleared : goal.returns-clause-cleared
returns-clause-cleared c =
    let p = c.args.program.now in
    text_read string_bytes c.text_of.result p (map cleared p) (rw c.insns.ensures.same at c.text_of.ensures) (written_read p c.insns.ensures.accepted c.insns.ensures.range)

pub returns-clause-same : goal.returns-clause-same
returns-clause-same c = λ e.
    let p = c.args.program.now in
    text_read string_bytes c.text_of.result p p (rw c.insns.ensures.same at c.text_of.ensures) (same_read p c.insns.ensures.accepted c.insns.ensures.range e)
