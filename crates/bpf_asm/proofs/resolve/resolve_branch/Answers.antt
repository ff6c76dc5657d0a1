use Rattle.std.proofs.Common.{refl, arith}
use Rattle.std.proofs.lemmas.Result.{err_from_is_err_and}
use Rattle.bpf_asm.specs.Labels.{named}
use Rattle.bpf_asm.specs.Drafts.{shown_draft}
use Rattle.bpf_asm.proofs.Resolving.{branch_first, branch_second, branch_resolved}
use Rattle.bpf_asm.proofs.resolve.resolve_branch.Goals as goal

pub returns-in_err-jt : goal.returns-in_err-jt
returns-in_err-jt c =
    let d = shown_draft c.args.draft.now in
    let p = err_from_is_err_and c.from_residual.result c.from_residual.ensures.1 in
    rw (p.1, p.2) (branch_first (named c.args.names.now) c.args.place d _ c.requires.branch (c.in_err-jt.ensures d.operation c.requires.branch))

pub returns-in_err-jf : goal.returns-in_err-jf
returns-in_err-jf c =
    let d = shown_draft c.args.draft.now in
    let p = err_from_is_err_and c.from_residual-in_err-jf.result c.from_residual-in_err-jf.ensures.1 in
    rw (p.1, p.2) (branch_second (named c.args.names.now) c.args.place c.in_ok-jt.jt d _ c.requires.branch (c.in_ok-jt.ensures d.operation c.requires.branch) (omega arith) (c.in_err-jf.ensures d.operation c.requires.branch))

pub returns : goal.returns
returns c =
    let d = shown_draft c.args.draft.now in
    branch_resolved (named c.args.names.now) c.args.place d _ c.requires.branch refl refl (c.in_ok-jt.ensures d.operation c.requires.branch) (c.in_ok-jf.ensures d.operation c.requires.branch) (omega arith) (omega arith)
