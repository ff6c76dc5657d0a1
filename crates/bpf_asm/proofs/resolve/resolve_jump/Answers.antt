use Rattle.std.proofs.Common.{refl}
use Rattle.std.proofs.lemmas.Result.{err_from_is_err_and}
use Rattle.bpf_asm.specs.Labels.{named}
use Rattle.bpf_asm.specs.Drafts.{shown_draft}
use Rattle.bpf_asm.proofs.Resolving.{jump_unresolved, jump_resolved}
use Rattle.bpf_asm.proofs.resolve.resolve_jump.Goals as goal

pub returns-in_err-k : goal.returns-in_err-k
returns-in_err-k c =
    let d = shown_draft c.args.draft.now in
    let p = err_from_is_err_and c.from_residual.result c.from_residual.ensures.1 in
    rw (p.1, p.2) (jump_unresolved (named c.args.names.now) c.args.place d _ c.requires.jump (c.in_err-k.ensures d.operation))

pub returns : goal.returns
returns c = let d = shown_draft c.args.draft.now in jump_resolved (named c.args.names.now) c.args.place d _ c.requires.jump refl (c.in_ok-k.ensures d.operation) refl refl
