use Rattle.std.proofs.Common.{ap, ◌∙◌, subst}
use Rattle.bpf_run.specs.Run.{EndsAt}
use Rattle.bpf_run.specs.Verdict.{verdict_of}
use Rattle.replay.specs.Finding.{finding_by}
use Rattle.replay.proofs.finding.judge_datagram.Goals as goal

pub returns-clause-finding : goal.returns-clause-finding
returns-clause-finding c =
    c.finding_by.ensures ∙ ap (λ v. finding_by v c.args.socket c.args.datagram.now.payload.now) (c.judge_with_end-ending.ensures.value ∙ ap (verdict_of c.args.program.now) c.in-Some.ensures.value)

pub returns-clause-end : goal.returns-clause-end
returns-clause-end c = subst (λ packet. EndsAt c.args.program.now packet c.judge_with_end-ending.result.place) c.in-Some.ensures.value c.judge_with_end-ending.ensures.place
