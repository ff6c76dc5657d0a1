use Rattle.std.proofs.Common.{[], ◌∷◌, ◌++◌, refl}
use Rattle.std.proofs.lemmas.Result.{err_from_is_err_and}
use Rattle.fetch_worker.proofs.WorkLemmas.{jobs-more, breaks-stops}
use Rattle.fetch_worker.proofs.working.work.Goals as goal

pub loop-answered-init : goal.loop-answered-init
loop-answered-init g c = ([], refl)

pub loop-answered-preserved : goal.loop-answered-preserved
loop-answered-preserved g c = (
  c.loop-answered.invariant.0 ++ c.in-Ok.job.action ∷ [],
  jobs-more (g.C.Clerk.told c.args.clerk.now) (g.C.Clerk.told c.loop-answered.clerk) (g.C.Clerk.told c.answer.new.clerk)
      c.loop-answered.invariant.0 c.in-Ok.job.action c.loop-answered.invariant.1 c.in_ok-answer.ensures.answered,
)

pub returns-in_err-answer-clause-some : goal.returns-in_err-answer-clause-some
returns-in_err-answer-clause-some g c =
    let p = err_from_is_err_and c.from_residual-in_err-answer.result c.from_residual-in_err-answer.ensures.1 in
    rw p.1 (
      c.loop-answered.invariant.0,
      g.C.Clerk.told c.loop-answered.clerk,
      c.loop-answered.invariant.1,
      breaks-stops (g.C.Clerk.told c.loop-answered.clerk) (g.C.Clerk.told c.answer.new.clerk) c.in-Ok.job.action c.in_err-answer.ensures.refused,
    )
