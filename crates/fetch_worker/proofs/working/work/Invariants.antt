use Rattle.std.proofs.Common.{List}
use Rattle.node_words.specs.declared.action.Action.{Action}
use Rattle.fetch_worker.specs.Working.{AnswersJobs}
use Rattle.fetch_worker.proofs.working.work.Given as goal

abbrev pub invariant-loop-answered : goal.invariant-loop-answered
invariant-loop-answered g l = (jobs : List Action) × AnswersJobs (g.C.Clerk.told l.fn.clerk) (g.C.Clerk.told l.clerk) jobs
