use Rattle.std.proofs.Common.{take, drop, filter, arith, ◌∙◌}
use Rattle.std.proofs.lemmas.Result.{err_from_is_err_and}
use Rattle.plain_node.specs.Memory.{is_no_send}
use Rattle.fetch_worker.proofs.WorkLemmas.{passes-more, front-left}
use Rattle.fetch_worker.proofs.working.pass_on.Goals as goal

pub returns-in_err-pass_one-clause-some : goal.returns-in_err-pass_one-clause-some
returns-in_err-pass_one-clause-some g c =
    let p = err_from_is_err_and c.from_residual.result c.from_residual.ensures.1 in
    let n = c.loop-action.action-index in
    rw p.1 (
      filter is_no_send (take n c.args.actions.now),
      filter is_no_send (drop n c.args.actions.now),
      front-left c.args.actions.now n,
      c.in_err-pass_one.ensures.refused ∙ c.loop-action.invariant.0,
    )

pub loop-action-preserved : goal.loop-action-preserved
loop-action-preserved g c = (
  passes-more (g.C.Clerk.told c.args.clerk.now) (g.C.Clerk.told c.loop-action.clerk) (g.C.Clerk.told c.pass_one.new.clerk)
      c.args.actions.now c.action-item.result c.loop-action.action-index
      (omega arith) c.action-item.is c.loop-action.invariant.0 c.in_ok-pass_one.ensures.done,
  c.pass_one.ensures.same ∙ c.loop-action.invariant.1,
)
