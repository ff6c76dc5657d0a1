use Rattle.std.proofs.Common.{take, arith}
use Rattle.std.proofs.lemmas.Result.{err_from_is_err_and}
use Rattle.mio_queries.proofs.PumpLemmas.{carries-more, carries-same}
use Rattle.mio_queries.proofs.turns.carry_out.Goals as goal

pub returns-in_err-carry_one-clause-some : goal.returns-in_err-carry_one-clause-some
returns-in_err-carry_one-clause-some g c =
    let p = err_from_is_err_and c.from_residual.result c.from_residual.ensures.1 in
    let n = c.loop-action.action-index in
    rw p.1 (
      n,
      carries-same (g.W.Wire.traffic c.args.wire.now) (g.W.Wire.traffic c.loop-action.wire) (g.W.Wire.traffic c.carry_one.new.wire)
          (g.C.Clerk.told c.args.clerk.now) (g.C.Clerk.told c.loop-action.clerk) (g.C.Clerk.told c.carry_one.new.clerk)
          c.args.pumped.now c.loop-action.pumped c.carry_one.new.pumped (take n c.args.actions.now) c.loop-action.invariant c.in_err-carry_one.ensures.refused,
    )

pub loop-action-preserved : goal.loop-action-preserved
loop-action-preserved g c =
    carries-more (g.W.Wire.traffic c.args.wire.now) (g.W.Wire.traffic c.loop-action.wire) (g.W.Wire.traffic c.carry_one.new.wire)
    (g.C.Clerk.told c.args.clerk.now) (g.C.Clerk.told c.loop-action.clerk) (g.C.Clerk.told c.carry_one.new.clerk)
    c.args.pumped.now c.loop-action.pumped c.carry_one.new.pumped c.args.actions.now c.action-item.result c.loop-action.action-index
    (omega arith) c.action-item.is c.loop-action.invariant c.in_ok-carry_one.ensures.done
