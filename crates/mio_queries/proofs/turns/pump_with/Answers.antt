use Rattle.std.proofs.Common.{IsErrOf, arith}
use Rattle.std.proofs.lemmas.Result.{err_from_is_err_and}
use Rattle.mio_queries.specs.declared.pumped.PumpFault.TheVariants.{Receive, NoMemory, Ended}
use Rattle.mio_queries.specs.Pumping.{nothing}
use Rattle.mio_queries.proofs.PumpLemmas.{pumps-none, pumps-more, pumps-lost, pumps-broken, turns-counted, all-counted}
use Rattle.mio_queries.proofs.turns.pump_with.Goals as goal

pub loop-made-init : goal.loop-made-init
loop-made-init g c = pumps-none (g.W.Wire.traffic c.args.wire.now) (g.C.Clerk.told c.args.clerk.now) nothing

pub returns-in_err-turn-clause-receive : goal.returns-in_err-turn-clause-receive
returns-in_err-turn-clause-receive g c = λ e.
    let p = err_from_is_err_and c.from_residual.result c.from_residual.ensures.1 in
    let was : IsErrOf c.turn.result Receive = cc (p.1, p.2, e, c.in_err-turn.was) in
    pumps-lost c.append_law.ensures.list (g.W.Wire.traffic c.args.wire.now) (g.W.Wire.traffic c.loop-made.wire) (g.W.Wire.traffic c.turn.new.wire)
    (g.C.Clerk.told c.args.clerk.now) (g.C.Clerk.told c.loop-made.clerk) (g.C.Clerk.told c.turn.new.clerk)
    nothing c.loop-made.pumped c.loop-made.made c.args.turns (omega arith) c.loop-made.invariant (c.turn.ensures.receive was)

pub returns-in_err-turn-clause-no_memory : goal.returns-in_err-turn-clause-no_memory
returns-in_err-turn-clause-no_memory g c = λ e.
    let p = err_from_is_err_and c.from_residual.result c.from_residual.ensures.1 in
    let was : IsErrOf c.turn.result NoMemory = cc (p.1, p.2, e, c.in_err-turn.was) in
    pumps-broken c.append_law.ensures.list (g.W.Wire.traffic c.args.wire.now) (g.W.Wire.traffic c.loop-made.wire) (g.W.Wire.traffic c.turn.new.wire)
    (g.C.Clerk.told c.args.clerk.now) (g.C.Clerk.told c.loop-made.clerk) (g.C.Clerk.told c.turn.new.clerk)
    nothing c.loop-made.pumped c.loop-made.made c.args.turns (omega arith) c.loop-made.invariant (c.turn.ensures.no_memory was)

pub returns-in_err-turn-clause-ended : goal.returns-in_err-turn-clause-ended
returns-in_err-turn-clause-ended g c = λ e.
    let p = err_from_is_err_and c.from_residual.result c.from_residual.ensures.1 in
    let was : IsErrOf c.turn.result Ended = cc (p.1, p.2, e, c.in_err-turn.was) in
    pumps-broken c.append_law.ensures.list (g.W.Wire.traffic c.args.wire.now) (g.W.Wire.traffic c.loop-made.wire) (g.W.Wire.traffic c.turn.new.wire)
    (g.C.Clerk.told c.args.clerk.now) (g.C.Clerk.told c.loop-made.clerk) (g.C.Clerk.told c.turn.new.clerk)
    nothing c.loop-made.pumped c.loop-made.made c.args.turns (omega arith) c.loop-made.invariant (c.turn.ensures.ended was)

pub loop-made-preserved : goal.loop-made-preserved
loop-made-preserved g c =
    pumps-more c.append_law.ensures.list (g.W.Wire.traffic c.args.wire.now) (g.W.Wire.traffic c.loop-made.wire) (g.W.Wire.traffic c.turn.new.wire)
    (g.C.Clerk.told c.args.clerk.now) (g.C.Clerk.told c.loop-made.clerk) (g.C.Clerk.told c.turn.new.clerk)
    nothing c.loop-made.pumped c.turn.new.pumped c.loop-made.made c.loop-made.invariant c.in_ok-turn.ensures.made

pub returns-clause-turns : goal.returns-clause-turns
returns-clause-turns g c =
    turns-counted (g.W.Wire.traffic c.args.wire.now) (g.W.Wire.traffic c.loop-made.wire) (g.C.Clerk.told c.args.clerk.now) (g.C.Clerk.told c.loop-made.clerk)
    c.loop-made.pumped c.loop-made.made c.args.turns (omega arith) (omega arith) c.loop-made.invariant

pub returns-clause-all : goal.returns-clause-all
returns-clause-all g c =
    all-counted (g.W.Wire.traffic c.args.wire.now) (g.W.Wire.traffic c.loop-made.wire) (g.C.Clerk.told c.args.clerk.now) (g.C.Clerk.told c.loop-made.clerk)
    c.loop-made.pumped c.loop-made.made c.args.turns (omega arith) (omega arith) c.loop-made.invariant
