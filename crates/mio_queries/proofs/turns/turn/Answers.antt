use Rattle.std.proofs.Common.{IsErrOf}
use Rattle.std.proofs.lemmas.Result.{err_from_is_err_and}
use Rattle.mio_queries.specs.declared.pumped.PumpFault.TheVariants.{Receive, NoMemory}
use Rattle.mio_queries.specs.Traffic.{receipt_of}
use Rattle.mio_queries.proofs.PumpLemmas.{turn-lost, turn-unreceived, turn-refused, turn-made, turn-broken}
use Rattle.mio_queries.proofs.turns.turn.Goals as goal

pub returns-in_err-received-clause-receive : goal.returns-in_err-received-clause-receive
returns-in_err-received-clause-receive g c = λ e.
    let p = err_from_is_err_and c.from_residual.result c.from_residual.ensures.1 in
    let was : IsErrOf c.receive_one.result Receive = cc (p.1, p.2, e, c.in_err-received.was) in
    turn-lost (g.W.Wire.traffic c.args.wire.now) (g.W.Wire.traffic c.receive_one.new.wire) (g.C.Clerk.told c.args.clerk.now)
    c.in_err-received.ensures.refused c.receive_one.ensures.sent (c.receive_one.ensures.receive was)

pub returns-in_err-received-clause-no_memory : goal.returns-in_err-received-clause-no_memory
returns-in_err-received-clause-no_memory g c = λ e.
    let p = err_from_is_err_and c.from_residual.result c.from_residual.ensures.1 in
    let was : IsErrOf c.receive_one.result NoMemory = cc (p.1, p.2, e, c.in_err-received.was) in
    turn-unreceived (g.W.Wire.traffic c.args.wire.now) (g.W.Wire.traffic c.receive_one.new.wire) (g.C.Clerk.told c.args.clerk.now)
    c.in_err-received.ensures.refused c.receive_one.ensures.sent (c.receive_one.ensures.no_memory was)

pub returns-in_err-submit_one-clause-no_memory : goal.returns-in_err-submit_one-clause-no_memory
returns-in_err-submit_one-clause-no_memory g c = λ e.
    turn-refused (g.W.Wire.traffic c.args.wire.now) (g.W.Wire.traffic c.receive_one.new.wire) (g.C.Clerk.told c.args.clerk.now) (g.C.Clerk.told c.submit_one.new.clerk)
    (receipt_of c.in_ok-received.received) c.in_ok-received.ensures.received c.receive_one.ensures.sent c.in_ok-received.ensures.right c.in_err-submit_one.ensures.refused

pub returns-in_err-submit_one-clause-ended : goal.returns-in_err-submit_one-clause-ended
returns-in_err-submit_one-clause-ended g c = λ e.
    turn-refused (g.W.Wire.traffic c.args.wire.now) (g.W.Wire.traffic c.receive_one.new.wire) (g.C.Clerk.told c.args.clerk.now) (g.C.Clerk.told c.submit_one.new.clerk)
    (receipt_of c.in_ok-received.received) c.in_ok-received.ensures.received c.receive_one.ensures.sent c.in_ok-received.ensures.right c.in_err-submit_one.ensures.refused

pub returns-in-Ok-clause-made : goal.returns-in-Ok-clause-made
returns-in-Ok-clause-made g c =
    turn-made (g.W.Wire.traffic c.args.wire.now) (g.W.Wire.traffic c.receive_one.new.wire) (g.W.Wire.traffic c.carry_out.new.wire)
    (g.C.Clerk.told c.args.clerk.now) (g.C.Clerk.told c.submit_one.new.clerk) (g.C.Clerk.told c.carry_out.new.clerk)
    c.args.pumped.now c.receive_one.new.pumped c.carry_out.new.pumped (receipt_of c.in_ok-received.received) c.submit_one.new.out c.actions.result.now
    c.in_ok-received.ensures.received c.receive_one.ensures.sent c.in_ok-received.ensures.right c.in_ok-received.ensures.counts
    c.in_ok-submit_one.ensures.taken c.facts.ensures c.actions.ensures c.in-Ok.ensures.all

pub returns-in-Err-clause-no_memory : goal.returns-in-Err-clause-no_memory
returns-in-Err-clause-no_memory g c = λ e.
    turn-broken (g.W.Wire.traffic c.args.wire.now) (g.W.Wire.traffic c.receive_one.new.wire) (g.W.Wire.traffic c.carry_out.new.wire)
    (g.C.Clerk.told c.args.clerk.now) (g.C.Clerk.told c.submit_one.new.clerk) (g.C.Clerk.told c.carry_out.new.clerk)
    c.receive_one.new.pumped c.carry_out.new.pumped (receipt_of c.in_ok-received.received) c.submit_one.new.out c.actions.result.now
    c.in_ok-received.ensures.received c.receive_one.ensures.sent c.in_ok-received.ensures.right
    c.in_ok-submit_one.ensures.taken c.actions.ensures c.in-Err.ensures.some
