use Rattle.mio_queries.proofs.PumpLemmas.{broken-none}
use Rattle.mio_queries.proofs.turns.pump.Goals as goal

pub returns-in_default-clause-no_memory : goal.returns-in_default-clause-no_memory
returns-in_default-clause-no_memory g c = λ e.
    broken-none (g.W.Wire.traffic c.args.wire.now) (g.C.Clerk.told c.args.clerk.now) c.args.turns
