use Rattle.mio_queries.specs.Pumping.{Pumps, nothing}
use Rattle.mio_queries.proofs.turns.pump_with.Given as goal

abbrev pub invariant-loop-made : goal.invariant-loop-made
invariant-loop-made g l = Pumps (g.W.Wire.traffic l.fn.wire) (g.W.Wire.traffic l.wire) (g.C.Clerk.told l.fn.clerk) (g.C.Clerk.told l.clerk) nothing l.pumped l.made
