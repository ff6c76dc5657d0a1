use Rattle.std.proofs.Common.{take}
use Rattle.mio_queries.specs.Pumping.{Carries}
use Rattle.mio_queries.proofs.turns.carry_out.Given as goal

abbrev pub invariant-loop-action : goal.invariant-loop-action
invariant-loop-action g l = Carries (g.W.Wire.traffic l.fn.wire) (g.W.Wire.traffic l.wire) (g.C.Clerk.told l.fn.clerk) (g.C.Clerk.told l.clerk) l.fn.pumped l.pumped (take l.action-index l.actions)
