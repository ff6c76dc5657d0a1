use Rattle.std.proofs.Common.{rules}
use Rattle.capture.proofs.Taking.{took_more, took_none}
use Rattle.capture.proofs.record.fill.Goals as goal
use Rattle.capture.proofs.record.fill.Goals.{in-Ok, in-Err+else-ne}

pub turns-preserved : goal.turns-preserved
turns-preserved g c =
    elim c.match-read.branch [
      | in-Ok w ↦
          rw w.at-is
          (search rules, search rules, took_more _ _ _ c.turns.at w.in-Ok.n c.turns.octets c.read.new.buf c.turns.invariant.1 w.in-Ok.ensures.bound.0 c.turns.invariant.2 w.in-Ok.ensures.bytes.0)
      | in-Err+else-ne w ↦
          rw w.at-is
          (search rules, search rules, took_none _ _ _ c.turns.at c.turns.octets c.read.new.buf c.turns.invariant.1 c.turns.invariant.2 w.in-Err.ensures.bytes)
    ]
