use Rattle.futures.specs.Task.{Keeps}
use Rattle.dialing.proofs.racing.Dialing.poll_attempts.Given as goal

abbrev pub invariant-loop-place : goal.invariant-loop-place
invariant-loop-place g l = Keeps l.fn.cx l.cx
