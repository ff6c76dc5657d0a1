use Rattle.futures.specs.Task.{Keeps}
use Rattle.http_fetches.proofs.early.DoormanTend.poll_tend.Given as goal

abbrev pub invariant-loop : goal.invariant-loop
invariant-loop g l = Keeps l.fn.cx l.cx
