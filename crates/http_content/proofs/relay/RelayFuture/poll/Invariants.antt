use Rattle.futures.specs.Task.{Keeps}
use Rattle.http_content.proofs.relay.RelayFuture.poll.Given as goal

abbrev pub invariant-loop : goal.invariant-loop
invariant-loop g l = Keeps l.fn.cx l.cx × g.B.Body.can_poll l.self.body
