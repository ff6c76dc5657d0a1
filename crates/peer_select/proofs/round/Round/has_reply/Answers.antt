use Rattle.std.proofs.Common.{ap, ◌∙◌}
use Rattle.peer_select.specs.Poll.{Poll, has_reply}
use Rattle.peer_select.proofs.Keeps.{beyond_held}
use Rattle.peer_select.proofs.round.Round.has_reply.Goals as goal

pub returns-then-self-n : goal.returns-then-self-n
returns-then-self-n c =
    beyond_held _ _ _ _ _ _ _ c.args.n c.self.invariant.0 c.if-self-n.true ∙ ap (λ (p : Poll). has_reply p.replies c.args.n) c.self.view_is
