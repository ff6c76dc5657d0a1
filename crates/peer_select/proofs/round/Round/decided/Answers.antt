use Rattle.std.proofs.Common.{ap, sym, ◌∙◌}
use Rattle.peer_select.specs.Poll.{decided}
use Rattle.peer_select.proofs.Keeps.{decided_hit, decided_within}
use Rattle.peer_select.proofs.round.Round.decided.Goals as goal

pub returns-then-is_some : goal.returns-then-is_some
returns-then-is_some c = decided_hit _ _ _ _ _ _ c.self.invariant.1 (sym c.is_some.ensures ∙ c.if-is_some.true) ∙ ap decided c.self.view_is

pub returns : goal.returns
returns c =
    decided_within _ _ _ _ _ _ _ c.self.invariant.0.legal c.self.invariant.1 c.if-not-self.false c.if-self.false (sym c.is_some.ensures ∙ c.if-is_some.false)
    c.is_within.ensures
    ∙ ap decided c.self.view_is
