use Rattle.std.proofs.Common.{ap, sym, ◌∙◌, slice_get, take, Bool}
use Rattle.peer_select.specs.Choice.{parents_left, last_sources}
use Rattle.peer_select.specs.Poll.{Poll}
use Rattle.peer_select.proofs.Keeps.{left-is}
use Rattle.peer_select.proofs.round.Round.from_last.Goals as goal

pub returns : goal.returns
returns c =
    c.parent_left.ensures
    ∙ ap (λ l. slice_get l c.args.place) (left-is _ _ c.args.hit c.args.parent c.self.invariant.1.refused_is 0 (take c.self.inside.count c.self.inside.peers))
    ∙ ap (λ (p : Poll). slice_get (parents_left p.replies c.args.hit c.args.parent 0 p.peers) c.args.place) c.self.view_is
    ∙ ap (λ (b : Bool). slice_get (last_sources c.args.self.now c.args.hit c.args.parent b) c.args.place) (sym c.if-origin.false)
