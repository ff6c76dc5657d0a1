use Rattle.std.proofs.Common.{true, ap, ◌∙◌}
use Rattle.peer_select.specs.Poll.{Poll, matches}
use Rattle.peer_select.proofs.round.Round.start.Goals as goal

pub returns-clause-matching : goal.returns-clause-matching
returns-clause-matching c =
    ap (λ (p : Poll). matches c.args.table.now.neighbours p.peers) c.begin.ensures
    ∙ c.matching_law.ensures.begun c.args.table.now true c.args.now
