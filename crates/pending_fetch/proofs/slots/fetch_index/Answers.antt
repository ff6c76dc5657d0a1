use Rattle.std.proofs.Common.{ap, ◌∙◌, ◌==◌}
use Rattle.std.specs.List.{position}
use Rattle.pending_fetch.proofs.Spots.{position-numbers}
use Rattle.pending_fetch.proofs.slots.fetch_index.Goals as goal

pub returns : goal.returns
returns c = c.fetch_index.ensures ∙ ap (position (λ n. n == c.args.number)) c.requires ∙ position-numbers c.args.number c.args.slots.now
