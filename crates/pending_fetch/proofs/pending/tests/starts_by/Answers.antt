use Rattle.std.proofs.Common.{ap, ◌∙◌, nat_le}
use Rattle.std.specs.List.{list_all}
use Rattle.pending_fetch.specs.Fetches.{Fetches, PendingFetch, starts}
use Rattle.pending_fetch.proofs.Calling.{starts_all}
use Rattle.pending_fetch.proofs.pending.tests.starts_by.Goals as goal

pub returns : goal.returns
returns c =
    c.start_by.ensures
    ∙ starts_all c.args.start c.pending.inside.slots
    ∙ ap (λ (v : Fetches). list_all (λ one. nat_le one c.args.start) (starts v.list)) c.pending.view_is
