use Rattle.std.proofs.Common.{true, ap, ◌∙◌}
use Rattle.pending_fetch.specs.Indexes.{is_sorted}
use Rattle.pending_fetch.proofs.clients.WaitingClients.search.Goals as goal

pub search_both-requires : goal.search_both-requires
search_both-requires c = ap is_sorted c.as_slices.ensures.items ∙ c.self.invariant.1

pub returns : goal.returns
returns c = rw (← c.self.view_is, ← c.as_slices.ensures.items) c.search_both.ensures
