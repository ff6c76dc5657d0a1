use Rattle.std.proofs.Common.{Some, ap, sym, ◌∙◌}
use Rattle.std.specs.Option.{option_map}
use Rattle.pending_fetch.specs.Fetches.{Fetches, fetch_of}
use Rattle.pending_fetch.specs.FetchIndex.{fetch_index}
use Rattle.pending_fetch.specs.Calls.{told}
use Rattle.pending_fetch.specs.Cells.{nothing}
use Rattle.pending_fetch.proofs.Spots.{fetch_at}
use Rattle.pending_fetch.proofs.pending.Pending.fetch_at.Goals as goal

pub returns : goal.returns
returns c =
    ap (λ t. Some t) (c.lent.ensures ∙ ap told c.get.ensures)
    ∙ sym (ap (option_map told) (fetch_at c.args.number c.self.inside.slots c.args.place nothing (ap (λ (w : Fetches). fetch_index c.args.number w.list) c.self.view_is ∙ c.requires)))
    ∙ ap (λ (w : Fetches). option_map told (fetch_of c.args.number w.list)) c.self.view_is
