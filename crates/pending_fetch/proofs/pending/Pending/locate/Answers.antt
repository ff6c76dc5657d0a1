use Rattle.std.proofs.Common.{ap, sym, ◌∙◌}
use Rattle.std.specs.Option.{option_map}
use Rattle.pending_fetch.specs.Calls.{told}
use Rattle.pending_fetch.proofs.Spots.{no_fetch}
use Rattle.pending_fetch.proofs.pending.Pending.locate.Goals as goal

pub returns-in_default-clause-fetch : goal.returns-in_default-clause-fetch
returns-in_default-clause-fetch c = sym (ap (option_map told) (no_fetch c.args.number c.args.self.now.list (sym c.place.ensures ∙ c.in_default.is)))
