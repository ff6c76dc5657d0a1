use Rattle.std.proofs.Common.{ap, ◌∙◌}
use Rattle.neighbours.specs.Rows.{secret_of}
use Rattle.neighbours.proofs.Names.{found-named, all-named, copied-some}
use Rattle.neighbours.proofs.table.Table.secret.Goals as goal

pub returns-clause-named : goal.returns-clause-named
returns-clause-named c found =
    let rows = c.self.inside in
    found-named c.args.name.now rows.keys.items (all-named rows.neighbours.items rows.keys.items c.self.invariant.named)
    (copied-some c.secret_in.result _ (λ x. x.now) (c.secret_in.ensures ∙ ap (λ keys. secret_of keys c.args.name.now) c.deref.ensures.value) found)
