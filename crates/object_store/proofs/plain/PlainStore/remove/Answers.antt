use Rattle.object_store.proofs.PlainLemmas.{plain-removed}
use Rattle.object_store.proofs.plain.PlainStore.remove.Goals as goal

pub returns-clause-changed : goal.returns-clause-changed
returns-clause-changed c =
    plain-removed c.self.inside.most_entries c.self.inside.most_octets c.args.key.now c.self.inside.pairs.items c.deref.result.now c.remove-entry.new.self.items c.leave_out-2.new.pairs.items
    c.in-Some.place c.args.self.now c.self.view_is c.deref.ensures.value c.in-Some.ensures.found c.remove-entry.ensures.items c.leave_out-2.ensures.pairs
