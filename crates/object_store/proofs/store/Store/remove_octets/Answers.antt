use Rattle.std.proofs.Common.{◌≡◌, Some, None, refl, sym, ◌∙◌}
use Rattle.object_store.specs.Pairs.{entry_at}
use Rattle.object_store.proofs.SumLemmas.{absent-summed, removed-size, removed-summed, removed-is}
use Rattle.object_store.proofs.store.Store.remove_octets.Goals as goal

pub invariant_of-self : goal.invariant_of-self
invariant_of-self c =
    let none : entry_at c.args.key.now c.self.inside.pairs.entries ≡ None = sym c.pop.ensures.value ∙ c.in_default.is in
    absent-summed c.self.inside.most_entries c.self.inside.most_octets c.self.inside.sum c.self.inside.pairs.cap c.args.key.now c.self.inside.pairs.entries c.pop.new.self
    c.self.invariant none c.pop.ensures.entries

pub returns-in_default-clause-changed : goal.returns-in_default-clause-changed
returns-in_default-clause-changed c =
    removed-is c.self.inside.most_entries c.self.inside.most_octets c.self.inside.pairs.cap c.args.key.now c.self.inside.pairs.entries c.pop.new.self c.args.self.now
    c.self.view_is c.len.ensures.valid.0 c.pop.ensures.entries

pub overflow_sub-self : goal.overflow_sub-self
overflow_sub-self c =
    let some : entry_at c.args.key.now c.self.inside.pairs.entries ≡ Some c.in-Some.removed = sym c.pop.ensures.value ∙ c.in-Some.is in
    removed-size c.self.inside.most_entries c.self.inside.most_octets c.self.inside.sum c.self.inside.pairs.cap _ c.size.result c.args.key.now c.in-Some.removed c.self.inside.pairs.entries
    c.self.invariant some refl c.size.ensures

pub invariant_of-self-2 : goal.invariant_of-self-2
invariant_of-self-2 c =
    let some : entry_at c.args.key.now c.self.inside.pairs.entries ≡ Some c.in-Some.removed = sym c.pop.ensures.value ∙ c.in-Some.is in
    removed-summed c.self.inside.most_entries c.self.inside.most_octets c.self.inside.sum c.self.inside.pairs.cap _ c.size.result c.args.key.now c.in-Some.removed c.self.inside.pairs.entries
    c.pop.new.self c.self.invariant some refl c.size.ensures c.pop.ensures.entries

pub returns-clause-changed : goal.returns-clause-changed
returns-clause-changed c =
    removed-is c.self.inside.most_entries c.self.inside.most_octets c.self.inside.pairs.cap c.args.key.now c.self.inside.pairs.entries c.pop.new.self c.args.self.now
    c.self.view_is c.len.ensures.valid.0 c.pop.ensures.entries
