use Rattle.std.proofs.Common.{◌≡◌, true, false, sym, ◌∙◌}
use Rattle.object_store.specs.Pairs.{is_fresh}
use Rattle.object_store.proofs.PlainLemmas.{plain-stale, plain-fresh}
use Rattle.object_store.proofs.plain.PlainStore.touch.Goals as goal

pub returns-then-not-is_fresh-clause-changed : goal.returns-then-not-is_fresh-clause-changed
returns-then-not-is_fresh-clause-changed c =
    let stale : is_fresh c.args.now c.remove-pair.result.1 ≡ false = sym c.is_fresh.ensures ∙ c.if-not-is_fresh.true in
    (plain-stale c.self.inside.most_entries c.self.inside.most_octets c.args.now c.args.key.now c.self.inside.pairs.items c.deref.result.now c.remove-pair.new.self.items c.leave_out.new.pairs.items
    c.in-Some.place c.remove-pair.result c.args.self.now c.self.view_is c.deref.ensures.value c.in-Some.ensures.found c.remove-pair.ensures.value c.remove-pair.ensures.items c.leave_out.ensures.pairs stale).0

pub returns-then-not-is_fresh-clause-value : goal.returns-then-not-is_fresh-clause-value
returns-then-not-is_fresh-clause-value c =
    let stale : is_fresh c.args.now c.remove-pair.result.1 ≡ false = sym c.is_fresh.ensures ∙ c.if-not-is_fresh.true in
    (plain-stale c.self.inside.most_entries c.self.inside.most_octets c.args.now c.args.key.now c.self.inside.pairs.items c.deref.result.now c.remove-pair.new.self.items c.leave_out.new.pairs.items
    c.in-Some.place c.remove-pair.result c.args.self.now c.self.view_is c.deref.ensures.value c.in-Some.ensures.found c.remove-pair.ensures.value c.remove-pair.ensures.items c.leave_out.ensures.pairs stale).1

pub returns-clause-changed : goal.returns-clause-changed
returns-clause-changed c =
    let fresh : is_fresh c.args.now c.remove-pair.result.1 ≡ true = sym c.is_fresh.ensures ∙ c.if-not-is_fresh.false in
    (plain-fresh c.self.inside.most_entries c.self.inside.most_octets c.args.now c.args.key.now c.self.inside.pairs.items c.deref.result.now c.remove-pair.new.self.items c.leave_out.new.pairs.items
    c.insert.new.self.items c.in-Some.place c.remove-pair.result c.args.self.now c.self.view_is c.deref.ensures.value c.in-Some.ensures.found c.remove-pair.ensures.value c.remove-pair.ensures.items
    c.leave_out.ensures.pairs fresh (rw c.unwrap.ensures at c.insert.ensures.items)).0

pub returns-clause-value : goal.returns-clause-value
returns-clause-value c =
    let fresh : is_fresh c.args.now c.remove-pair.result.1 ≡ true = sym c.is_fresh.ensures ∙ c.if-not-is_fresh.false in
    (plain-fresh c.self.inside.most_entries c.self.inside.most_octets c.args.now c.args.key.now c.self.inside.pairs.items c.deref.result.now c.remove-pair.new.self.items c.leave_out.new.pairs.items
    c.insert.new.self.items c.in-Some.place c.remove-pair.result c.args.self.now c.self.view_is c.deref.ensures.value c.in-Some.ensures.found c.remove-pair.ensures.value c.remove-pair.ensures.items
    c.leave_out.ensures.pairs fresh (rw c.unwrap.ensures at c.insert.ensures.items)).1
