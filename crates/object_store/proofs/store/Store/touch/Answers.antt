use Rattle.std.proofs.Common.{◌≡◌, Some, None, true, false, sym, ap, ◌∙◌}
use Rattle.std.specs.Option.{option_copied}
use Rattle.object_store.specs.Pairs.{entry_at, is_fresh}
use Rattle.object_store.proofs.SumLemmas.{missed-summed, missed-is, moved-summed, fresh-is, stale-is}
use Rattle.object_store.proofs.store.Store.touch.Goals as goal

pub invariant_of-self : goal.invariant_of-self
invariant_of-self c =
    let none : entry_at c.args.key.now c.self.inside.pairs.entries ≡ None = sym c.get.ensures.value ∙ ap option_copied c.in_default.is in
    missed-summed c.self.inside.most_entries c.self.inside.most_octets c.self.inside.sum c.self.inside.pairs.cap c.args.key.now c.self.inside.pairs.entries c.get.follows.lender-at-none
    c.self.invariant none c.get.follows.holds-at-none

pub returns-in_default-clause-changed : goal.returns-in_default-clause-changed
returns-in_default-clause-changed c =
    let none : entry_at c.args.key.now c.self.inside.pairs.entries ≡ None = sym c.get.ensures.value ∙ ap option_copied c.in_default.is in
    missed-is c.self.inside.most_entries c.self.inside.most_octets c.self.inside.pairs.cap c.args.now c.args.key.now c.self.inside.pairs.entries c.get.follows.lender-at-none c.args.self.now
    c.self.view_is none c.get.follows.holds-at-none

pub invariant_of-self-then-is_fresh : goal.invariant_of-self-then-is_fresh
invariant_of-self-then-is_fresh c =
    let some : entry_at c.args.key.now c.self.inside.pairs.entries ≡ Some c.in-Some.entry.now = sym c.get.ensures.value ∙ ap option_copied c.in-Some.is in
    moved-summed c.self.inside.most_entries c.self.inside.most_octets c.self.inside.sum c.self.inside.pairs.cap c.args.key.now c.in-Some.entry.now c.self.inside.pairs.entries
    c.get.follows.lender-at-none c.self.invariant c.len.ensures.valid.0 some c.get.follows.holds-at-none

pub returns-then-is_fresh-clause-changed : goal.returns-then-is_fresh-clause-changed
returns-then-is_fresh-clause-changed c =
    let some : entry_at c.args.key.now c.self.inside.pairs.entries ≡ Some c.in-Some.entry.now = sym c.get.ensures.value ∙ ap option_copied c.in-Some.is in
    let fresh : is_fresh c.args.now c.in-Some.entry.now ≡ true = sym c.is_fresh.ensures ∙ c.if-is_fresh.true in
    fresh-is c.self.inside.most_entries c.self.inside.most_octets c.self.inside.pairs.cap c.args.now c.args.key.now c.in-Some.entry.now c.self.inside.pairs.entries
    c.get.follows.lender-at-none c.args.self.now c.self.view_is c.len.ensures.valid.0 some fresh c.get.follows.holds-at-none

pub invariant_of-self-2 : goal.invariant_of-self-2
invariant_of-self-2 c =
    let some : entry_at c.args.key.now c.self.inside.pairs.entries ≡ Some c.in-Some.entry.now = sym c.get.ensures.value ∙ ap option_copied c.in-Some.is in
    moved-summed c.self.inside.most_entries c.self.inside.most_octets c.self.inside.sum c.self.inside.pairs.cap c.args.key.now c.in-Some.entry.now c.self.inside.pairs.entries
    c.get.follows.lender-at-none c.self.invariant c.len.ensures.valid.0 some c.get.follows.holds-at-none

pub returns-clause-changed : goal.returns-clause-changed
returns-clause-changed c =
    let some : entry_at c.args.key.now c.self.inside.pairs.entries ≡ Some c.in-Some.entry.now = sym c.get.ensures.value ∙ ap option_copied c.in-Some.is in
    let stale : is_fresh c.args.now c.in-Some.entry.now ≡ false = sym c.is_fresh.ensures ∙ c.if-is_fresh.false in
    stale-is c.self.inside.most_entries c.self.inside.most_octets c.self.inside.pairs.cap c.args.now c.args.key.now c.in-Some.entry.now c.self.inside.pairs.entries
    c.get.follows.lender-at-none c.args.self.now c.remove.new.self c.self.view_is c.len.ensures.valid.0 some stale c.get.follows.holds-at-none c.remove.ensures.changed
