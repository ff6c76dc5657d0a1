use Rattle.std.proofs.Common.{◌≡◌, ap, sym, ◌∙◌, subst, Some}
use Rattle.pending_fetch.specs.Fetches.{fetch_of, changed, with_next}
use Rattle.plain_node.specs.PlainNode.{PlainNode, at_clock, with_fetches}
use Rattle.plain_node.proofs.Keeps.{fetch_changed}
use Rattle.plain_node.proofs.Crowds.{number_next}
use Rattle.plain_node.proofs.Lent.{number_is}
use Rattle.plain_node.proofs.Endings.{gone_on}
use Rattle.plain_node.proofs.core_node.Core.go_on.Goals as goal

pub returns-clause-plain : goal.returns-clause-plain
returns-clause-plain c = λ f found.
    let number = c.args.number in
    let node = at_clock c.args.self.now c.args.now in
    let e : c.advance.new.self ≡ with_fetches node (changed with_next number node.fetches.list) = c.advance.ensures ∙ ap (λ (n : PlainNode). with_fetches n (changed with_next number n.fetches.list)) c.tick.ensures in
    let next = subst (λ (n : PlainNode). fetch_of number n.fetches.list ≡ Some (with_next f)) (sym e) (fetch_changed with_next number node.fetches.list f number_next found) in
    c.try_source.ensures.node (with_next f) next ∙ ap (λ p. p.0) (gone_on node c.advance.new.self number f (number_is number node.fetches.list f found) e)

pub returns-clause-actions : goal.returns-clause-actions
returns-clause-actions c = λ f found.
    let number = c.args.number in
    let node = at_clock c.args.self.now c.args.now in
    let e : c.advance.new.self ≡ with_fetches node (changed with_next number node.fetches.list) = c.advance.ensures ∙ ap (λ (n : PlainNode). with_fetches n (changed with_next number n.fetches.list)) c.tick.ensures in
    let next = subst (λ (n : PlainNode). fetch_of number n.fetches.list ≡ Some (with_next f)) (sym e) (fetch_changed with_next number node.fetches.list f number_next found) in
    rw c.requires at c.try_source.ensures.actions (with_next f) next ∙ ap (λ p. p.1) (gone_on node c.advance.new.self number f (number_is number node.fetches.list f found) e)
