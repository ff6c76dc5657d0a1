use Rattle.std.proofs.Common.{◌≡◌, ◌≤◌, ◌++◌, List, length, Some, ap, sym, ◌∙◌, subst, arith}
use Rattle.pending_fetch.specs.Fetches.{fetch_of, next_number}
use Rattle.node_words.specs.declared.action.Action.{Action}
use Rattle.plain_node.specs.PlainNode.{PlainNode, at_clock}
use Rattle.plain_node.specs.Sources.{decision_step}
use Rattle.plain_node.specs.Fitting.{asked, asking}
use Rattle.plain_node.proofs.Opens.{entered, entrant, entered_found, opening_is, length_asking}
use Rattle.plain_node.proofs.core_node.Core.open.Goals as goal

pub decide-requires : goal.decide-requires
decide-requires c =
    let old = c.args.self.now in
    let asks = subst (λ (x : List Action). length x ≤ 64) (sym c.in_ok-number.ensures.ok) (length_asking (at_clock old c.args.now) (next_number old.fetches) c.args.key.now c.args.shared c.few.ensures) in
    record { room = omega (arith, asks, c.facts-2.ensures.few c.in_ok-number.number) }

pub returns-clause-plain : goal.returns-clause-plain
returns-clause-plain c =
    let old = c.args.self.now in
    let key = c.args.key.now in
    let f = entrant old c.args.now c.args.client key c.args.shared in
    let e : c.ask_store.new.self ≡ asked (entered old c.args.now c.args.client key c.args.shared) key c.args.shared = c.ask_store.ensures ∙ ap (λ (n : PlainNode). asked n key c.args.shared) c.in_default.ensures.ok in
    let found = subst (λ (n : PlainNode). fetch_of c.in_ok-number.number n.fetches.list ≡ Some f) (sym e) (rw c.in_ok-number.ensures.number (entered_found old c.args.now c.args.client key c.args.shared c.next_law.ensures c.facts.ensures.legal.few)) in
    c.decide.ensures.node f found ∙ ap (λ (n : PlainNode). (decision_step n f).0) e ∙ sym (ap (λ p. p.0) (opening_is old c.args.now c.args.client key c.args.shared (sym c.is_full.ensures ∙ c.if-is_full.false)))

pub returns-clause-actions : goal.returns-clause-actions
returns-clause-actions c =
    let old = c.args.self.now in
    let key = c.args.key.now in
    let f = entrant old c.args.now c.args.client key c.args.shared in
    let e : c.ask_store.new.self ≡ asked (entered old c.args.now c.args.client key c.args.shared) key c.args.shared = c.ask_store.ensures ∙ ap (λ (n : PlainNode). asked n key c.args.shared) c.in_default.ensures.ok in
    let found = subst (λ (n : PlainNode). fetch_of c.in_ok-number.number n.fetches.list ≡ Some f) (sym e) (rw c.in_ok-number.ensures.number (entered_found old c.args.now c.args.client key c.args.shared c.next_law.ensures c.facts.ensures.legal.few)) in
    c.decide.ensures.actions f found ∙ ap (λ x. x ++ (decision_step c.ask_store.new.self f).1) c.in_ok-number.ensures.ok ∙ ap (λ (n : PlainNode). asking (at_clock old c.args.now) (next_number old.fetches) key c.args.shared ++ (decision_step n f).1) e
    ∙ sym (ap (λ p. p.1) (opening_is old c.args.now c.args.client key c.args.shared (sym c.is_full.ensures ∙ c.if-is_full.false)))
