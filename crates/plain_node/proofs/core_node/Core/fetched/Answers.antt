use Rattle.std.proofs.Common.{◌≡◌, true, false, OnOk, ap, sym, ◌∙◌, rules}
use Rattle.pending_fetch.specs.Fetches.{fetch_of}
use Rattle.plain_node.specs.PlainNode.{at_clock}
use Rattle.plain_node.specs.Outcomes.{ended_step}
use Rattle.plain_node.proofs.Endings.{ignored, counting}
use Rattle.plain_node.proofs.core_node.Core.fetched.Goals as goal

pub returns-then-not-counts-clause-plain : goal.returns-then-not-counts-clause-plain
unfolding ended_step
returns-then-not-counts-clause-plain c =
    let node = at_clock c.args.self.now c.args.now in
    let r : c.counts.result ≡ false = search rules in
    c.tick.ensures ∙ sym (ap (λ p. p.0) (ignored node c.args.attempt c.args.outcome.now (fetch_of c.args.number node.fetches.list) c.counts.result c.counts.ensures.pending r))

pub returns-then-not-counts-clause-actions : goal.returns-then-not-counts-clause-actions
unfolding ended_step
returns-then-not-counts-clause-actions c =
    let node = at_clock c.args.self.now c.args.now in
    let r : c.counts.result ≡ false = search rules in
    c.requires ∙ sym (ap (λ p. p.1) (ignored node c.args.attempt c.args.outcome.now (fetch_of c.args.number node.fetches.list) c.counts.result c.counts.ensures.pending r))

pub returns-clause-plain : goal.returns-clause-plain
unfolding ended_step
returns-clause-plain c =
    let node = at_clock c.args.self.now c.args.now in
    let r : c.counts.result ≡ true = search rules in
    counting (λ p. OnOk c.counted.result (c.counted.new.self ≡ p.0)) node c.args.attempt c.args.outcome.now (fetch_of c.args.number node.fetches.list) c.counts.result c.counts.ensures.pending c.counts.ensures.absent r c.counted.ensures.plain

pub returns-clause-actions : goal.returns-clause-actions
unfolding ended_step
returns-clause-actions c =
    let node = at_clock c.args.self.now c.args.now in
    let r : c.counts.result ≡ true = search rules in
    counting (λ p. OnOk c.counted.result (c.counted.new.out ≡ p.1)) node c.args.attempt c.args.outcome.now (fetch_of c.args.number node.fetches.list) c.counts.result c.counts.ensures.pending c.counts.ensures.absent r c.counted.ensures.actions
