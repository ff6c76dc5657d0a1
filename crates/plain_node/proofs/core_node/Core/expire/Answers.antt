use Rattle.std.proofs.Common.{◌≡◌, ◌∙◌, ap, ◌++◌}
use Rattle.pending_fetch.specs.Fetches.{Fetches, waiters_of}
use Rattle.plain_node.specs.PlainNode.{PlainNode}
use Rattle.plain_node.proofs.RoundLemmas.{expired_at, waiters_of-ended}
use Rattle.plain_node.proofs.core_node.Core.expire.Goals as goal

pub decide-requires : goal.decide-requires
decide-requires c =
    let waiting : waiters_of c.args.number c.end_round.new.self.fetches.list ≡ waiters_of c.args.number c.args.self.now.fetches.list =
    ap (λ (p : PlainNode). waiters_of c.args.number p.fetches.list) c.end_round.ensures ∙ waiters_of-ended c.args.number c.count_misses.new.self.fetches.list
    ∙ ap (λ (f : Fetches). waiters_of c.args.number f.list) c.count_misses.ensures.fetches in
    record { room = rw waiting c.requires.room }

pub returns-clause-plain : goal.returns-clause-plain
returns-clause-plain c = λ fetch found.
    let at = expired_at c.args.self.now c.count_misses.new.self c.end_round.new.self c.args.number fetch (c.count_misses.ensures.missed fetch found) c.end_round.ensures found in
    c.decide.ensures.node _ at.0 ∙ ap (λ step. step.0) at.1

pub returns-clause-actions : goal.returns-clause-actions
returns-clause-actions c = λ fetch found.
    let at = expired_at c.args.self.now c.count_misses.new.self c.end_round.new.self c.args.number fetch (c.count_misses.ensures.missed fetch found) c.end_round.ensures found in
    c.decide.ensures.actions _ at.0 ∙ ap (λ step. c.args.out.now ++ step.1) at.1
