use Rattle.std.proofs.Common.{ap, ◌∙◌}
use Rattle.object_store.specs.Pairs.{entry_at}
use Rattle.object_store.proofs.PairLemmas.{last_absent}
use Rattle.object_store.proofs.pairs.copy_pairs.Goals as goal

pub add_pair-requires-clause-absent : goal.add_pair-requires-clause-absent
add_pair-requires-clause-absent c =
    ap (λ k. entry_at k c.least.copy.entries) c.in_ok-key.ensures
    ∙ last_absent c.in-Some.key.now c.in-Some.entry.now c.next_back.new.self c.least.rest c.least.copy.entries c.args.pairs.now.entries c.in-Some.ensures.steps
    c.least.invariant.pairs c.len.ensures.valid.0
