use Rattle.std.proofs.Common.{◌≡◌, Some, length, ap, arith}
use Rattle.lru.specs.LruCache.{last_entry}
use Rattle.object_store.proofs.PairLemmas.{last-none, taken}
use Rattle.object_store.proofs.pairs.drop_last.Goals as goal

pub overflow_sub-result : goal.overflow_sub-result
overflow_sub-result c =
    let last : last_entry c.args.pairs.now.entries ≡ Some (c.in-Some.key, c.in-Some.entry) = cc in
    (taken c.args.pairs.now.entries c.in-Some.key c.in-Some.entry _ c.size.result c.args.sum last (ap length c.as_slice.ensures.value) c.size.ensures c.requires (omega arith)).0

pub returns-in-None-clause-sum : goal.returns-in-None-clause-sum
returns-in-None-clause-sum c = last-none c.args.pairs.now.entries c.args.sum (cc) c.requires

pub returns-in-Some-clause-sum : goal.returns-in-Some-clause-sum
returns-in-Some-clause-sum c =
    let last : last_entry c.args.pairs.now.entries ≡ Some (c.in-Some.key, c.in-Some.entry) = cc in
    (taken c.args.pairs.now.entries c.in-Some.key c.in-Some.entry _ c.size.result c.args.sum last (ap length c.as_slice.ensures.value) c.size.ensures c.requires (omega arith)).1
