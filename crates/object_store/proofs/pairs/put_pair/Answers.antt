use Rattle.std.proofs.Common.{◌≡◌, ◌-◌, ◌≤◌, Some, None, length, sym, ap, ◌∙◌, arith}
use Rattle.lru.specs.LruCache.{lru_cache}
use Rattle.object_store.specs.Pairs.{entry_at}
use Rattle.object_store.proofs.PairLemmas.{put-is, put-sum-new, put-sum-old}
use Rattle.object_store.proofs.pairs.put_pair.Goals as goal

pub overflow_sub-result : goal.overflow_sub-result
overflow_sub-result c =
    let old : entry_at c.args.key c.args.pairs.now.entries ≡ Some c.in-Some.old = sym c.in_ok-put.ensures.old ∙ c.in-Some.is in
    (put-sum-old c.args.key c.args.entry c.in-Some.old c.args.pairs.now.entries _ c.size.result c.args.sum c.args.octets c.len.ensures.valid.0 old
    (ap length c.as_slice-key_octets.ensures.value) c.size.ensures c.requires.sum c.requires.octets c.requires.room).0

pub returns-in-None-clause-pairs : goal.returns-in-None-clause-pairs
returns-in-None-clause-pairs c =
    let few : length c.args.pairs.now.entries ≤ c.args.pairs.now.cap - 1 = omega arith in
    c.in_ok-put.ensures.entries ∙ ap (λ ps. lru_cache ps c.args.pairs.now.cap) (put-is c.args.pairs.now c.args.key c.args.entry few c.len.ensures.valid.0)

pub returns-in-None-clause-sum : goal.returns-in-None-clause-sum
returns-in-None-clause-sum c =
    let none : entry_at c.args.key c.args.pairs.now.entries ≡ None = sym c.in_ok-put.ensures.old ∙ c.in-None.is in
    put-sum-new c.args.key c.args.entry c.args.pairs.now.entries c.args.sum c.args.octets c.len.ensures.valid.0 none c.requires.sum c.requires.octets

pub returns-in-Some-clause-pairs : goal.returns-in-Some-clause-pairs
returns-in-Some-clause-pairs c =
    let few : length c.args.pairs.now.entries ≤ c.args.pairs.now.cap - 1 = omega arith in
    c.in_ok-put.ensures.entries ∙ ap (λ ps. lru_cache ps c.args.pairs.now.cap) (put-is c.args.pairs.now c.args.key c.args.entry few c.len.ensures.valid.0)

pub returns-in-Some-clause-sum : goal.returns-in-Some-clause-sum
returns-in-Some-clause-sum c =
    let old : entry_at c.args.key c.args.pairs.now.entries ≡ Some c.in-Some.old = sym c.in_ok-put.ensures.old ∙ c.in-Some.is in
    (put-sum-old c.args.key c.args.entry c.in-Some.old c.args.pairs.now.entries _ c.size.result c.args.sum c.args.octets c.len.ensures.valid.0 old
    (ap length c.as_slice-key_octets.ensures.value) c.size.ensures c.requires.sum c.requires.octets c.requires.room).1
