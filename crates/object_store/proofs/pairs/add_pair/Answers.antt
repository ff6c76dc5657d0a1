use Rattle.std.proofs.Common.{◌≤◌, ◌-◌, length, ap, ◌∙◌, arith}
use Rattle.lru.specs.LruCache.{lru_cache}
use Rattle.object_store.proofs.PairLemmas.{put-absent}
use Rattle.object_store.proofs.pairs.add_pair.Goals as goal

pub returns-in-Ok : goal.returns-in-Ok
returns-in-Ok c =
    let few : length c.args.pairs.now.entries ≤ c.args.pairs.now.cap - 1 = omega arith in
    c.in-Ok.ensures.entries
    ∙ ap (λ ps. lru_cache ps c.args.pairs.now.cap) (put-absent c.args.pairs.now c.args.key c.args.entry few c.len.ensures.valid.0 c.requires.absent)
