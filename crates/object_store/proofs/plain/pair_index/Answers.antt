use Rattle.std.proofs.Common.{◌≡◌, Some, length, slice_get, refl, sym}
use Rattle.std.proofs.lemmas.Option.{slice_get_read}
use Rattle.object_store.proofs.PlainLemmas.{place-found}
use Rattle.object_store.proofs.plain.pair_index.Goals as goal

pub returns-then-eq-clause-found : goal.returns-then-eq-clause-found
returns-then-eq-clause-found c =
    let at : slice_get c.args.pairs.now c.loop-place.place ≡ Some c.index-pairs-place.result =
    slice_get_read c.args.pairs.now (length c.args.pairs.now) c.loop-place.place c.index-pairs-place.result refl c.loop-place-test.true c.index-pairs-place.is in
    let same : c.args.key.now ≡ c.index-pairs-place.result.0 = c.eq.ensures.same.0 c.if-eq.true in
    (c.index-pairs-place.result, at, sym same, place-found c.args.key.now c.args.pairs.now c.loop-place.place c.index-pairs-place.result c.loop-place.invariant at same)
