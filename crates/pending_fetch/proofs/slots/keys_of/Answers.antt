use Rattle.std.proofs.Common.{◌<◌, length, refl, ◌∙◌, arith}
use Rattle.std.proofs.lemmas.List.{get_or_default}
use Rattle.pending_fetch.specs.Cells.{nothing}
use Rattle.pending_fetch.proofs.Keyed.{keyed_more}
use Rattle.pending_fetch.proofs.slots.keys_of.Goals as goal

pub loop-place-preserved : goal.loop-place-preserved
loop-place-preserved c = λ key.
    let inside : c.loop-place.place < length c.args.slots.now = omega (arith, c.len-place-end.ensures, c.loop-place-test.true) in
    c.in_ok-open.ensures.ok key
    ∙ keyed_more c.args.slots.now c.loop-place.place c.get.result.now c.requires inside (c.get.ensures ∙ get_or_default c.args.slots.now c.loop-place.place nothing c.get.result.now inside) key _ (c.loop-place.invariant key)
