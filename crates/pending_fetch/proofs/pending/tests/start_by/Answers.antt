use Rattle.std.proofs.Common.{◌<◌, length, sym, ap, ◌∙◌, arith, nat_le}
use Rattle.pending_fetch.specs.Fetches.{PendingFetch}
use Rattle.pending_fetch.specs.Cells.{nothing}
use Rattle.pending_fetch.proofs.Tests.{all_more, one_fails}
use Rattle.pending_fetch.proofs.pending.tests.start_by.Goals as goal

pub loop-place-preserved : goal.loop-place-preserved
loop-place-preserved c =
    let inside : c.loop-place.place < length c.args.slots.now = omega (arith, c.len-place-end.ensures, c.loop-place-test.true) in
    all_more (λ (fetch : PendingFetch). nat_le fetch.round.start c.args.start) c.args.slots.now c.loop-place.place nothing inside c.loop-place.invariant
    (ap (λ (fetch : PendingFetch). nat_le fetch.round.start c.args.start) (sym c.get.ensures) ∙ sym c.starts.ensures ∙ c.if-not-starts.false)

pub returns-then-not-starts : goal.returns-then-not-starts
returns-then-not-starts c =
    let inside : c.loop-place.place < length c.args.slots.now = omega (arith, c.len-place-end.ensures, c.loop-place-test.true) in
    sym (one_fails (λ (fetch : PendingFetch). nat_le fetch.round.start c.args.start) c.args.slots.now c.loop-place.place nothing inside
    (ap (λ (fetch : PendingFetch). nat_le fetch.round.start c.args.start) (sym c.get.ensures) ∙ sym c.starts.ensures ∙ c.if-not-starts.true))
