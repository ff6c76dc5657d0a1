use Rattle.std.proofs.Common.{◌∙◌, sym, refl, arith, below_more}
use Rattle.node_book.proofs.settle.all_opened.Goals as goal

pub returns-then-at_place-ne1 : goal.returns-then-at_place-ne1
returns-then-at_place-ne1 g c =
    ((λ h. cc), (λ all. absurd (c.if-at_place-ne1.true (c.at_place.ensures ∙ all.each_once c.loop-place.place c.loop-place-test.true))))

pub loop-place-preserved : goal.loop-place-preserved
loop-place-preserved g c = below_more _ _ c.loop-place.invariant (sym c.at_place.ensures ∙ c.if-at_place-ne1.false)

pub returns : goal.returns
returns g c =
    ((λ h. record { as_many = c.if-seats-count.false; each_once = λ p lt. c.loop-place.invariant p (omega arith) }), (λ all. refl))
